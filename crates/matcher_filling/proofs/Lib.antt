pub mod FillLaws
