pub mod QueryLaws
pub mod SearchLaws
