pub mod FitLaws
pub mod FrontLaws
