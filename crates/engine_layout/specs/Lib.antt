pub mod Layout
pub mod Written
