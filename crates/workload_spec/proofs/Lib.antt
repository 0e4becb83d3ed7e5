-- The theorems of specs/Figures.antt and specs/LoadLaws.antt.
pub mod Figures
pub mod Draws
pub mod Values
pub mod Times
pub mod Regular
pub mod Accepted
pub mod Filled
