-- A load for test benches (document 02, Job 7): what is drawn, what is filled and what is refused; then what is proved of them.
pub mod Draws
pub mod Load
pub mod Fill
pub mod LoadLaws
pub mod Figures
