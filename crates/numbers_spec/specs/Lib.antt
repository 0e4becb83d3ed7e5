-- The numbers: definitions of each function, in document 01's order; then the words of the statements, and what is proved of floats and of each function.
pub mod Arithmetic
pub mod Whole
pub mod Narrow
pub mod Root
pub mod Exponential
pub mod Logarithm
pub mod Rows
pub mod Values
pub mod FloatLaws
pub mod Nearest
pub mod RootLaws
pub mod WholeLaws
pub mod CountLaws
pub mod ExpLaws
pub mod StepLaws
pub mod LogLaws
pub mod Figures
