pub mod Codes
pub mod Sizes
pub mod Calls
pub mod Stores
