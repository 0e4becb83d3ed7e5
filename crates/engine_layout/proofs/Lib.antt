pub mod Laws
pub mod EightRows
pub mod Made
pub mod Lengths
