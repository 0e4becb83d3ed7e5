pub mod ByAChain
pub mod Answers
pub mod NotEmpty
pub mod Rerun
pub mod Made
