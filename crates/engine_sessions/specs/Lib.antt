pub mod Session
pub mod ByAChain
pub mod Computed
pub mod NotEmpty
pub mod Rerun
pub mod Made
