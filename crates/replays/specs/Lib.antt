pub mod Digests
pub mod Lines
pub mod Counts
pub mod Sounds
