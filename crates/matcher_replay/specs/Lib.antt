pub mod Cases
pub mod Sounds
pub mod Digests
pub mod Agreement
