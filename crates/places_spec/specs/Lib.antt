pub mod Places
pub mod PlaceLaws
pub mod OneStore
