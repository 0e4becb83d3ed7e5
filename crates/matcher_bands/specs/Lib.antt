pub mod Centring
pub mod Smoothed
