-- The theorems of specs/PlaceLaws.antt, then of specs/OneStore.antt.
pub mod Places
pub mod OneStore
