pub mod DotLaws
pub mod TileLaws
