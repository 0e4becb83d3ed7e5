pub mod BandLaws
pub mod CentringLaws
pub mod TimelineLaws
