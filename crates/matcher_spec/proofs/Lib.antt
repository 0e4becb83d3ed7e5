-- The theorems of specs/, and below them what they rest on.
pub mod RadiusLaw
pub mod CandidateLaws
pub mod Cases
pub mod RowAccess
pub mod Bounds
pub mod WholeBounds
pub mod PeakLaws
pub mod ResultLaws
pub mod FilledIndex
pub mod CentringBounds
pub mod ScoreBounds
pub mod CandidateBounds
pub mod SoundSearch
pub mod Figures
