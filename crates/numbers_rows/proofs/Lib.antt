-- What the proofs of rows share, and those of a row's roots and of its logarithms.
pub mod Rows
mod Range
mod Differences
mod Parts
mod Gaps
mod Settled
mod Sure
mod LogPasses
