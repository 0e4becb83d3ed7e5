-- What the proofs of `mantissa` and `exponent` share.
pub mod Patterns
