-- What the proofs of narrowing share.
mod Drop
mod Patterns
mod Plain
