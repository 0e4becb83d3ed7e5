-- What the proof of rounding rests on, and that std's floor and ceiling are document 01's.
pub mod Fractions
pub mod Same
