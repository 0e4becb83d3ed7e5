pub mod AnswerLaws
pub mod CaseLaws
pub mod SoundLaws
