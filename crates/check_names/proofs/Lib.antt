pub mod AnswerLemmas
pub mod WriteLemmas
pub mod Rows
