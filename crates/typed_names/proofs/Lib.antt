pub mod SlashLemmas
pub mod TagLemmas
mod Rows
