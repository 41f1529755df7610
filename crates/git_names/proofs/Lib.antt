pub mod ShortNameLemmas
pub mod PathLemmas
pub mod SafeRefLemmas
pub mod SlashLemmas
pub mod SubmoduleLemmas
pub mod SuggestionLemmas
pub mod SuggestionLaws
pub mod NulLemmas
pub mod OffsetLemmas
pub mod JoinLemmas
pub mod MessageLemmas
mod Rows
