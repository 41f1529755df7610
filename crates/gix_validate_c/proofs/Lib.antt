pub mod FlagLemmas
pub mod Rows
pub mod NumbersWritten
pub mod NoEmptyBranch
pub mod TagFaults
