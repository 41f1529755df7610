pub mod AcceptedPaths
pub mod UnclearNames
pub mod ReadNames
pub mod InputReports
pub mod GivenNames
pub mod AllValid
pub mod Repairs
mod Rows
