pub mod IgnoredSequences
