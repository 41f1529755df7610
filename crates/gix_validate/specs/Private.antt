-- What contracts of private functions alone cite: a caller need not believe these.
pub mod Scan
pub mod Adjacent
pub mod Classes
