-- What contracts of private functions alone cite: a caller need not believe these.
pub mod Slashes
pub mod Written
pub mod Starts
