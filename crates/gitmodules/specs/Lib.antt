pub mod Sections
pub mod Headers
pub mod Spelled
pub mod SubmoduleNames
