-- Blocks of sixteen bytes, and what their lanes say of a text.
pub mod Lanes
pub mod Parts
pub mod ByteClasses
