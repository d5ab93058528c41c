pub mod Declared
pub mod Functions
pub mod Whole
pub mod Depth
pub mod Only
