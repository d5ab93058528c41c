pub mod Unique
pub mod UniqueParts
pub mod UniqueProgram
