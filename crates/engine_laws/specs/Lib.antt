pub mod Steps
pub mod Ran
