pub mod Ring
pub mod Turns
pub mod Tables
