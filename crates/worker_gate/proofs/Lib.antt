pub mod Turns
pub mod Later
pub mod Counting
pub mod Joining
