pub mod Readings
pub mod Errors
pub mod Laws
pub mod Words
