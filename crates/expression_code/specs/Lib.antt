pub mod Scopes
pub mod Lists
pub mod Asked
pub mod Areas
pub mod Counts
