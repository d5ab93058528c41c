pub mod Follows
pub mod Lists
pub mod Sums
pub mod Fits
pub mod Changes
pub mod Areas
