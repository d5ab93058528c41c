pub mod Effects
pub mod Walking
pub mod Unique
pub mod Complete
pub mod Lists
pub mod Using
pub mod Sharing
pub mod Verifying
