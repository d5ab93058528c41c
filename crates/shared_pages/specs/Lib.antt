pub mod Kept
pub mod Shelf
pub mod Cached
pub mod Holding
