pub mod Named
pub mod Pieces
pub mod Images
pub mod Updates
pub mod Pages
pub mod Later
pub mod Entries
