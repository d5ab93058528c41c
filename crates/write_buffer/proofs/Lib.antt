pub mod Masks
pub mod Touched
pub mod Written
pub mod Frames
pub mod WordKinds
pub mod Views
