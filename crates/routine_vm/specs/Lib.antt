pub mod Kept
pub mod Sites
pub mod Frames
pub mod States
pub mod Steps
pub mod Ready
pub mod Events
pub mod Held
