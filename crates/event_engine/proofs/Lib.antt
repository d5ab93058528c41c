pub mod Resuming
pub mod Simulating
pub mod Scenes
pub mod Playing
