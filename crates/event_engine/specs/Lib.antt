pub mod Simulated
pub mod Scenes
pub mod Resuming
pub mod Simulating
