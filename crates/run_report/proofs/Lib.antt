pub mod Fronts
pub mod FaultLines
pub mod Moving
