pub mod Sequence
pub mod Single
pub mod Rules
pub mod Steps
pub mod Then
