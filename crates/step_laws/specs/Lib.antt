pub mod Laws
pub mod Leaves
pub mod Turns
pub mod Caller
pub mod Closed
pub mod Rows
