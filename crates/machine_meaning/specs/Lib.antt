pub mod Machine
pub mod Runs
pub mod Meaning
pub mod Reaching
pub mod Fitting
pub mod Laws
pub mod Rows
