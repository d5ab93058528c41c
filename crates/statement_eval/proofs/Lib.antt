pub mod Equations
pub mod Sizes
pub mod Words
pub mod Calls
pub mod Loops
pub mod AreaLemmas
