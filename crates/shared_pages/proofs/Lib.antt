pub mod Shelves
pub mod Fitting
pub mod Held
pub mod Giving
