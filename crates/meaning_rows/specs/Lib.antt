pub mod Trees
pub mod Charges
pub mod Order
pub mod Operators
pub mod Words
pub mod Loops
pub mod Scopes
