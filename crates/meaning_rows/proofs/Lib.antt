mod Left
mod Charges
mod Order
mod Operators
mod Words
mod Loops
mod Scopes
