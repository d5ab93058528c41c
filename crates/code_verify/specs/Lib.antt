pub mod Kinds
pub mod Rules
pub mod Walk
pub mod Stacks
pub mod Tests
pub mod Laws
