pub mod Expressions
pub mod Programs
pub mod Levels
pub mod Stops
pub mod Spelling
pub mod Texts
