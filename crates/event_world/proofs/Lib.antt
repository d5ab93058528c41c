pub mod Caller
pub mod Turns
pub mod Meant
pub mod Courses
pub mod Examples
