pub mod Commands
pub mod Words
pub mod Line
pub mod Found
pub mod Rows
pub mod Seen
