pub mod Bits
pub mod Marks
pub mod Buffered
pub mod Held
pub mod Joined
pub mod Keeping
