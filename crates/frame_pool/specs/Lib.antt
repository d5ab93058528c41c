pub mod Pool
pub mod Held
pub mod Lending
