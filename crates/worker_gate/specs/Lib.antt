pub mod Working
pub mod Lending
pub mod Worked
pub mod Acting
