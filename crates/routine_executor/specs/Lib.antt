-- cited by public contracts
pub mod Executing
pub mod Jobs
-- steps of the code
pub mod Places
