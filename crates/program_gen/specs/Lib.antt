-- cited by public contracts
pub mod Generated
