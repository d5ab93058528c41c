-- cited by public contracts
pub mod Decimal
