pub mod AreaLemmas
pub mod AskedLemmas
pub mod Codes
pub mod ListLemmas
pub mod RowLemmas
pub mod SizeLemmas
pub mod StatementSizes
pub mod Targets
