pub mod StatementParts
pub mod Leaves
pub mod Nested
