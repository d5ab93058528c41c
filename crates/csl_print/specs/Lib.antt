pub mod TreeTokens
pub mod Canonical
pub mod Rows
pub mod Layout
pub mod Bare
pub mod Aside
