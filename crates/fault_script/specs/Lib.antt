pub mod Rows
pub mod Acts
pub mod Events
pub mod EventRows
pub mod Pieces
pub mod Scripts
pub mod ScriptRows
pub mod Fixed
