pub mod Counts
pub mod LineCuts
pub mod EventLists
pub mod Workers
pub mod ScriptParts
pub mod WorkedScripts
