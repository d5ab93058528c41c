pub mod Searches
pub mod Agreement
pub mod Histories
pub mod StepLaws
pub mod Growth
pub mod Totals
pub mod Leaves
pub mod Rows
mod HistoryRows
pub mod Counting
pub mod Caller
pub mod Closed
