pub mod Rows
pub mod RowsOfHistory
pub mod RowsOfSteps
pub mod RowsOfSyncs
