pub mod Locks
pub mod Table
pub mod Pieces
pub mod Rows
pub mod Parts
