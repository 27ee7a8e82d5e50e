mod Copies
mod GoodLines
mod PoolLines
pub mod Readings
mod Zips
