pub mod Unsynced
pub mod LaidReads
pub mod Laws
