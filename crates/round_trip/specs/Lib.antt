pub mod Rounds
pub mod Crashes
