pub mod Certain
pub mod Runs
pub mod NoteLists
pub mod Tracks
pub mod Sound
pub mod Left
pub mod AfterCalls
