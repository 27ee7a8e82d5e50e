pub mod Disk
pub mod Calls
pub mod DiskCalls
pub mod Fairness
pub mod Crashes
pub mod SyncOrder
