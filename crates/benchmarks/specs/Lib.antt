pub mod CallTimes
pub mod Devices
pub mod Measured
pub mod Slots
pub mod Sums
pub mod Printed
