pub mod CrashRounds
pub mod Readings
