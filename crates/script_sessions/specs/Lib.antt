pub mod Callers
pub mod Plans
pub mod SharedPools
pub mod SharedRuns
