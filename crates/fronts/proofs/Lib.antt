pub mod Fronts
pub mod RisingSteps
pub mod FrontsBetween
pub mod OverTurns
pub mod OrderlyCalls
pub mod RisingCalls
pub mod DurableTransactions
mod TwoTransactions
