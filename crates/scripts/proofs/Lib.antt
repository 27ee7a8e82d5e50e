mod BadLines
mod CloseLines
pub mod CommandSteps
pub mod JoinedRuns
mod KeptRuns
pub mod OwnRuns
mod PoolSteps
mod Refusals
mod Relations
