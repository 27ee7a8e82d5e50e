pub mod Moved
pub mod Turned
pub mod Made
pub mod Answered
pub mod Seen
pub mod AnswersSeen
pub mod ListedObjects
pub mod Tried
pub mod InTime
pub mod CountedTries
pub mod Firsts
pub mod Throttled
pub mod Looked
pub mod Ends
pub mod SafeTurns
pub mod Along
pub mod AloneSteps
pub mod Transacted
pub mod FreshLocks
pub mod Released
pub mod Fetched
pub mod FetchesSeen
pub mod Served
pub mod TransactsSeen
mod TransactsShort
mod ForGood
pub mod PaidSteps
pub mod TransactsRelease
pub mod LongWrites
pub mod OneTurn
pub mod TransactTurns
pub mod Waited
pub mod WaitsSeen
mod DurableLogs
pub mod FsyncedAll
mod TransactLoops
mod TransactsDurably
mod Looped
pub mod FreePools
mod Finished
