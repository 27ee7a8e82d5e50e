pub mod CheckedAll
mod Findings
pub mod FoundLabels
pub mod MountedBytes
pub mod OnlyRead
mod PathReads
pub mod PoolLines
pub mod ScopedReads
pub mod Undone
mod ProgressTexts
mod GotNames
mod LinesWritten
mod OpenedReads
mod TableReads
mod PrintedFindings
mod PrintedLabels
pub mod ReadLabels
mod ReportClients
mod WrittenLists
pub mod NamedUndone
mod AskedUndone
