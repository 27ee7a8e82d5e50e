pub mod Committed
mod Endings
mod LeftClients
mod LeftContents
pub mod Pieces
pub mod PutBytes
mod PutClients
mod PutRoom
mod RefusedClients
mod Replaced
mod OneEntries
mod NamedContents
mod NewPieces
mod TableFound
