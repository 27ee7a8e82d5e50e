pub mod NameClients
pub mod NameLengths
pub mod NamesFound
pub mod Renamed
pub mod SlotBytes
pub mod WrittenSlots
