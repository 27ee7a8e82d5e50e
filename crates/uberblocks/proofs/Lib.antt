pub mod SlotParts
pub mod SlotReads
pub mod SlotWrites
pub mod Places
pub mod Chosen
pub mod Images
pub mod Spelling
pub mod Stands
