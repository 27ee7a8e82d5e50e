pub mod Slots
pub mod Rings
pub mod Laws
