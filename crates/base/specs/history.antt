pub mod Sequences
pub mod Contents
pub mod Plans
pub mod History
pub mod Laws
pub mod Past
