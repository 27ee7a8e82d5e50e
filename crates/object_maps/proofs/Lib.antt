pub mod ObjectReads
pub mod BlockReads
