pub mod Sealing
pub mod Payloads
pub mod Opening
pub mod Laws
pub mod Prepared
pub mod Judged
