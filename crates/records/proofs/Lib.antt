pub mod Fields
pub mod AllowedOps
pub mod OpsRead
pub mod WrittenOps
pub mod Loop
pub mod RecordsRead
