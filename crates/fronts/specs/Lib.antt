pub mod DurableTransactions
pub mod Fronts
pub mod RisingPools
pub mod SharedPools
