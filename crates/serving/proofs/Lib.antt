mod LeftClients
mod ServedDevices
mod ServedPools
pub mod Made
pub mod Durable
pub mod ListedBelow
pub mod Room
pub mod ReadParts
pub mod Fronts
pub mod Served
pub mod ClientFrames
pub mod ServedClients
