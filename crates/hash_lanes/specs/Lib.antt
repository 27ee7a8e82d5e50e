pub mod Lanes
pub use Rattle.sha2.specs.Sha256
