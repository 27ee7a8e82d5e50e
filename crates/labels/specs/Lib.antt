pub mod Stages
pub mod ConfigBytes
pub mod Configs
pub mod Choices
pub mod Laws
