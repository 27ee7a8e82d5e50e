pub mod ConfigBlocks
pub mod BestConfigs
pub mod LabelsOfImage
