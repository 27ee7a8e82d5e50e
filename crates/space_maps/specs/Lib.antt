pub mod Nodes
pub mod Opening
pub mod Regions
pub mod ToldMaps
pub mod MappedViews
pub mod Laws
