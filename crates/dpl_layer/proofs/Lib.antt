pub mod Layers
pub mod Markers
pub mod ManyLayers
