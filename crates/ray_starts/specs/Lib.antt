pub mod EndWeights
pub mod Starts
