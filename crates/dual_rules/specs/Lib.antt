pub mod Directions
pub mod Footprints
pub mod Merging
pub mod Pairs
