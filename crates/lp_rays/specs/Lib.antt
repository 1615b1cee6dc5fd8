pub mod Ray
pub mod RayData
pub mod Nets
pub mod Handing
pub mod Starts
pub mod Steps
