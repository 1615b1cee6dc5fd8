pub mod Weights
pub mod Netting
pub mod Weighing
pub mod Handing
pub mod Moving
