pub mod Joined
pub mod Back
mod OneLifting
pub mod Layers
pub mod OneCheck
pub mod OnePostsolve
mod OneMigrate
mod OneGen
mod OnePresolve
