pub mod Turns
pub mod Ids
pub mod Renumbered
pub mod Optimal
