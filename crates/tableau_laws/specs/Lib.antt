pub mod Variables
pub mod Tableaus
pub mod Keeping
pub mod Room
