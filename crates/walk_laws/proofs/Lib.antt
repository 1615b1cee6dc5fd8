pub mod Naming
pub mod Reducing
pub mod Running
pub mod OneFlaw
