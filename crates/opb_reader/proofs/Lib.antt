pub mod Sums
pub mod Least
pub mod HeldRows
pub mod Tables
pub mod Walking
pub mod Ending
pub mod Taking
