pub mod Sums
pub mod Records
pub mod Joining
pub mod RaysBack
