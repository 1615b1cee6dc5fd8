pub mod ComingBack
pub mod ByCases
pub mod Tabled
pub mod Counting
pub mod SameLeft
