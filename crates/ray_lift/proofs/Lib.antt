pub mod Factors
pub mod Shiftings
pub mod Ratios
pub mod Lifts
