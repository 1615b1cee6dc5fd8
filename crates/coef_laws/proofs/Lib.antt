pub mod CoefficientTightening
pub mod Changing
pub mod Excess
