pub mod Coefficients
pub mod EndTestsSay
pub mod Named
pub mod Multiples
pub mod TermsInTurn
pub mod Solid
