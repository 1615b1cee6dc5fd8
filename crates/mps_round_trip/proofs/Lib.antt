mod BoundCards
mod CardWords
pub mod Naming
mod Program
mod RangeCards
mod Ready
pub mod Round
mod Said
pub mod Widths
