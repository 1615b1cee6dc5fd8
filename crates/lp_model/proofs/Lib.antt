pub mod Differing
pub mod Sums
pub mod Widths
pub mod GapLaws
pub mod GivenPoints
