pub mod CommonSums
pub mod KeptSides
pub mod KeptSums
pub mod RowTotals
