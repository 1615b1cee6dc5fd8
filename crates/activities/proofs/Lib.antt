pub mod Halving
pub mod Infinite
pub mod Pieces
pub mod Turned
pub mod Told
pub mod RowLooks
pub mod LastEntry
