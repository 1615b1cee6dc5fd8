pub mod EmptyRow
pub mod SingletonRow
pub mod FixedColumn
pub mod RoundedBounds
pub mod EmptyColumn
pub mod CrossedBounds
pub mod CrossedSides
