pub mod Over
pub mod Numerators
pub mod Replaced
pub mod Mended
pub mod Moving
pub mod Crossed
pub mod Totals
pub mod Walks
