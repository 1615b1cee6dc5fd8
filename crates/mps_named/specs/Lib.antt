pub mod Named
pub mod Once
