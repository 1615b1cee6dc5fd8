pub mod NewIds
pub mod Standing
