pub mod Going
pub mod Few
