pub mod Records
pub use Rattle.undo_pairs.specs.LiftPair
