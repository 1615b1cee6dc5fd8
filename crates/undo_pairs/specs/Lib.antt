pub mod LiftPair
pub mod Numbers
pub use Rattle.undo_records.specs.Ids
pub use Rattle.undo_records.specs.Lift
pub use Rattle.undo_records.specs.Sound
pub use Rattle.undo_records.specs.Walk
pub use Rattle.undo_records.specs.declared.undo.Undo
