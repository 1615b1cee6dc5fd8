pub mod Listing
pub mod Pieces
pub mod Sums
pub mod Shares
pub use Rattle.presolve_rounds.specs.Conclusions
pub use Rattle.presolve_rounds.specs.Running
pub use Rattle.presolve_rounds.specs.declared.rounds.Swept
