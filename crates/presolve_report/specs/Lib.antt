pub mod Report
pub mod Outcomes
pub use Rattle.presolve_rounds.specs.Conclusions
pub use Rattle.presolve_rounds.specs.declared.outcome.DecidedProgram
pub use Rattle.presolve_rounds.specs.declared.outcome.Presolved
pub use Rattle.presolve_rounds.specs.declared.outcome.ReducedProgram
