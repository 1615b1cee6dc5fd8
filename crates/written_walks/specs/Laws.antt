-- What presolve writes is a proof of its reduction.
use Rattle.std.specs.Prelude.{◌≡◌, ℕ, true, List, None}
use Rattle.fractions.specs.declared.Numbers.{Numbers}
use Rattle.fractions.specs.declared.Numbers.TheVariants.{Fractions}
use Rattle.lp_model.specs.Meaning.{meaning}
use Rattle.lp_model.specs.Optimality.{Continuous}
use Rattle.lp_model.specs.ProgramData.{ProgramData}
use Rattle.mps_profile.specs.Program.{program_of}
use Rattle.mps_profile.specs.Reading.{first_fault}
use Rattle.mps_profile.specs.declared.dialect.Dialect.{Dialect}
use Rattle.mps_profile.specs.declared.dialect.Format.{Format}
use Rattle.undo_records.specs.Postsolve.{Postsolve}
use Rattle.presolve_model.specs.Workers.{Workers}
use Rattle.presolve_model.specs.declared.conclusion.Options.{Options}
use Rattle.walk_laws.specs.Walk.{Walk}
use Rattle.whole_way.specs.Texts.{IsProgramText, IsRecordText, PresolveWrites}

-- a format with these numbers
abbrev pub dialect_of : Format → Numbers → Dialect
dialect_of format numbers = record { format = format; numbers = numbers }

-- IN's text gives this program where fractions are taken, OUT's this reduced one and REC's these records, which walk
pub record AreProof (format : Format) (input out undoing : List ℕ) : Type 0 where
  pub reduced : ProgramData
  pub told : Postsolve
  pub sound : first_fault (dialect_of format Fractions) input ≡ None
  pub program_text : IsProgramText out reduced
  pub records_text : IsRecordText undoing told
  pub walks : Walk (program_of (dialect_of format Fractions) input) reduced told

-- presolve read IN by its numbers without a fault, and wrote OUT and REC; records that undo duals are asked for only where no column is
-- whole or semi-continuous
abbrev pub WrittenRecordsWalk : Type 0
WrittenRecordsWalk = (options : Options) (workers : Workers) (format : Format) (input out undoing : List ℕ)
    → first_fault (dialect_of format options.numbers) input ≡ None
    → PresolveWrites options workers (program_of (dialect_of format options.numbers) input) out undoing
    → (options.dual ≡ true → Continuous (meaning (program_of (dialect_of format options.numbers) input)))
    → AreProof format input out undoing
