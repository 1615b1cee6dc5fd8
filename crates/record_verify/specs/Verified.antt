-- What is said of records.
use Rattle.std.specs.Prelude.{◌≡◌, length}
use Rattle.lp_model.specs.ProgramData.{ProgramData}
use Rattle.undo_records.specs.Postsolve.{Postsolve}
use Rattle.record_verify.specs.declared.verdict.Verified.{Verified}
use Rattle.record_verify.specs.declared.verdict.Verified.TheVariants.{No, Yes}
use Rattle.walk_laws.specs.Flaws.{IsFirstFlaw}
use Rattle.walk_laws.specs.Walk.{Walk}

-- yes where the records walk from the program to the reduced one, with their number and offset; no with the first part of that which fails
abbrev pub IsVerified : ProgramData → ProgramData → Postsolve → Verified → Type 0
IsVerified program reduced told (Yes records offset) = Walk program reduced told × (records ≡ length told.undos) × (offset ≡ told.offset)
IsVerified program reduced told (No why) = IsFirstFlaw program reduced told why
