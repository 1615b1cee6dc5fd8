-- What preparing a reduction's change may answer, and what may be committed then.
use Rattle.std.specs.Prelude.{◌≡◌, true, Result, Ok, Err}
use Rattle.fractions.specs.declared.Numbers.{Numbers}
use Rattle.problem_model.specs.declared.refusal.Refusal.{Refusal}
use Rattle.problem_model.specs.Sparse.{Sparse}
use Rattle.rule_words.specs.Answers.{IsChange}
use Rattle.rule_words.specs.declared.change.Change.{Change}
use Rattle.presolve_model.specs.declared.instance.Instance.TheVariants as at
use Rattle.presolve_model.specs.declared.instance.Reduction.{Reduction}
use Rattle.presolve_model.specs.After.{AfterAllows}
use Rattle.presolve_model.specs.Changes.{ChangeFits, ChangeIsWritten}
use Rattle.presolve_model.specs.Enabled.{enabled_on}
use Rattle.presolve_model.specs.Tables.{edits, record_of}

-- the change, its edits and its record, of which all numbers may stand; or the refusal that applying it may answer
abbrev pub IsPrepared : Numbers → Reduction → Sparse → Result Change Refusal → Type 0
IsPrepared numbers r p (Ok change) = ChangeFits r p × ChangeIsWritten numbers r p × IsChange (edits r p) (record_of r p) change
IsPrepared numbers r p (Err refusal) = AfterAllows numbers r p (Err refusal) p

-- the change of the enabled reduction r, of which all numbers may stand
abbrev pub IsReady : Numbers → Reduction → Sparse → Change → Type 0
IsReady numbers r p change = (enabled_on p (at.Reduction r) ≡ true) × IsPrepared numbers r p (Ok change)
