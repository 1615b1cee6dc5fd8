-- The answers of what is computed before a change.
use Rattle.std.specs.Prelude.{◌≡◌, ⊤, Result, Ok, Err, List}
use Rattle.undo_pairs.specs.Undo.{Undo}
use Rattle.problem_model.specs.declared.refusal.Refusal.{Refusal}
use Rattle.problem_model.specs.declared.refusal.Refusal.TheVariants.{Past, NotDecimal, NoMemory}
use Rattle.problem_model.specs.declared.edit.Edit.{Edit}
use Rattle.rule_words.specs.declared.change.Change.{Change}

-- the numbers fit and can be written, and the answer is so; or they don't fit; or they do and can't be written
abbrev pub Answers : {T : Type 0} → Type 0 → Type 0 → (T → Type 0) → Result T Refusal → Type 0
Answers Fit Written Is (Ok answer) = Fit × Written × Is answer
Answers Fit Written Is (Err Past) = Fit → ⊥
Answers Fit Written Is (Err NotDecimal) = Fit × (Written → ⊥)
Answers Fit Written Is (Err NoMemory) = ⊤

-- these edits, with this record
pub record IsChange (es : List Edit) (u : Undo) (c : Change) : Type 0 where
  pub edits : c.edits.items ≡ es
  pub record_is : c.undo ≡ u

abbrev pub Changes : Type 0 → List Edit → Undo → Result Change Refusal → Type 0
Changes Computes es u r = Answers Computes ⊤ (IsChange es u) r
