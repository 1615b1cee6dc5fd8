-- The lines of what is refused or left.
use Rattle.std.specs.Prelude.{◌≡◌, ◌⊎◌, ℕ, false, List, [], ◌∷◌, ◌++◌, Option, Some, None, IfSome, codes}
use Rattle.fractions.specs.Number.{Number, ◌-ℚ◌}
use Rattle.fractions.specs.Places.{is_decimal}
use Rattle.number_texts.specs.Written.{written}
use Rattle.lp_model.specs.ProgramData.{ProgramData}
use Rattle.problem_model.specs.declared.edit.Edit.{Edit}
use Rattle.problem_model.specs.declared.edit.Edit.TheVariants.{SetSides, SetBounds, SetCost, SetEntry}
use Rattle.problem_model.specs.Sparse.{Sparse}
use Rattle.presolve_model.specs.declared.instance.Instance.{Instance}
use Rattle.presolve_model.specs.declared.instance.Instance.TheVariants as at
use Rattle.presolve_model.specs.declared.outcome.Outcome.{Outcome}
use Rattle.presolve_model.specs.declared.outcome.Outcome.TheVariants.{Past, NotDecimal}
use Rattle.presolve_model.specs.Tables.{edits}
use Rattle.run_report.specs.declared.look.Held.{Held}
use Rattle.run_report.specs.Naming.{instance_text}

-- ---- a number that is not decimal
-- the width of two finite ends
abbrev pub IsWidth : Option Number → Option Number → Number → Type 0
IsWidth (Some l) (Some u) q = q ≡ u -ℚ l
IsWidth l u q = ⊥

-- an end, or the width
abbrev pub IsOfRange : Option Number → Option Number → Number → Type 0
IsOfRange l u q = (l ≡ Some q) ⊎ ((u ≡ Some q) ⊎ IsWidth l u q)

-- a number that an edit makes
abbrev pub IsOfEdit : Edit → Number → Type 0
IsOfEdit (SetSides i l u) q = IsOfRange l u q
IsOfEdit (SetBounds j l u) q = IsOfRange l u q
IsOfEdit (SetCost j c) q = c ≡ q
IsOfEdit (SetEntry i j v) q = v ≡ q
IsOfEdit other q = ⊥

abbrev pub IsOfEdits : List Edit → Number → Type 0
IsOfEdits [] q = ⊥
IsOfEdits (e ∷ es) q = IsOfEdit e q ⊎ IsOfEdits es q

-- it is no decimal number, and a reduction would make it
pub record IsOdd (es : List Edit) (q : Number) : Type 0 where
  pub made : IsOfEdits es q
  pub odd : is_decimal q ≡ false

-- ---- the line
abbrev pub odd_text : Option Number → List ℕ
odd_text None = []
odd_text (Some q) = codes " (" ++ (written q ++ codes ")")

abbrev pub IsOddOf : Instance → Sparse → Option Number → Type 0
IsOddOf (at.Reduction r) p found = IfSome found (IsOdd (edits r p))
IsOddOf (at.Verdict v) p found = found ≡ None

-- a number is past, or one is no decimal number, with such a one if there is one to tell; else it was left
abbrev pub IsReason : Sparse → Instance → Outcome → List ℕ → Type 0
IsReason p e Past reason = reason ≡ codes ": past"
IsReason p e NotDecimal reason = (found : Option Number) × IsOddOf e p found × (reason ≡ codes ": not decimal" ++ odd_text found)
IsReason p e other reason = reason ≡ codes ": left"

-- the code, the names and the reason
abbrev pub IsHeldLine : ProgramData → Sparse → Held → List ℕ → Type 0
IsHeldLine program p h line = (reason : List ℕ) × IsReason p h.instance h.answer reason × (line ≡ instance_text program h.instance ++ (reason ++ 10 ∷ []))

-- a text with a line more
pub record Adds (Is : List ℕ → Type 0) (old new : List ℕ) : Type 0 where
  pub line : List ℕ
  pub is : Is line
  pub added : new ≡ old ++ line
