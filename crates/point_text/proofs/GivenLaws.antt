-- A text without a fault gives one number to each name that it has.
use Rattle.std.proofs.Common.{◌≡◌, ◌≢◌, ℕ, zero, suc, ◌<◌, List, [], ◌∷◌, length, Bool, true, false, cond, Option, Some, None, Result, refl, sym, ap, ap₂, ◌∙◌, arith}
use Rattle.std.specs.Prelude.{Ok, Err, slice_index_or, codes, is_some, unwrap_or}
use Rattle.std.specs.Str.{bytes_eq}
use Rattle.std.proofs.lemmas.Slice.Eq.{bytes_eq-Decides}
use Rattle.fractions.specs.Number.{Number, zero_ℚ}
use Rattle.number_texts.specs.declared.reading.ReadNumber.{ReadNumber}
use Rattle.number_texts.specs.declared.reading.ReadNumber as reasons
use Rattle.exact_texts.specs.Texts.{Reading}
use Rattle.text_lines.specs.Lines.{lines_of}
use Rattle.text_lines.proofs.FaultLaws.{later_none}
use Rattle.mps_profile.specs.Texts.{Text}
use Rattle.mps_profile.specs.Fields.{fields_of}
use Rattle.point_text.specs.SolutionLines.{Line, Silent, Gives, Odd, line_with, line_of}
use Rattle.point_text.specs.Values.{number_in, value_named_by, value_of_by}
use Rattle.point_text.specs.Faults.{is_past, is_bad, first_of, line_fault_by}
use Rattle.point_text.specs.Reading.{fault_from_by, first_fault_by, said_from, said}
use Rattle.point_text.specs.Given.{IsGiven}
use Rattle.point_text.specs.declared.faults.SolFaultKind.TheVariants.{UnknownName, TwiceNamed, NumberPast, BadNumber}
use Rattle.point_text.proofs.Unbroken.{differ, same}

-- no test of a table holds
pub record Untold (a b c d : Bool) : Type 0 where
  pub first : a ≡ false
  pub second : b ≡ false
  pub third : c ≡ false
  pub fourth : d ≡ false

untold : (a b c d : Bool) → first_of ((a, UnknownName) ∷ (b, TwiceNamed) ∷ (c, NumberPast) ∷ (d, BadNumber) ∷ []) ≡ None → Untold a b c d
untold true b c d is = cc
untold false true c d is = cc
untold false false true d is = cc
untold false false false true is = cc
untold false false false false is = record { first = refl; second = refl; third = refl; fourth = refl }

number_read : (o : Result Number ReadNumber) → is_past o ≡ false → is_bad o ≡ false → o ≡ Ok (number_in o)
number_read (Ok value) past bad = refl
number_read (Err reasons.TheVariants.NotNumber) past bad = cc
number_read (Err reasons.TheVariants.NumberPast) past bad = cc

-- a later line without a fault leaves a value as it is
kept_by : (r : Reading) (before : List Line) (other name : Text) (v : Number) (new : Option Number) (b : Bool) → bytes_eq other name ≡ b → value_named_by r before name ≡ Some v
    → is_some (value_named_by r before other) ≡ false → cond b new (value_named_by r before name) ≡ Some v
kept_by r before other name v new true is here none =
    let same : value_named_by r before other ≡ Some v = ap (value_named_by r before) ((bytes_eq-Decides other name).0 is) ∙ here in
    let found : is_some (value_named_by r before other) ≡ true = ap is_some same in cc
kept_by r before other name v new false is here none = here

kept_line : (r : Reading) (names : List Text) (before : List Line) (line : Line) (name : Text) (v : Number) → line_fault_by r names before line ≡ None → value_named_by r before name ≡ Some v
    → value_named_by r (line ∷ before) name ≡ Some v
kept_line r names before Silent name v sound here = here
kept_line r names before (Gives other number) name v sound here =
    kept_by r before other name v _ (bytes_eq other name) refl here (untold _ _ _ _ sound).second
kept_line r names before Odd name v sound here = cc

kept : (r : Reading) (names : List Text) (before : List Line) (lines : List Text) (name : Text) (v : Number) → fault_from_by r names before lines ≡ None → value_named_by r before name ≡ Some v
    → value_named_by r (said_from before lines) name ≡ Some v
kept r names before [] name v sound here = here
kept r names before (line ∷ after) name v sound here =
    let parts = later_none _ _ _ sound in
    kept r names (line_of line ∷ before) after name v parts.1 (kept_line r names before (line_of line) name v parts.0 here)

-- a line that gives a number
pub record Counts (r : Reading) (lines : List Line) (name number : Text) : Type 0 where
  pub named : value_named_by r lines name ≡ Some (number_in (r number))
  pub sound : r number ≡ Ok (number_in (r number))

counts_here : (r : Reading) (names : List Text) (before : List Line) (line : Text) (after : List Text) (name number : Text) → fault_from_by r names before (line ∷ after) ≡ None
    → line_of line ≡ Gives name number → Counts r (said_from before (line ∷ after)) name number
counts_here r names before line after name number sound is =
    let parts = later_none _ _ _ sound in
    let clear = untold _ _ _ _ (ap (line_fault_by r names before) (sym is) ∙ parts.0) in
    let here : value_named_by r (line_of line ∷ before) name ≡ Some (number_in (r number)) =
    ap (λ l. value_named_by r (l ∷ before) name) is ∙ ap (λ (b : Bool). cond b (Some (number_in (r number))) (value_named_by r before name)) (same name) in
    record { named = kept r names (line_of line ∷ before) after name _ parts.1 here; sound = number_read (r number) clear.third clear.fourth }

counts_at : (r : Reading) (names : List Text) (before : List Line) (lines : List Text) (k : ℕ) (line name number : Text) → fault_from_by r names before lines ≡ None → k < length lines
    → slice_index_or lines k line ≡ line → line_of line ≡ Gives name number → Counts r (said_from before lines) name number
counts_at r names before [] k line name number sound within at is = absurd (omega (arith, within))
counts_at r names before (first ∷ after) zero line name number sound within at is = counts_here r names before first after name number sound (ap line_of at ∙ is)
counts_at r names before (first ∷ after) (suc k) line name number sound within at is =
    counts_at r names (line_of first ∷ before) after k line name number (later_none _ _ _ sound).1 (omega (arith, within)) at is

gives : (line name number : Text) → fields_of line ≡ name ∷ number ∷ [] → name ≢ codes "=obj=" → line_of line ≡ Gives name number
gives line name number fields counts = ap line_with fields ∙ ap (λ (b : Bool). cond b Silent (Gives name number)) (differ name (codes "=obj=") counts)

pub given : (r : Reading) (names : List Text) (text : List ℕ) (name number : Text) → first_fault_by r names text ≡ None → IsGiven text name number
    → r number ≡ Ok (value_of_by r (said text) name)
given r names text name number sound g =
    let c = counts_at r names [] (lines_of text) g.stands.0 g.line name number sound g.stands.1 g.stands.2 (gives g.line name number g.fields g.counts) in
    c.sound ∙ sym (ap (λ (o : Option Number). Ok (unwrap_or o zero_ℚ)) c.named)

-- a line that gives a number has two fields
pub record HasFields (line name number : Text) : Type 0 where
  pub fields : fields_of line ≡ name ∷ number ∷ []
  pub counts : name ≢ codes "=obj="

fields_by : (line first second name number : Text) (b : Bool) → fields_of line ≡ first ∷ second ∷ [] → bytes_eq first (codes "=obj=") ≡ b → cond b Silent (Gives first second) ≡ Gives name number
    → HasFields line name number
fields_by line first second name number true fields is gives = cc
fields_by line first second name number false fields is gives =
    let named : first ≡ name = cc in
    let numbered : second ≡ number = cc in
    record {
      fields = fields ∙ ap₂ (λ (x y : Text). x ∷ y ∷ []) named numbered;
      counts = λ objective. let equal : bytes_eq first (codes "=obj=") ≡ true = (bytes_eq-Decides first (codes "=obj=")).1 (named ∙ objective) in cc;
    }

fields_given : (line name number : Text) (fields : List Text) → fields_of line ≡ fields → line_with fields ≡ Gives name number → HasFields line name number
fields_given line name number [] is gives = cc
fields_given line name number (first ∷ []) is gives = cc
fields_given line name number (first ∷ second ∷ []) is gives = fields_by line first second name number (bytes_eq first (codes "=obj=")) is refl gives
fields_given line name number (first ∷ second ∷ third ∷ more) is gives = cc

-- no line gives a number to a name
abbrev IsMissing : List Text → Text → Type 0
IsMissing lines name = (k : ℕ) (line number : Text) → k < length lines → slice_index_or lines k line ≡ line → line_of line ≡ Gives name number → ⊥

missing_by : (r : Reading) (before : List Line) (other name : Text) (new : Option Number) (b : Bool) → bytes_eq other name ≡ b → (other ≡ name → ⊥) → cond b new (value_named_by r before name) ≡ value_named_by r before name
missing_by r before other name new true is apart = absurd (apart ((bytes_eq-Decides other name).0 is))
missing_by r before other name new false is apart = refl

missing_line : (r : Reading) (before : List Line) (line : Line) (name : Text) → ((number : Text) → line ≡ Gives name number → ⊥) → value_named_by r (line ∷ before) name ≡ value_named_by r before name
missing_line r before Silent name none = refl
missing_line r before (Gives other number) name none = missing_by r before other name _ (bytes_eq other name) refl (λ same. none number (ap (λ n. Gives n number) same))
missing_line r before Odd name none = refl

missing_from : (r : Reading) (before : List Line) (lines : List Text) (name : Text) → IsMissing lines name → value_named_by r (said_from before lines) name ≡ value_named_by r before name
missing_from r before [] name none = refl
missing_from r before (line ∷ after) name none =
    missing_from r (line_of line ∷ before) after name (λ k l number within at. none (suc k) l number (omega (arith, within)) at)
    ∙ missing_line r before (line_of line) name (λ number is. none 0 line number (omega arith) refl is)

pub missing : (r : Reading) (text : List ℕ) (name : Text) → ((number : Text) → ¬ (IsGiven text name number)) → value_of_by r (said text) name ≡ zero_ℚ
missing r text name none =
    ap (λ (o : Option Number). unwrap_or o zero_ℚ)
    (missing_from r [] (lines_of text) name
    (λ k line number within at is.
    let has = fields_given line name number (fields_of line) refl is in
    none number (record { line = line; stands = (k, within, at); fields = has.fields; counts = has.counts })))
