-- A text without a fault gives one pair of weights to each name that it has.
use Rattle.std.proofs.Common.{◌≡◌, ◌≢◌, ◌⊎◌, inl, inr, ℕ, zero, suc, ◌<◌, List, [], ◌∷◌, length, Bool, true, false, cond, Option, Some, None, Result, refl, sym, ap, ap₂, ◌∙◌, arith, map}
use Rattle.std.specs.Prelude.{Ok, Err, slice_index_or, codes, is_some}
use Rattle.std.specs.Str.{bytes_eq}
use Rattle.std.proofs.lemmas.Bool.{or_parts}
use Rattle.std.proofs.lemmas.Slice.Eq.{bytes_eq-Decides}
use Rattle.fractions.specs.Number.{Number}
use Rattle.fractions.specs.declared.Numbers.TheVariants.{Fractions}
use Rattle.number_texts.specs.Read.{read_of}
use Rattle.number_texts.specs.declared.reading.ReadNumber.{ReadNumber}
use Rattle.number_texts.specs.declared.reading.ReadNumber as reasons
use Rattle.text_lines.specs.Lines.{lines_of}
use Rattle.text_lines.proofs.FaultLaws.{later_none}
use Rattle.mps_profile.specs.Texts.{Text}
use Rattle.mps_profile.specs.Fields.{fields_of}
use Rattle.point_text.specs.Faults.{is_past, is_bad, first_of}
use Rattle.point_text.specs.Values.{number_in}
use Rattle.point_text.specs.declared.faults.SolFaultKind.TheVariants.{BadLine, UnknownName, TwiceNamed, NumberPast, BadNumber}
use Rattle.ray_text.specs.declared.weights.EndWeights.{EndWeights}
use Rattle.ray_text.specs.RayLines.{Giving, Line, Silent, Opens, OfRow, OfColumn, Odd, line_of_four, line_with, line_of}
use Rattle.ray_text.specs.Given.{of_rows, of_columns, given, weights_in, weights_or_none, no_weights}
use Rattle.ray_text.specs.Faults.{is_open, giving_fault, line_fault}
use Rattle.ray_text.specs.Reading.{fault_from, ray_fault, said_from, said}
use Rattle.ray_text.specs.GivenTo.{IsGiven, row_weights, column_weights}
use Rattle.ray_text.proofs.Places.{given_here, given_elsewhere}

-- no test of a table holds
record Untold (a b c d : Bool) : Type 0 where
  pub second : b ≡ false
  pub third : c ≡ false
  pub fourth : d ≡ false

untold : (a b c d : Bool) → first_of ((a, UnknownName) ∷ (b, TwiceNamed) ∷ (c, NumberPast) ∷ (d, BadNumber) ∷ []) ≡ None → Untold a b c d
untold true b c d is = cc
untold false true c d is = cc
untold false false true d is = cc
untold false false false true is = cc
untold false false false false is = record { second = refl; third = refl; fourth = refl }

number_read : (o : Result Number ReadNumber) → is_past o ≡ false → is_bad o ≡ false → o ≡ Ok (number_in o)
number_read (Ok value) past bad = refl
number_read (Err reasons.TheVariants.NotNumber) past bad = cc
number_read (Err reasons.TheVariants.NumberPast) past bad = cc

open_then : (names : List Text) (before : List Giving) (g : Giving) (b : Bool) → cond b (giving_fault names before g) (Some BadLine) ≡ None → giving_fault names before g ≡ None
open_then names before g true is = is
open_then names before g false is = cc

-- the lines that give weights to rows, or to columns
record IsKind (names rows columns : List Text) (kind : Giving → Line) (of_kind : List Line → List Giving) : Type 0 where
  pub start : of_kind [] ≡ []
  pub own : (before : List Line) (g : Giving) → of_kind (kind g ∷ before) ≡ g ∷ of_kind before
  pub sound : (before : List Line) (g : Giving) → line_fault rows columns before (kind g) ≡ None → giving_fault names (of_kind before) g ≡ None
  pub other : (line : Line) → ((g : Giving) × (line ≡ kind g)) ⊎ ((before : List Line) → of_kind (line ∷ before) ≡ of_kind before)

row_or_not : (line : Line) → ((g : Giving) × (line ≡ OfRow g)) ⊎ ((before : List Line) → of_rows (line ∷ before) ≡ of_rows before)
row_or_not Silent = inr (λ before. refl)
row_or_not Opens = inr (λ before. refl)
row_or_not (OfRow g) = inl (g, refl)
row_or_not (OfColumn g) = inr (λ before. refl)
row_or_not Odd = inr (λ before. refl)

column_or_not : (line : Line) → ((g : Giving) × (line ≡ OfColumn g)) ⊎ ((before : List Line) → of_columns (line ∷ before) ≡ of_columns before)
column_or_not Silent = inr (λ before. refl)
column_or_not Opens = inr (λ before. refl)
column_or_not (OfRow g) = inr (λ before. refl)
column_or_not (OfColumn g) = inl (g, refl)
column_or_not Odd = inr (λ before. refl)

rows_are : (rows columns : List Text) → IsKind rows rows columns OfRow of_rows
rows_are rows columns = record {
  start = refl;
  own = λ before g. refl;
  sound = λ before g is. open_then rows (of_rows before) g (is_open before) is;
  other = row_or_not;
}

columns_are : (rows columns : List Text) → IsKind columns rows columns OfColumn of_columns
columns_are rows columns = record {
  start = refl;
  own = λ before g. refl;
  sound = λ before g is. open_then columns (of_columns before) g (is_open before) is;
  other = column_or_not;
}

module _ (names rows columns : List Text) (kind : Giving → Line) (of_kind : List Line → List Giving) (is_kind : IsKind names rows columns kind of_kind) where
  -- a later line without a fault leaves weights as they are
  new_name : (before : List Giving) (g : Giving) (name : Text) (v : EndWeights) → giving_fault names before g ≡ None → given before name ≡ Some v → g.name ≢ name
  new_name before g name v sound here same =
      let new = (untold _ _ _ _ sound).second in
      let found : is_some (given before g.name) ≡ true = ap (λ (n : Text). is_some (given before n)) same ∙ ap is_some here in cc

  kept_line : (before : List Line) (line : Line) (name : Text) (v : EndWeights) → line_fault rows columns before line ≡ None → given (of_kind before) name ≡ Some v → given (of_kind (line ∷ before)) name ≡ Some v
  kept_line before line name v sound here = by (is_kind.other line)
    where
      by : ((g : Giving) × (line ≡ kind g)) ⊎ ((others : List Line) → of_kind (line ∷ others) ≡ of_kind others) → given (of_kind (line ∷ before)) name ≡ Some v
      by (inl (g, is)) =
          ap (λ (l : Line). given (of_kind (l ∷ before)) name) is ∙ ap (λ (gs : List Giving). given gs name) (is_kind.own before g)
          ∙ given_elsewhere (of_kind before) g name (new_name (of_kind before) g name v (is_kind.sound before g (ap (line_fault rows columns before) (sym is) ∙ sound)) here) ∙ here
      by (inr same) = ap (λ (gs : List Giving). given gs name) (same before) ∙ here

  kept : (before : List Line) (lines : List Text) (name : Text) (v : EndWeights) → fault_from rows columns before (map line_of lines) ≡ None → given (of_kind before) name ≡ Some v
      → given (of_kind (said_from before (map line_of lines))) name ≡ Some v
  kept before [] name v sound here = here
  kept before (line ∷ after) name v sound here =
      let parts = later_none _ _ _ sound in
      kept (line_of line ∷ before) after name v parts.1 (kept_line before (line_of line) name v parts.0 here)

  -- a line that gives weights
  record Counts (lines : List Line) (g : Giving) : Type 0 where
    pub named : given (of_kind lines) g.name ≡ Some (weights_in g)
    pub lower : read_of Fractions g.lower ≡ Ok (weights_in g).lower
    pub upper : read_of Fractions g.upper ≡ Ok (weights_in g).upper

  counts_here : (before : List Line) (line : Text) (after : List Text) (g : Giving) → fault_from rows columns before (line_of line ∷ map line_of after) ≡ None → line_of line ≡ kind g
      → Counts (said_from (line_of line ∷ before) (map line_of after)) g
  counts_here before line after g sound is =
      let parts = later_none _ _ _ sound in
      let clear = untold _ _ _ _ (is_kind.sound before g (ap (line_fault rows columns before) (sym is) ∙ parts.0)) in
      let past = or_parts (is_past (read_of Fractions g.lower)) (is_past (read_of Fractions g.upper)) clear.third in
      let bad = or_parts (is_bad (read_of Fractions g.lower)) (is_bad (read_of Fractions g.upper)) clear.fourth in
      let here : given (of_kind (line_of line ∷ before)) g.name ≡ Some (weights_in g) =
      ap (λ (l : Line). given (of_kind (l ∷ before)) g.name) is ∙ ap (λ (gs : List Giving). given gs g.name) (is_kind.own before g) ∙ given_here (of_kind before) g g.name refl in
      record {
        named = kept (line_of line ∷ before) after g.name (weights_in g) parts.1 here;
        lower = number_read (read_of Fractions g.lower) past.0 bad.0;
        upper = number_read (read_of Fractions g.upper) past.1 bad.1;
      }

  counts_at : (before : List Line) (lines : List Text) (k : ℕ) (line : Text) (g : Giving) → fault_from rows columns before (map line_of lines) ≡ None → k < length lines → slice_index_or lines k line ≡ line
      → line_of line ≡ kind g → Counts (said_from before (map line_of lines)) g
  counts_at before [] k line g sound within at is = absurd (omega (arith, within))
  counts_at before (first ∷ after) zero line g sound within at is = counts_here before first after g sound (ap line_of at ∙ is)
  counts_at before (first ∷ after) (suc k) line g sound within at is =
      counts_at (line_of first ∷ before) after k line g (later_none _ _ _ sound).1 (omega (arith, within)) at is

  given_by : (word : Text) (text : List ℕ) (name lower upper : Text) → ((g : Giving) → line_of_four word g ≡ kind g) → ray_fault rows columns text ≡ None → IsGiven word text name lower upper
      → (read_of Fractions lower ≡ Ok (weights_or_none (given (of_kind (said text)) name)).lower) × (read_of Fractions upper ≡ Ok (weights_or_none (given (of_kind (said text)) name)).upper)
  given_by word text name lower upper says sound h =
      let g : Giving = record { name = name; lower = lower; upper = upper } in
      let c = counts_at [] (lines_of text) h.stands.0 h.line g sound h.stands.1 h.stands.2 (ap line_with h.fields ∙ says g) in
      (c.lower ∙ sym (ap (λ (o : Option EndWeights). Ok (weights_or_none o).lower) c.named), c.upper ∙ sym (ap (λ (o : Option EndWeights). Ok (weights_or_none o).upper) c.named))

  -- no line gives weights to a name
  missing_from : (before : List Line) (lines : List Text) (name : Text) → ((k : ℕ) (line : Text) (g : Giving) → k < length lines → slice_index_or lines k line ≡ line → line_of line ≡ kind g → g.name ≢ name)
      → given (of_kind (said_from before (map line_of lines))) name ≡ given (of_kind before) name
  missing_from before [] name none = refl
  missing_from before (line ∷ after) name none =
      missing_from (line_of line ∷ before) after name (λ k l g within at. none (suc k) l g (omega (arith, within)) at) ∙ by (is_kind.other (line_of line))
    where
      by : ((g : Giving) × (line_of line ≡ kind g)) ⊎ ((others : List Line) → of_kind (line_of line ∷ others) ≡ of_kind others) → given (of_kind (line_of line ∷ before)) name ≡ given (of_kind before) name
      by (inl (g, is)) =
          ap (λ (l : Line). given (of_kind (l ∷ before)) name) is ∙ ap (λ (gs : List Giving). given gs name) (is_kind.own before g)
          ∙ given_elsewhere (of_kind before) g name (none 0 line g (omega arith) refl is)
      by (inr same) = ap (λ (gs : List Giving). given gs name) (same before)

  missing_by : (word : Text) (text : List ℕ) (name : Text) → ((line : Text) (g : Giving) → line_of line ≡ kind g → fields_of line ≡ word ∷ g.name ∷ g.lower ∷ g.upper ∷ [])
      → ((lower upper : Text) → ¬ (IsGiven word text name lower upper)) → weights_or_none (given (of_kind (said text)) name) ≡ no_weights
  missing_by word text name fields none =
      ap weights_or_none (missing_from [] (lines_of text) name (λ k line g within at is same.
      none g.lower g.upper (record { line = line; stands = (k, within, at); fields = fields line g is ∙ ap (λ (n : Text). word ∷ n ∷ g.lower ∷ g.upper ∷ []) same }))
      ∙ ap (λ (gs : List Giving). given gs name) is_kind.start)

-- ---- a line that gives weights has four fields
of_one : (b : Bool) (g : Giving) → cond b Opens Odd ≡ OfRow g → ⊥
of_one true g is = cc
of_one false g is = cc

of_one_column : (b : Bool) (g : Giving) → cond b Opens Odd ≡ OfColumn g → ⊥
of_one_column true g is = cc
of_one_column false g is = cc

row_by : (word : Text) (h g : Giving) (a b : Bool) → bytes_eq word (codes "row") ≡ a → cond a (OfRow h) (cond b (OfColumn h) Odd) ≡ OfRow g → (word ≡ codes "row") × (h ≡ g)
row_by word h g true b is says = ((bytes_eq-Decides word (codes "row")).0 is, cc)
row_by word h g false true is says = cc
row_by word h g false false is says = cc

column_by : (word : Text) (h g : Giving) (a b : Bool) → bytes_eq word (codes "column") ≡ b → cond a (OfRow h) (cond b (OfColumn h) Odd) ≡ OfColumn g → (word ≡ codes "column") × (h ≡ g)
column_by word h g true b is says = cc
column_by word h g false true is says = ((bytes_eq-Decides word (codes "column")).0 is, cc)
column_by word h g false false is says = cc

joined : (word other name lower upper : Text) (g : Giving) → word ≡ other → record { name = name; lower = lower; upper = upper } ≡ g → word ∷ name ∷ lower ∷ upper ∷ [] ≡ other ∷ g.name ∷ g.lower ∷ g.upper ∷ []
joined word other name lower upper g is same = ap₂ (λ (w : Text) (h : Giving). w ∷ h.name ∷ h.lower ∷ h.upper ∷ []) is same

row_fields : (fields : List Text) (g : Giving) → line_with fields ≡ OfRow g → fields ≡ codes "row" ∷ g.name ∷ g.lower ∷ g.upper ∷ []
row_fields [] g is = cc
row_fields (word ∷ []) g is = absurd (of_one (bytes_eq word (codes "=ray=")) g is)
row_fields (word ∷ name ∷ []) g is = cc
row_fields (word ∷ name ∷ lower ∷ []) g is = cc
row_fields (word ∷ name ∷ lower ∷ upper ∷ []) g is =
    let by = row_by word (record { name = name; lower = lower; upper = upper }) g (bytes_eq word (codes "row")) (bytes_eq word (codes "column")) refl is in
    joined word (codes "row") name lower upper g by.0 by.1
row_fields (word ∷ name ∷ lower ∷ upper ∷ fifth ∷ more) g is = cc

column_fields : (fields : List Text) (g : Giving) → line_with fields ≡ OfColumn g → fields ≡ codes "column" ∷ g.name ∷ g.lower ∷ g.upper ∷ []
column_fields [] g is = cc
column_fields (word ∷ []) g is = absurd (of_one_column (bytes_eq word (codes "=ray=")) g is)
column_fields (word ∷ name ∷ []) g is = cc
column_fields (word ∷ name ∷ lower ∷ []) g is = cc
column_fields (word ∷ name ∷ lower ∷ upper ∷ []) g is =
    let by = column_by word (record { name = name; lower = lower; upper = upper }) g (bytes_eq word (codes "row")) (bytes_eq word (codes "column")) refl is in
    joined word (codes "column") name lower upper g by.0 by.1
column_fields (word ∷ name ∷ lower ∷ upper ∷ fifth ∷ more) g is = cc

-- ---- the laws
pub row_given : (rows columns : List Text) (text name lower upper : List ℕ) → ray_fault rows columns text ≡ None → IsGiven (codes "row") text name lower upper
    → (read_of Fractions lower ≡ Ok (row_weights text name).lower) × (read_of Fractions upper ≡ Ok (row_weights text name).upper)
row_given rows columns text name lower upper = given_by rows rows columns OfRow of_rows (rows_are rows columns) (codes "row") text name lower upper (λ g. refl)

pub column_given : (rows columns : List Text) (text name lower upper : List ℕ) → ray_fault rows columns text ≡ None → IsGiven (codes "column") text name lower upper
    → (read_of Fractions lower ≡ Ok (column_weights text name).lower) × (read_of Fractions upper ≡ Ok (column_weights text name).upper)
column_given rows columns text name lower upper = given_by columns rows columns OfColumn of_columns (columns_are rows columns) (codes "column") text name lower upper (λ g. refl)

pub row_missing : (text name : List ℕ) → ((lower upper : List ℕ) → ¬ (IsGiven (codes "row") text name lower upper)) → row_weights text name ≡ no_weights
row_missing text name none = missing_by [] [] [] OfRow of_rows (rows_are [] []) (codes "row") text name (λ line g is. row_fields (fields_of line) g is) none

pub column_missing : (text name : List ℕ) → ((lower upper : List ℕ) → ¬ (IsGiven (codes "column") text name lower upper)) → column_weights text name ≡ no_weights
column_missing text name none = missing_by [] [] [] OfColumn of_columns (columns_are [] []) (codes "column") text name (λ line g is. column_fields (fields_of line) g is) none
