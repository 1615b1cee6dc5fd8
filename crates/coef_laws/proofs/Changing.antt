-- K9: what is read of the row tells its edits, and the row holds something else after them.
use Rattle.std.proofs.Common.{◌≡◌, ◌≢◌, ℕ, Bool, true, false, List, [], ◌∷◌, map, Option, Some, None, is_some, refl, sym, ap, ◌∙◌, subst}
use Rattle.std.specs.Prelude.{if◌then◌else◌}
use Rattle.std.proofs.lemmas.Bool.{and_parts}
use Rattle.fractions.specs.Number.{Number, rational, zero_ℚ}
use Rattle.fractions.specs.Ring.{ring, v, inv}
use Rattle.fractions.specs.Order.{◌<ℚ◌}
use Rattle.fractions.specs.MinMax.{abs_ℚ}
use Rattle.fractions.specs.Total.{put}
use Rattle.fractions.specs.Signs.{<ℚ-irrefl}
use Rattle.fractions.proofs.Totals.{put-same}
use Rattle.lp_model.specs.LinearProgram.{LinearProgram}
use Rattle.lp_model.specs.Sparse.{dense, has}
use Rattle.lp_model.specs.declared.terms.Term.{Term}
use Rattle.undo_records.specs.declared.side.Side.{Side}
use Rattle.undo_records.specs.declared.side.Side.TheVariants.{Lower, Upper}
use Rattle.problem_model.specs.declared.edit.Edit.TheVariants.{SetEntry}
use Rattle.problem_model.specs.declared.part.Contents.{Contents}
use Rattle.problem_model.specs.declared.part.Contents.TheVariants as holding
use Rattle.problem_model.specs.declared.part.Part.{Part}
use Rattle.problem_model.specs.declared.part.Part.TheVariants as part
use Rattle.problem_model.specs.EditedPrograms.{programs_edited}
use Rattle.problem_model.specs.Parts.{contents_of}
use Rattle.problem_model.specs.Problems.{row_at, column_at, sides_at, row_entries, IsSparse}
use Rattle.problem_model.specs.Raised.{committed}
use Rattle.problem_model.specs.Showing.{coefficient_of, shown}
use Rattle.problem_model.specs.Sparse.{Sparse}
use Rattle.problem_laws.proofs.Entries.{has-live_only}
use Rattle.edit_laws.proofs.Committed.{shown_committed}
use Rattle.rule_words.specs.Reading.{bounds_of as named_bounds, terms_in}
use Rattle.rule_words.proofs.Coefficients.{coefficient_in_row}
use Rattle.rule_words.proofs.EndTestsSay.{not_true}
use Rattle.row_spans.specs.declared.span.Span.{Span}
use Rattle.row_spans.specs.Spans.{spans_from, spans_of}
use Rattle.row_spans.proofs.Reading.{row_is_read}
use Rattle.activity_laws.specs.Rows.{row_found}
use Rattle.activity_laws.proofs.Rows.{said}
use Rattle.coef_laws.specs.declared.tightening.Tightening.{Tightening}
use Rattle.coef_laws.specs.CoefficientTightening.{edits, edits_by, enabled, holds, is_coefficient_tightening, new_coefficient, new_limit, side_set, tightening, tightening_of, turned}
use Rattle.coef_laws.proofs.CoefficientTightening.{entry_told, owes, shrinks}

-- ---- where it is enabled the row is live, and has an entry in the column
pub row_live : (p : Sparse) (i j : ℕ) → enabled p i j ≡ true → (row_at p i).live ≡ true
row_live p i j e = (said (is_coefficient_tightening j) p i e).live

pub entry_named : (p : Sparse) (i j : ℕ) → enabled p i j ≡ true → has j (row_entries p i) ≡ true
entry_named p i j e = by (tightening_of p i j) refl (said (is_coefficient_tightening j) p i e).holds
  where
    by : (o : Option Tightening) → tightening_of p i j ≡ o → is_some o ≡ true → has j (row_entries p i) ≡ true
    by None f h = absurd (not_true h)
    by (Some t) f h = (entry_told p i j t f).named

pub column_live : (p : Sparse) (i j : ℕ) → enabled p i j ≡ true → (column_at p j).live ≡ true
column_live p i j e = (and_parts (column_at p j).live (has j (row_at p i).entries) (sym (has-live_only p.matrix.columns j (row_at p i).entries) ∙ entry_named p i j e)).0

-- ---- how a row is tightened is told by what is read of it
abbrev tightening_from : ℕ → Option Number → Option Number → Option (List Span) → Option Tightening
tightening_from j l u None = None
tightening_from j l u (Some ss) = tightening j l u ss

abbrev tightening_told : ℕ → List Contents → Option Tightening
tightening_told j (holding.Entries ts ∷ holding.Sides l u ∷ bounds) = tightening_from j l u (spans_from ts bounds)
tightening_told j other = None

row_told : (j : ℕ) (on : Bool) (f : Part → Contents) (ts : List Term) (l u : Option Number) (ss : List Span) → on ≡ true → spans_from ts (map f (named_bounds ts)) ≡ Some ss
    → tightening_told j ((if on then holding.Entries ts else holding.Gone) ∷ (if on then holding.Sides l u else holding.Gone) ∷ map f (named_bounds (terms_in (if on then holding.Entries ts else holding.Gone)))) ≡ tightening j l u ss
row_told j true f ts l u ss live r = ap (tightening_from j l u) r
row_told j false f ts l u ss live r = absurd (not_true live)

told : (p : Sparse) (i j : ℕ) → enabled p i j ≡ true → tightening_told j (row_found p i) ≡ tightening_of p i j
told p i j e = row_told j (row_at p i).live (contents_of p) (row_entries p i) (sides_at p i).lower (sides_at p i).upper (spans_of p i) (row_live p i j e) (row_is_read p i)

pub tightening_same : (p q : Sparse) (i j : ℕ) → enabled p i j ≡ true → row_found q i ≡ row_found p i → tightening_of q i j ≡ tightening_of p i j
tightening_same p q i j e h =
    let there : enabled q i j ≡ true = ap (holds j) h ∙ e in
    sym (told q i j there) ∙ ap (tightening_told j) h ∙ told p i j e

-- ---- the row holds something else when it is applied
turned_twice : (f : Side) (q : Number) → turned f (turned f q) ≡ q
turned_twice Lower q = ring rational (q ∷ []) (inv (inv (v 0))) (v 0) refl
turned_twice Upper q = refl

-- the coefficient, times f, is that which is tightened
coefficient_read : (p : Sparse) (i j : ℕ) (t : Tightening) → (row_at p i).live ≡ true → tightening_of p i j ≡ Some t → turned t.side (coefficient_of p i j) ≡ t.coefficient
coefficient_read p i j t live e = ap (turned t.side) (coefficient_in_row p i j ∙ ap (λ (on : Bool). if on then dense (row_entries p i) j else zero_ℚ) live) ∙ (entry_told p i j t e).coefficient

-- the entry that a row holds
abbrev entry_in : ℕ → Contents → Number
entry_in j (holding.Entries ts) = dense ts j
entry_in j other = zero_ℚ

held : (q : Sparse) (i j : ℕ) → entry_in j (contents_of q (part.Row i)) ≡ coefficient_of q i j
held q i j = by (row_at q i).live ∙ sym (coefficient_in_row q i j)
  where
    by : (on : Bool) → entry_in j (if on then holding.Entries (row_entries q i) else holding.Gone) ≡ (if on then dense (row_entries q i) j else zero_ℚ)
    by true = refl
    by false = refl

coefficient_after : (M : LinearProgram) (i j : ℕ) (c : Number) (f : Side) (b : Number) → (programs_edited M (SetEntry i j c ∷ side_set f i b ∷ [])).coefficient i j ≡ c
coefficient_after M i j c Lower b = ap (λ (f : ℕ → Number). f j) (put-same M.coefficient i (put (M.coefficient i) j c)) ∙ put-same (M.coefficient i) j c
coefficient_after M i j c Upper b = ap (λ (f : ℕ → Number). f j) (put-same M.coefficient i (put (M.coefficient i) j c)) ∙ put-same (M.coefficient i) j c

pub row_differs : (p : Sparse) (i j : ℕ) → IsSparse p → enabled p i j ≡ true → contents_of (committed p (edits p i j)) (part.Row i) ≢ contents_of p (part.Row i)
row_differs p i j s e h =
    let k = shrinks p i j e in
    let t : Tightening = k.0 in
    let after : coefficient_of (committed p (edits p i j)) i j ≡ turned t.side (new_coefficient t) =
    ap (λ (M : LinearProgram). M.coefficient i j) (shown_committed p (edits p i j) s (owes p i j s e).allowed)
    ∙ ap (λ (o : Option Tightening). (programs_edited (shown p) (edits_by i j o)).coefficient i j) k.1
    ∙ coefficient_after (shown p) i j (turned t.side (new_coefficient t)) t.side (turned t.side (new_limit t)) in
    let stays : turned t.side (new_coefficient t) ≡ coefficient_of p i j = sym after ∙ sym (held (committed p (edits p i j)) i j) ∙ ap (entry_in j) h ∙ held p i j in
    let same : new_coefficient t ≡ t.coefficient = sym (turned_twice t.side (new_coefficient t)) ∙ ap (turned t.side) stays ∙ coefficient_read p i j t (row_live p i j e) k.1 in
    <ℚ-irrefl (abs_ℚ t.coefficient) (subst (λ (q : Number). abs_ℚ q <ℚ abs_ℚ t.coefficient) same k.3)
