-- What the tests of rows say of the linear program that is shown.
use Rattle.std.proofs.Common.{◌≡◌, ℕ, Bool, true, false, ◌&&◌, List, map, Option, Some, None, refl, sym, ap, ap₂, ◌∙◌, Result, Ok, Err}
use Rattle.std.specs.Prelude.{if◌then◌else◌}
use Rattle.std.proofs.lemmas.Bool.{and_parts}
use Rattle.fractions.specs.Number.{Number, zero_ℚ}
use Rattle.fractions.specs.Ends.{LowBelow, HighAbove}
use Rattle.fractions.specs.Comparisons.{le_ℚ-is}
use Rattle.fractions.specs.declared.Past.{Past}
use Rattle.lp_model.specs.EndTests.{is_in_order}
use Rattle.lp_model.specs.Sparse.{dense}
use Rattle.lp_model.specs.declared.terms.Term.{Term}
use Rattle.lp_theory.specs.Activities.{least, greatest}
use Rattle.problem_model.specs.declared.part.Contents.{Contents}
use Rattle.problem_model.specs.declared.part.Contents.TheVariants as holding
use Rattle.problem_model.specs.declared.part.Part.{Part}
use Rattle.problem_model.specs.Parts.{contents_of}
use Rattle.problem_model.specs.Problems.{row_at, sides_at, row_entries, IsSparse}
use Rattle.problem_model.specs.Showing.{coefficient_of, shown}
use Rattle.problem_model.specs.Sparse.{Sparse}
use Rattle.rule_words.specs.Reading.{bounds_of, terms_in}
use Rattle.rule_words.proofs.Coefficients.{coefficient_in_row}
use Rattle.rule_words.proofs.EndTestsSay.{not_true}
use Rattle.row_spans.specs.declared.span.Span.{Span}
use Rattle.row_spans.specs.declared.span.Extreme.TheVariants.{Least, Greatest}
use Rattle.row_spans.specs.RowSums.{activity}
use Rattle.row_spans.specs.Spans.{spans_from, spans_of}
use Rattle.row_spans.proofs.Bridge.{activity-is}
use Rattle.row_spans.proofs.Reading.{row_is_read}
use Rattle.activity_laws.specs.Rows.{RowTest, all_in_order, keeps_lower, keeps_upper, on_activities, on_both, on_parts, on_row, on_spans, row_found}

-- a live row's coefficients are those of its entries
pub row_dense : (p : Sparse) (i : ℕ) → (row_at p i).live ≡ true → dense (row_entries p i) ≡ coefficient_of p i
row_dense p i live t k = sym (coefficient_in_row p i k ∙ ap (λ (on : Bool). if on then dense (row_entries p i) k else zero_ℚ) live) t

-- a test of what was read of a row: the row is live, and the test holds of its sides and its spans
row_tested : (test : RowTest) (on : Bool) (f : Part → Contents) (ts : List Term) (l u : Option Number) (ss : List Span) → spans_from ts (map f (bounds_of ts)) ≡ Some ss
    → on_parts test (if on then holding.Entries ts else holding.Gone) (if on then holding.Sides l u else holding.Gone) (map f (bounds_of (terms_in (if on then holding.Entries ts else holding.Gone)))) ≡ (on && on_spans test l u (Some ss))
row_tested test true f ts l u ss r = ap (on_spans test l u) r
row_tested test false f ts l u ss r = refl

pub tested : (test : RowTest) (p : Sparse) (i : ℕ) → on_row test (row_found p i) ≡ ((row_at p i).live && on_spans test (sides_at p i).lower (sides_at p i).upper (Some (spans_of p i)))
tested test p i = row_tested test (row_at p i).live (contents_of p) (row_entries p i) (sides_at p i).lower (sides_at p i).upper (spans_of p i) (row_is_read p i)

-- where it holds nothing is crossed
pub record Said (on : Bool) (l u : Option Number) (ss : List Span) (test : RowTest) : Type 0 where
  pub live : on ≡ true
  pub sides : is_in_order l u ≡ true
  pub bounds : all_in_order ss ≡ true
  pub holds : test l u ss ≡ true

pub said : (test : RowTest) (p : Sparse) (i : ℕ) → on_row test (row_found p i) ≡ true → Said (row_at p i).live (sides_at p i).lower (sides_at p i).upper (spans_of p i) test
said test p i e =
    let l : Option Number = (sides_at p i).lower in
    let u : Option Number = (sides_at p i).upper in
    let ss : List Span = spans_of p i in
    let a = and_parts (row_at p i).live (is_in_order l u && (all_in_order ss && test l u ss)) (sym (tested test p i) ∙ e) in
    let b = and_parts (is_in_order l u) (all_in_order ss && test l u ss) a.1 in
    let c = and_parts (all_in_order ss) (test l u ss) b.1 in
    record { live = a.0; sides = b.0; bounds = c.0; holds = c.1 }

-- both activities are known, and are those of the row
pub record AreKnown (p : Sparse) (i : ℕ) (test : Option Number → Option Number → Bool) : Type 0 where
  pub low : activity Least (spans_of p i) ≡ Ok (least (shown p) i)
  pub high : activity Greatest (spans_of p i) ≡ Ok (greatest (shown p) i)
  pub holds : test (least (shown p) i) (greatest (shown p) i) ≡ true

pub known : (p : Sparse) (i : ℕ) (test : Option Number → Option Number → Bool) → IsSparse p → (row_at p i).live ≡ true → on_activities test (spans_of p i) ≡ true → AreKnown p i test
known p i test s live e = by (activity Least (spans_of p i)) (activity Greatest (spans_of p i)) refl refl e
  where
    by : (a b : Result (Option Number) Past) → activity Least (spans_of p i) ≡ a → activity Greatest (spans_of p i) ≡ b → on_both test a b ≡ true → AreKnown p i test
    by (Ok x) (Ok y) f g h =
        let m = activity-is p i Least x s live f in
        let n = activity-is p i Greatest y s live g in
        record {
          low = f ∙ ap Ok m;
          high = g ∙ ap Ok n;
          holds = sym (ap₂ test m n) ∙ h;
        }
    by (Ok x) (Err y) f g h = absurd (not_true h)
    by (Err x) b f g h = absurd (not_true h)

-- and what else is asked of them is asked of those of the row
pub made : (p : Sparse) (i : ℕ) (test : Option Number → Option Number → Bool) → activity Least (spans_of p i) ≡ Ok (least (shown p) i) → activity Greatest (spans_of p i) ≡ Ok (greatest (shown p) i)
    → on_activities test (spans_of p i) ≡ test (least (shown p) i) (greatest (shown p) i)
made p i test f g = ap₂ (on_both test) f g

-- a side that is kept
pub low_below : (l e : Option Number) → keeps_lower l e ≡ true → LowBelow l e
low_below None e h = tt
low_below (Some l) None h = absurd (not_true h)
low_below (Some l) (Some v) h = (le_ℚ-is l v).0 h

pub high_above : (u e : Option Number) → keeps_upper u e ≡ true → HighAbove u e
high_above None e h = tt
high_above (Some u) None h = absurd (not_true h)
high_above (Some u) (Some v) h = (le_ℚ-is v u).0 h
