-- Walks over a row's terms, by the spans of those at live columns.
use Rattle.std.proofs.Common.{◌≡◌, ℕ, suc, get_or, ◌∙◌, ◌+◌, ◌<◌, ◌≤◌, ◌^◌, Bool, true, false, List, [], ◌∷◌, ◌++◌, map, length, Option, Some, None, IfNone, ap, sym, subst, arith}
use Rattle.std.specs.Prelude.{if◌then◌else◌}
use Rattle.std.proofs.lemmas.List.{get_or_default}
use Rattle.fractions.specs.Number.{Number}
use Rattle.lp_model.specs.declared.terms.Term.{Term}
use Rattle.lp_model.specs.Sparse.{Ascends}
use Rattle.problem_model.specs.Problems.{IsSparse, column_at, row_at}
use Rattle.problem_model.specs.Matrices.{no_line}
use Rattle.problem_model.specs.declared.line.Line.{Line}
use Rattle.problem_model.specs.Sparse.{Sparse}
use Rattle.problem_laws.proofs.AtIds.{row_inside}
use Rattle.row_spans.specs.declared.span.Extreme.{Extreme}
use Rattle.row_spans.specs.declared.span.Span.{Span}
use Rattle.row_spans.specs.Spans.{end_at, ends_at, span_of, spans_among}
use Rattle.kept_sums.specs.CommonSums.{AreOver, infinite_count, plus_infinite}
use Rattle.kept_sums.specs.RowTotals.{both_ends, ArePastWith, AreSumsWith, AreTooHeavy, HaveRoomOver, IsLeastWith, IsLight, IsTame}
use Rattle.kept_sums.specs.declared.row_totals.RowSums.{RowSums}
use Rattle.kept_sums.proofs.Walks.{AreSumsLeft, IsDenominatorOf, both-left, denominator_next, denominator_past, nothing_with, sums_next, sums_past}
use Rattle.sparse_problem.proofs.Mending.{spans_more}

-- what holds anyway holds where there is nothing
pub if_none : {A X : Type 0} (o : Option A) → X → IfNone o X
if_none None x = x
if_none (Some a) x = tt

-- a term at a column that is gone asks for no other denominator
pub gone_with : (p : Sparse) (c : ℕ) (t : Term) → 0 < c → c ≤ 2 ^ 63 → (column_at p t.id).live ≡ false → IsLeastWith c (both_ends (spans_among p (t ∷ []))) c
gone_with p c t h l e = subst (λ (b : Bool). IsLeastWith c (both_ends (map (span_of p) (if b then t ∷ [] else []))) c) (sym e) (nothing_with c h l)

module _ (p : Sparse) (all : List Span) (t : Term) (ts : List Term) where
  pub denominator_on : (c d : ℕ) → IsDenominatorOf all c (spans_among p (t ∷ ts)) → IsLeastWith c (both_ends (spans_among p (t ∷ []))) d → IsDenominatorOf all d (spans_among p ts)
  denominator_on c d h g = denominator_next all (spans_among p (t ∷ [])) (spans_among p ts) c d (subst (IsDenominatorOf all c) (spans_more p (t ∷ []) ts) h) g

  pub denominator_off : (c : ℕ) → IsDenominatorOf all c (spans_among p (t ∷ ts)) → ArePastWith c (spans_among p (t ∷ [])) → IsTame all → ⊥
  denominator_off c h f = denominator_past all (spans_among p (t ∷ [])) (spans_among p ts) c (subst (IsDenominatorOf all c) (spans_more p (t ∷ []) ts) h) f

  module _ (d : ℕ) (s : RowSums) (h : AreSumsLeft d all s (spans_among p (t ∷ ts))) where
    left : AreSumsLeft d all s (spans_among p (t ∷ []) ++ spans_among p ts)
    left = subst (AreSumsLeft d all s) (spans_more p (t ∷ []) ts) h

    pub sums_on : (r : RowSums) → AreSumsWith d (spans_among p (t ∷ [])) s r → AreSumsLeft d all r (spans_among p ts)
    sums_on r g = sums_next d all (spans_among p (t ∷ [])) (spans_among p ts) s r left g

    pub sums_off : AreTooHeavy d (spans_among p (t ∷ [])) s → IsLight d all → ⊥
    sums_off f l = sums_past d all (spans_among p (t ∷ [])) (spans_among p ts) s left f l

    pub term_over : AreOver d (both_ends (spans_among p (t ∷ [])))
    term_over = both-left d (spans_among p (t ∷ [])) (spans_among p ts) left.over

    pub room_over : 0 < d → d ≤ 2 ^ 63 → s.least.infinite + length (t ∷ ts) < 2 ^ 32 → s.greatest.infinite + length (t ∷ ts) < 2 ^ 32 → HaveRoomOver d s
    room_over k l f g = record { positive = k; short = l; least = h.least.within; greatest = h.greatest.within; least_few = by _ (length ts) f; greatest_few = by _ (length ts) g }
      where
        by : (n m : ℕ) → n + suc m < 2 ^ 32 → n + 1 < 2 ^ 32
        by n m l = omega (arith, l)

-- a term is at most one infinite end
one_infinite : (p : Sparse) (x : Extreme) (t : Term) → infinite_count (ends_at x (spans_among p (t ∷ []))) ≤ 1
one_infinite p x t = by (column_at p t.id).live
  where
    one : (e : Option Number) → plus_infinite e 0 ≤ 1
    one None = omega arith
    one (Some q) = omega arith

    by : (b : Bool) → infinite_count (ends_at x (map (span_of p) (if b then t ∷ [] else []))) ≤ 1
    by true = one (end_at x (span_of p t))
    by false = omega arith

pub few_on : (p : Sparse) (x : Extreme) (t : Term) (ts : List Term) (m n : ℕ) → m + length (t ∷ ts) < 2 ^ 32 → n ≡ m + infinite_count (ends_at x (spans_among p (t ∷ []))) → n + length ts < 2 ^ 32
few_on p x t ts m n l e = by m n _ (length ts) l e (one_infinite p x t)
  where
    by : (m n k r : ℕ) → m + suc r < 2 ^ 32 → n ≡ m + k → k ≤ 1 → n + r < 2 ^ 32
    by m n k r l e f = omega (arith, l, e, f)

-- a row has as many entries as there are columns, at most
length_ascending : (m n : ℕ) (ts : List Term) → m ≤ n → Ascends m n ts → length ts + m ≤ n
length_ascending m n [] l a = omega (arith, l)
length_ascending m n (t ∷ ts) l a = by _ _ _ _ (length_ascending (suc t.id) n ts (omega (arith, a.1)) a.3) a.0
  where
    by : (r k m n : ℕ) → r + suc k ≤ n → m ≤ k → suc r + m ≤ n
    by r k m n f g = omega (arith, f, g)

pub few_entries : (p : Sparse) (i : ℕ) → IsSparse p → length (row_at p i).entries < 2 ^ 32
few_entries p i h = by _ _ (length_ascending 0 (length p.matrix.columns) (row_at p i).entries (omega arith) (h.matrix.rows.ascends i)) h.few_columns
  where
    by : (m n : ℕ) → m + 0 ≤ n → n < 2 ^ 32 → m < 2 ^ 32
    by m n f g = omega (arith, f, g)

-- the entries of a live row, as they are read
pub row_read : (p : Sparse) (i : ℕ) (rows : List Line) (d : Line) (ts : List Term) → IsSparse p → (row_at p i).live ≡ true → rows ≡ p.matrix.rows → ts ≡ (get_or rows i d).entries → length ts < 2 ^ 32
row_read p i rows d ts h live e f =
    subst (λ (us : List Term). length us < 2 ^ 32)
    (sym (f ∙ ap (λ (ls : List Line). (get_or ls i d).entries) e ∙ ap (λ (y : Line). y.entries) (get_or_default p.matrix.rows i d no_line (row_inside p i live)))) (few_entries p i h)
