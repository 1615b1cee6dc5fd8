-- The last of some entries with 0 taken into its ends.
use Rattle.std.proofs.Common.{◌≡◌, ℕ, ◌+◌, ◌-◌, List, [], ◌∷◌, ◌++◌, length, slice_index_or, slice_set, ap, ap₂, ◌∙◌, arith}
use Rattle.std.proofs.Math.Seq.{get_or-append_seam, set-append_seam}
use Rattle.std.proofs.lemmas.List.{length-append}
use Rattle.row_spans.specs.declared.span.Span.{Span}
use Rattle.activities.specs.Spans.{with_zero}

pub last_with_zero : (items before : List Span) (s x : Span) (n : ℕ) → items ≡ before ++ s ∷ [] → n ≡ length items → x ≡ slice_index_or items (n - 1) x
    → slice_set items (n - 1) (with_zero x) ≡ before ++ with_zero s ∷ []
last_with_zero items before s x n e k h =
    let many : length items ≡ length before + 1 = ap length e ∙ length-append before (s ∷ []) in
    let place : n - 1 ≡ length before = omega (arith, k, many) in
    let same : x ≡ s = h ∙ ap₂ (λ (ys : List Span) (i : ℕ). slice_index_or ys i x) e place ∙ get_or-append_seam before s [] x in
    ap₂ (λ (ys : List Span) (i : ℕ). slice_set ys i (with_zero x)) e place ∙ ap (λ (y : Span). slice_set (before ++ s ∷ []) (length before) (with_zero y)) same ∙ set-append_seam before s [] (with_zero s)
