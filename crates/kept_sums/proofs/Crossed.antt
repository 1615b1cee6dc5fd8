-- Counts of crossed bounds.
use Rattle.std.proofs.Common.{◌≡◌, ℕ, ◌+◌, ◌-◌, ◌≤◌, List, [], ◌∷◌, ◌++◌, refl, ap, sym, ◌∙◌, arith}
use Rattle.row_spans.specs.declared.span.Span.{Span}
use Rattle.kept_sums.specs.KeptSums.{crossed_count, crossed_in}

crossed-out : (a b : List Span) (s : Span) → crossed_count (a ++ s ∷ b) ≡ crossed_in s + crossed_count (a ++ b)
crossed-out [] b s = refl
crossed-out (t ∷ a) b s = ap (λ (n : ℕ). crossed_in t + n) (crossed-out a b s) ∙ turned (crossed_in t) (crossed_in s) (crossed_count (a ++ b))
  where
    turned : (x y z : ℕ) → x + (y + z) ≡ y + (x + z)
    turned x y z = omega arith

-- with one entry more, and with one less
module _ (a b : List Span) (s : Span) (m n c : ℕ) (own : c ≡ crossed_in s) where
  pub counted : m ≡ crossed_count (a ++ b) → n ≡ m + c → n ≡ crossed_count (a ++ s ∷ b)
  counted h e = by m n c (crossed_in s) (crossed_count (a ++ b)) own h e ∙ sym (crossed-out a b s)
    where
      by : (m n c x y : ℕ) → c ≡ x → m ≡ y → n ≡ m + c → n ≡ x + y
      by m n c x y f g e = omega (arith, f, g, e)

  pub uncounted : m ≡ crossed_count (a ++ s ∷ b) → c ≤ m → n ≡ m - c → n ≡ crossed_count (a ++ b)
  uncounted h l e = by m n c (crossed_in s) (crossed_count (a ++ b)) own (h ∙ crossed-out a b s) l e
    where
      by : (m n c x y : ℕ) → c ≡ x → m ≡ x + y → c ≤ m → n ≡ m - c → n ≡ y
      by m n c x y f g l e = omega (arith, f, g, l, e)
