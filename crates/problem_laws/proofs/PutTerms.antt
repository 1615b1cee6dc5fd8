-- A list of terms with another number at an id.
use Rattle.std.proofs.Common.{◌≡◌, ◌≢◌, ℕ, suc, ◌+◌, ◌-◌, ◌<◌, ◌≤◌, Bool, true, false, nat_eq, List, [], ◌∷◌, length, sym, refl, ap, ap₂, ◌∙◌, subst, arith, ◌⊎◌, inl, inr}
use Rattle.std.specs.Prelude.{if◌then◌else◌}
use Rattle.std.proofs.lemmas.Bool.{eq-eqb, ne_eqb, cases_eq, cases_lt, lt-ltb, le-ltb}
use Rattle.fractions.specs.Number.{Number, zero_ℚ}
use Rattle.fractions.specs.Compare.{eq_ℚ}
use Rattle.fractions.specs.Total.{put}
use Rattle.fractions.specs.Comparisons.{eq_ℚ-is}
use Rattle.fractions.proofs.Totals.{put-same, put-other, at_or_off}
use Rattle.lp_model.specs.declared.terms.Term.{Term}
use Rattle.lp_model.specs.Sparse.{Ascends, dense}
use Rattle.lp_theory.proofs.SparseSums.{dense-below}
use Rattle.problem_model.specs.declared.line.Line.{Line}
use Rattle.problem_model.specs.Matrices.{line_at, live_only}
use Rattle.problem_laws.proofs.Terms.{ascends-wider}
use Rattle.problem_model.specs.Entries.{led_by, put_term}

-- a number is 0, or not
zero_case : (c : Number) → ((c ≡ zero_ℚ) × (eq_ℚ c zero_ℚ ≡ true)) ⊎ ((c ≢ zero_ℚ) × (eq_ℚ c zero_ℚ ≡ false))
zero_case c = by (eq_ℚ c zero_ℚ) refl
  where
    by : (b : Bool) → eq_ℚ c zero_ℚ ≡ b → ((c ≡ zero_ℚ) × (eq_ℚ c zero_ℚ ≡ true)) ⊎ ((c ≢ zero_ℚ) × (eq_ℚ c zero_ℚ ≡ false))
    by true e = inl ((eq_ℚ-is c zero_ℚ).0 e, e)
    by false e = inr ((λ f. let g = (eq_ℚ-is c zero_ℚ).1 f in let h : true ≡ false = sym g ∙ e in cc), e)

led-zero : (k : ℕ) (c : Number) (ts : List Term) → eq_ℚ c zero_ℚ ≡ true → led_by k c ts ≡ ts
led-zero k c ts e = ap (λ (b : Bool). if b then ts else record { id = k; value = c } ∷ ts) e

led-some : (k : ℕ) (c : Number) (ts : List Term) → eq_ℚ c zero_ℚ ≡ false → led_by k c ts ≡ record { id = k; value = c } ∷ ts
led-some k c ts e = ap (λ (b : Bool). if b then ts else record { id = k; value = c } ∷ ts) e

-- ---- where it goes
pub put_term-past : (k : ℕ) (c : Number) (t : Term) (ts : List Term) → t.id < k → put_term k c (t ∷ ts) ≡ t ∷ put_term k c ts
put_term-past k c t ts l = ap (λ (b : Bool). if b then t ∷ put_term k c ts else if nat_eq t.id k then led_by k c ts else led_by k c (t ∷ ts)) (lt-ltb t.id k l)

pub put_term-here : (k : ℕ) (c : Number) (t : Term) (ts : List Term) → t.id ≡ k → put_term k c (t ∷ ts) ≡ led_by k c ts
put_term-here k c t ts e =
    let l : k ≤ t.id = omega (arith, e) in
    ap (λ (b : Bool). if b then t ∷ put_term k c ts else if nat_eq t.id k then led_by k c ts else led_by k c (t ∷ ts)) (le-ltb t.id k l)
    ∙ ap (λ (b : Bool). if b then led_by k c ts else led_by k c (t ∷ ts)) (eq-eqb t.id k e)

pub put_term-before : (k : ℕ) (c : Number) (t : Term) (ts : List Term) → k < t.id → put_term k c (t ∷ ts) ≡ led_by k c (t ∷ ts)
put_term-before k c t ts l =
    let m : k ≤ t.id = omega (arith, l) in
    let n : t.id ≢ k = omega (arith, l) in
    ap (λ (b : Bool). if b then t ∷ put_term k c ts else if nat_eq t.id k then led_by k c ts else led_by k c (t ∷ ts)) (le-ltb t.id k m)
    ∙ ap (λ (b : Bool). if b then led_by k c ts else led_by k c (t ∷ ts)) (ne_eqb t.id k n)

pub order_of : (a b : ℕ) → (a < b) ⊎ ((a ≡ b) ⊎ (b < a))
order_of a b = elim (cases_lt a b) [ inl l ↦ inl l | inr g ↦ elim (cases_eq a b) [ inl e ↦ inr (inl e) | inr n ↦ inr (inr (omega (arith, g, n))) ] ]

-- ---- what numbers it has
dense-led : (k : ℕ) (c : Number) (ts : List Term) → dense ts k ≡ zero_ℚ → (x : ℕ) → dense (led_by k c ts) x ≡ put (dense ts) k c x
dense-led k c ts z x = by (zero_case c)
  where
    by : ((c ≡ zero_ℚ) × (eq_ℚ c zero_ℚ ≡ true)) ⊎ ((c ≢ zero_ℚ) × (eq_ℚ c zero_ℚ ≡ false)) → dense (led_by k c ts) x ≡ put (dense ts) k c x
    by (inl e) = ap (λ us. dense us x) (led-zero k c ts e.1) ∙ at_or_off (λ x. dense ts x ≡ put (dense ts) k c x) k (z ∙ sym e.0 ∙ sym (put-same (dense ts) k c)) (λ x n. sym (put-other (dense ts) k c x n)) x
    by (inr n) = ap (λ us. dense us x) (led-some k c ts n.1)

put-twice : (f : ℕ → Number) (k : ℕ) (a c : Number) (x : ℕ) → put (put f k a) k c x ≡ put f k c x
put-twice f k a c = at_or_off (λ x. put (put f k a) k c x ≡ put f k c x) k (put-same (put f k a) k c ∙ sym (put-same f k c))
    (λ x n. put-other (put f k a) k c x n ∙ put-other f k a x n ∙ sym (put-other f k c x n))

put-apart : (f : ℕ → Number) (j k : ℕ) (a c : Number) → j ≢ k → (x : ℕ) → put (put f k c) j a x ≡ put (put f j a) k c x
put-apart f j k a c d = at_or_off (λ x. put (put f k c) j a x ≡ put (put f j a) k c x) j
    (put-same (put f k c) j a ∙ sym (put-other (put f j a) k c j d ∙ put-same f j a))
    (λ x n. put-other (put f k c) j a x n ∙ at_or_off (λ x. x ≢ j → put f k c x ≡ put (put f j a) k c x) k
    (λ m. put-same f k c ∙ sym (put-same (put f j a) k c))
    (λ x o m. put-other f k c x o ∙ sym (put-other (put f j a) k c x o ∙ put-other f j a x m)) x n)

put_same_fun : (f g : ℕ → Number) (j : ℕ) (a : Number) (x : ℕ) → (f x ≡ g x) → put f j a x ≡ put g j a x
put_same_fun f g j a x e = by (cases_eq x j)
  where
    by : (x ≡ j) ⊎ (x ≢ j) → put f j a x ≡ put g j a x
    by (inl h) = ap (put f j a) h ∙ put-same f j a ∙ sym (ap (put g j a) h ∙ put-same g j a)
    by (inr n) = put-other f j a x n ∙ e ∙ sym (put-other g j a x n)

pub dense-put_term : (k : ℕ) (c : Number) (ts : List Term) (m n : ℕ) → Ascends m n ts → (x : ℕ) → dense (put_term k c ts) x ≡ put (dense ts) k c x
dense-put_term k c [] m n a x = dense-led k c [] refl x
dense-put_term k c (t ∷ ts) m n a x = by (order_of t.id k) (dense-put_term k c ts (suc t.id) n a.3 x)
  where
    by : (t.id < k) ⊎ ((t.id ≡ k) ⊎ (k < t.id)) → dense (put_term k c ts) x ≡ put (dense ts) k c x → dense (put_term k c (t ∷ ts)) x ≡ put (put (dense ts) t.id t.value) k c x
    by (inl l) ih =
        let d : t.id ≢ k = omega (arith, l) in
        ap (λ us. dense us x) (put_term-past k c t ts l)
        ∙ put_same_fun (dense (put_term k c ts)) (put (dense ts) k c) t.id t.value x ih
        ∙ put-apart (dense ts) t.id k t.value c d x
    by (inr (inl e)) ih =
        ap (λ us. dense us x) (put_term-here k c t ts e)
        ∙ dense-led k c ts (dense-below ts (suc t.id) n k a.3 (omega (arith, e))) x
        ∙ sym (ap (λ (j : ℕ). put (put (dense ts) j t.value) k c x) e ∙ put-twice (dense ts) k t.value c x)
    by (inr (inr g)) ih =
        ap (λ us. dense us x) (put_term-before k c t ts g)
        ∙ dense-led k c (t ∷ ts) (dense-below (t ∷ ts) t.id n k (omega arith, a.1, a.2, a.3) g) x

-- ---- its ids ascend
ascends-led : (k : ℕ) (c : Number) (ts : List Term) (m n : ℕ) → m ≤ k → k < n → Ascends (suc k) n ts → Ascends m n (led_by k c ts)
ascends-led k c ts m n l h a = by (zero_case c)
  where
    by : ((c ≡ zero_ℚ) × (eq_ℚ c zero_ℚ ≡ true)) ⊎ ((c ≢ zero_ℚ) × (eq_ℚ c zero_ℚ ≡ false)) → Ascends m n (led_by k c ts)
    by (inl e) = subst (Ascends m n) (sym (led-zero k c ts e.1)) (ascends-wider ts (suc k) m n (omega (arith, l)) a)
    by (inr d) = subst (Ascends m n) (sym (led-some k c ts d.1)) (l, h, d.0, a)

pub ascends-put_term : (k : ℕ) (c : Number) (ts : List Term) (m n : ℕ) → m ≤ k → k < n → Ascends m n ts → Ascends m n (put_term k c ts)
ascends-put_term k c [] m n l h a = ascends-led k c [] m n l h tt
ascends-put_term k c (t ∷ ts) m n l h a = by (order_of t.id k) (λ o. ascends-put_term k c ts (suc t.id) n o h a.3)
  where
    by : (t.id < k) ⊎ ((t.id ≡ k) ⊎ (k < t.id)) → (suc t.id ≤ k → Ascends (suc t.id) n (put_term k c ts)) → Ascends m n (put_term k c (t ∷ ts))
    by (inl o) ih = subst (Ascends m n) (sym (put_term-past k c t ts o)) (a.0, a.1, a.2, ih (omega (arith, o)))
    by (inr (inl e)) ih = subst (Ascends m n) (sym (put_term-here k c t ts e)) (ascends-led k c ts m n l h (subst (λ (j : ℕ). Ascends (suc j) n ts) e a.3))
    by (inr (inr g)) ih = subst (Ascends m n) (sym (put_term-before k c t ts g)) (ascends-led k c (t ∷ ts) m n l h (omega (arith, g), a.1, a.2, a.3))

-- ---- how many of it are live, where k is
module _ (others : List Line) (k : ℕ) (c : Number) (live : (line_at others k).live ≡ true) where
  abbrev live_count : List Term → ℕ
  live_count ts = length (live_only others ts)

  led_count : (ts : List Term) → live_count (led_by k c ts) + length ts ≡ live_count ts + length (led_by k c ts)
  led_count ts = by (zero_case c)
    where
      by : ((c ≡ zero_ℚ) × (eq_ℚ c zero_ℚ ≡ true)) ⊎ ((c ≢ zero_ℚ) × (eq_ℚ c zero_ℚ ≡ false)) → live_count (led_by k c ts) + length ts ≡ live_count ts + length (led_by k c ts)
      by (inl e) = ap₂ (λ (us ws : List Term). live_count us + length ws) (led-zero k c ts e.1) refl ∙ sym (ap (λ (us : List Term). live_count ts + length us) (led-zero k c ts e.1))
      by (inr d) =
          let e = led-some k c ts d.1 in
          let f : live_count (led_by k c ts) ≡ suc (live_count ts) = ap live_count e ∙ ap (λ (b : Bool). length (if b then record { id = k; value = c } ∷ live_only others ts else live_only others ts)) live in
          let g : length (led_by k c ts) ≡ suc (length ts) = ap length e in
          omega (arith, f, g)

  pub put_count : (ts : List Term) → length (live_only others (put_term k c ts)) + length ts ≡ length (live_only others ts) + length (put_term k c ts)
  put_count [] = led_count []
  put_count (t ∷ ts) = by (order_of t.id k) (put_count ts)
    where
      cons : (b : Bool) (us ws : List Term) → length us + length ts ≡ length ws + length (put_term k c ts)
          → length (if b then t ∷ us else us) + suc (length ts) ≡ length (if b then t ∷ ws else ws) + suc (length (put_term k c ts))
      cons true us ws e = omega (arith, e)
      cons false us ws e = omega (arith, e)

      by : (t.id < k) ⊎ ((t.id ≡ k) ⊎ (k < t.id)) → length (live_only others (put_term k c ts)) + length ts ≡ length (live_only others ts) + length (put_term k c ts)
          → length (live_only others (put_term k c (t ∷ ts))) + suc (length ts) ≡ length (live_only others (t ∷ ts)) + length (put_term k c (t ∷ ts))
      by (inl l) ih =
          ap (λ (us : List Term). length (live_only others us) + suc (length ts)) (put_term-past k c t ts l)
          ∙ cons (line_at others t.id).live (live_only others (put_term k c ts)) (live_only others ts) ih
          ∙ sym (ap (λ (us : List Term). length (live_only others (t ∷ ts)) + length us) (put_term-past k c t ts l))
      by (inr (inl e)) ih =
          let p = put_term-here k c t ts e in
          let q : length (live_only others (t ∷ ts)) ≡ suc (length (live_only others ts)) = ap (λ (b : Bool). length (if b then t ∷ live_only others ts else live_only others ts)) (ap (λ (j : ℕ). (line_at others j).live) e ∙ live) in
          let x : length (live_only others (put_term k c (t ∷ ts))) ≡ length (live_only others (led_by k c ts)) = ap (λ (us : List Term). length (live_only others us)) p in
          let y : length (put_term k c (t ∷ ts)) ≡ length (led_by k c ts) = ap length p in
          omega (arith, led_count ts, q, x, y)
      by (inr (inr g)) ih =
          ap (λ (us : List Term). length (live_only others us) + suc (length ts)) (put_term-before k c t ts g)
          ∙ led_count (t ∷ ts)
          ∙ sym (ap (λ (us : List Term). length (live_only others (t ∷ ts)) + length us) (put_term-before k c t ts g))

  -- so the count of live entries moves by the change of the length
  pub count_moves : (ts : List Term) (count : ℕ) → count ≡ length (live_only others ts) → count + length (put_term k c ts) - length ts ≡ length (live_only others (put_term k c ts))
  count_moves ts count e = let h = put_count ts in by (length (live_only others (put_term k c ts))) (length ts) (length (put_term k c ts)) (h ∙ ap (λ (n : ℕ). n + length (put_term k c ts)) (sym e))
    where
      by : (x y z : ℕ) → x + y ≡ count + z → count + z - y ≡ x
      by x y z f = omega (arith, f)
