-- Laws of finite sums and of functions changed at one place.
use Rattle.std.proofs.Common.{◌≡◌, ℕ, zero, suc, ◌<◌, ◌≢◌, pos, sym, refl, ap, ap₂, ◌∙◌, arith, [], ◌∷◌, ◌⊎◌, inl, inr}
use Rattle.std.proofs.lemmas.Bool.{eq-eqb, ne_eqb, cases_eq}
use Rattle.fractions.specs.Ring.{ring, v, num, ◌:+◌, ◌:-◌, ◌:*◌}
use Rattle.fractions.specs.Number.{Number, rational, ◌+ℚ◌, ◌-ℚ◌, ◌*ℚ◌}
use Rattle.fractions.specs.Order.{◌≤ℚ◌, ≤ℚ_refl, ≤ℚ-+ℚ}
use Rattle.fractions.specs.Total.{total, put, zero_ℚ}

pub put-same : {A : Type 0} (f : ℕ → A) (j : ℕ) (a : A) → put f j a j ≡ a
unfolding put
put-same f j a = rw (eq-eqb j j refl)

pub put-other : {A : Type 0} (f : ℕ → A) (j : ℕ) (a : A) (k : ℕ) → k ≢ j → put f j a k ≡ f k
unfolding put
put-other f j a k n = rw (ne_eqb k j n)

-- what holds at j and away from j holds everywhere
pub at_or_off : (P : ℕ → Type 0) (j : ℕ) → P j → ((k : ℕ) → k ≢ j → P k) → (k : ℕ) → P k
at_or_off P j here off k = elim (cases_eq k j) [ inl e ↦ rw e here | inr n ↦ off k n ]

pub total_same : (n : ℕ) (f g : ℕ → Number) → ((k : ℕ) → k < n → f k ≡ g k) → total n f ≡ total n g
unfolding total
total_same zero f g h = refl
total_same (suc n) f g h = ap₂ ◌+ℚ◌ (total_same n f g (λ k l. h k (omega arith))) (h n (omega arith))

pub total-+ : (n : ℕ) (f g : ℕ → Number) → total n (λ k. f k +ℚ g k) ≡ total n f +ℚ total n g
unfolding total
total-+ zero f g = ring rational [] (num (pos 0)) (num (pos 0) :+ num (pos 0)) refl
total-+ (suc n) f g = ap (λ s. s +ℚ (f n +ℚ g n)) (total-+ n f g) ∙ ring rational (total n f ∷ total n g ∷ f n ∷ g n ∷ []) ((v 0 :+ v 1) :+ (v 2 :+ v 3)) ((v 0 :+ v 2) :+ (v 1 :+ v 3)) refl

pub total-* : (n : ℕ) (c : Number) (f : ℕ → Number) → total n (λ k. c *ℚ f k) ≡ c *ℚ total n f
unfolding total
total-* zero c f = ring rational (c ∷ []) (num (pos 0)) (v 0 :* num (pos 0)) refl
total-* (suc n) c f = ap (λ s. s +ℚ (c *ℚ f n)) (total-* n c f) ∙ ring rational (total n f ∷ f n ∷ c ∷ []) (v 2 :* v 0 :+ v 2 :* v 1) (v 2 :* (v 0 :+ v 1)) refl

pub total-zero : (n : ℕ) (f : ℕ → Number) → ((k : ℕ) → k < n → f k ≡ zero_ℚ) → total n f ≡ zero_ℚ
unfolding total
total-zero zero f h = refl
total-zero (suc n) f h = ap₂ ◌+ℚ◌ (total-zero n f (λ k l. h k (omega arith))) (h n (omega arith)) ∙ ring rational [] (num (pos 0) :+ num (pos 0)) (num (pos 0)) refl

pub total-≤ : (n : ℕ) (f g : ℕ → Number) → ((k : ℕ) → k < n → f k ≤ℚ g k) → total n f ≤ℚ total n g
unfolding total
total-≤ zero f g h = ≤ℚ_refl zero_ℚ
total-≤ (suc n) f g h = ≤ℚ-+ℚ (total-≤ n f g (λ k l. h k (omega arith))) (h n (omega arith))

-- a change at one place
pub total-put : (n : ℕ) (f : ℕ → Number) (j : ℕ) (a : Number) → j < n → total n (put f j a) ≡ total n f -ℚ f j +ℚ a
unfolding total
total-put zero f j a l = absurd (omega arith)
total-put (suc n) f j a l = by (cases_eq n j) (total-put n f j a)
  where
    by : (n ≡ j) ⊎ (n ≢ j) → (j < n → total n (put f j a) ≡ total n f -ℚ f j +ℚ a) → total n (put f j a) +ℚ put f j a n ≡ (total n f +ℚ f n) -ℚ f j +ℚ a
    by (inl e) ih =
        ap₂ ◌+ℚ◌ (total_same n (put f j a) f (λ k m. put-other f j a k (omega arith))) (ap (put f j a) e ∙ put-same f j a)
        ∙ ring rational (total n f ∷ f j ∷ a ∷ []) (v 0 :+ v 2) ((v 0 :+ v 1) :- v 1 :+ v 2) refl
        ∙ ap (λ k. (total n f +ℚ f k) -ℚ f j +ℚ a) (sym e)
    by (inr m) ih =
        ap₂ ◌+ℚ◌ (ih (omega arith)) (put-other f j a n m)
        ∙ ring rational (total n f ∷ f j ∷ a ∷ f n ∷ []) ((v 0 :- v 1 :+ v 2) :+ v 3) ((v 0 :+ v 3) :- v 1 :+ v 2) refl

pub total_swap : (n m : ℕ) (f : ℕ → ℕ → Number) → total n (λ j. total m (λ i. f i j)) ≡ total m (λ i. total n (λ j. f i j))
unfolding total
total_swap zero m f = sym (total-zero m (λ i. zero_ℚ) (λ k l. refl))
total_swap (suc n) m f = ap (λ s. s +ℚ total m (λ i. f i n)) (total_swap n m f) ∙ sym (total-+ m (λ i. total n (λ j. f i j)) (λ i. f i n))

-- two functions that differ only at j
pub total_off : (n : ℕ) (f g : ℕ → Number) (j : ℕ) → j < n → ((k : ℕ) → k ≢ j → g k ≡ f k) → total n g ≡ total n f -ℚ f j +ℚ g j
total_off n f g j l h = total_same n g (put f j (g j)) (λ k m. at_or_off (λ k. g k ≡ put f j (g j) k) j (sym (put-same f j (g j))) (λ k e. h k e ∙ sym (put-other f j (g j) k e)) k) ∙ total-put n f j (g j) l

-- a product sum at a point that is changed at j
pub total-put_point : (n : ℕ) (a x : ℕ → Number) (j : ℕ) (b : Number) → j < n → total n (λ k. a k *ℚ put x j b k) ≡ total n (λ k. a k *ℚ x k) +ℚ a j *ℚ (b -ℚ x j)
total-put_point n a x j b l =
    total_off n (λ k. a k *ℚ x k) (λ k. a k *ℚ put x j b k) j l (λ k e. ap (λ z. a k *ℚ z) (put-other x j b k e))
    ∙ ap (λ z. total n (λ k. a k *ℚ x k) -ℚ a j *ℚ x j +ℚ a j *ℚ z) (put-same x j b)
    ∙ ring rational (total n (λ k. a k *ℚ x k) ∷ a j ∷ x j ∷ b ∷ []) (v 0 :- v 1 :* v 2 :+ v 1 :* v 3) (v 0 :+ v 1 :* (v 3 :- v 2)) refl

-- a product sum whose factor at j is changed
pub total-put_factor : (n : ℕ) (a x : ℕ → Number) (j : ℕ) (b : Number) → j < n → total n (λ k. put a j b k *ℚ x k) ≡ total n (λ k. a k *ℚ x k) +ℚ (b -ℚ a j) *ℚ x j
total-put_factor n a x j b l =
    total_off n (λ k. a k *ℚ x k) (λ k. put a j b k *ℚ x k) j l (λ k e. ap (λ z. z *ℚ x k) (put-other a j b k e))
    ∙ ap (λ z. total n (λ k. a k *ℚ x k) -ℚ a j *ℚ x j +ℚ z *ℚ x j) (put-same a j b)
    ∙ ring rational (total n (λ k. a k *ℚ x k) ∷ a j ∷ x j ∷ b ∷ []) (v 0 :- v 1 :* v 2 :+ v 3 :* v 2) (v 0 :+ (v 3 :- v 1) :* v 2) refl

-- the term at j taken out, and set to a j * b
pub total-put_both : (n : ℕ) (a x : ℕ → Number) (j : ℕ) (b : Number) → j < n → total n (λ k. a k *ℚ put x j b k) ≡ total n (λ k. put a j zero_ℚ k *ℚ x k) +ℚ a j *ℚ b
total-put_both n a x j b l = total-put_point n a x j b l
    ∙ ring rational (total n (λ k. a k *ℚ x k) ∷ a j ∷ x j ∷ b ∷ []) (v 0 :+ v 1 :* (v 3 :- v 2)) (v 0 :+ (num (pos 0) :- v 1) :* v 2 :+ v 1 :* v 3) refl
    ∙ ap (λ s. s +ℚ a j *ℚ b) (sym (total-put_factor n a x j zero_ℚ l))
