-- The doubleton equation keeps optimality conditions.
use Rattle.std.proofs.Common.{◌≡◌, ◌≢◌, ℕ, ◌<◌, pos, sym, refl, ap, ap₂, ◌∙◌, [], ◌∷◌, subst, Option, Some, None, Bool, true, false}
use Rattle.std.specs.Prelude.{if◌then◌else◌}
use Rattle.fractions.specs.Ring.{ring, v, num, ◌:+◌, ◌:-◌, ◌:*◌, inv}
use Rattle.fractions.specs.Number.{Number, rational, zero_ℚ, ◌+ℚ◌, ◌-ℚ◌, ◌*ℚ◌, neg_ℚ}
use Rattle.fractions.specs.Order.{<ℚ-≤ℚ}
use Rattle.fractions.specs.Division.{inv_ℚ, ◌/ℚ◌, *ℚ-inv_ℚ}
use Rattle.fractions.specs.Compare.{lt_ℚ}
use Rattle.fractions.specs.Total.{total, put}
use Rattle.fractions.specs.Ends.{less, meet_low, meet_high}
use Rattle.fractions.proofs.Totals.{put-same, put-other, at_or_off, total_same, total-+, total-*}
use Rattle.fractions.specs.Signs.{over-times}
use Rattle.lp_model.specs.declared.program.Sense.TheVariants.{Min}
use Rattle.lp_model.specs.Vectors.{Vector}
use Rattle.lp_model.specs.LinearProgram.{LinearProgram, value_at}
use Rattle.lp_model.specs.Optimality.{Continuous, reduced_cost}
use Rattle.lp_model.specs.Senses.{Sits}
use Rattle.lp_model.specs.Reductions.{Priced, ReducesPairs}
use Rattle.lp_theory.specs.Elsewhere.{products, substituted}
use Rattle.lp_theory.specs.MetEnds.{is_from_row}
use Rattle.lp_theory.proofs.ActivityLaws.{lt_true, lt_false}
use Rattle.lp_theory.proofs.Carrying.{Carries, pairs_of}
use Rattle.lp_theory.proofs.Elsewhere.{left_out, reduced-put}
use Rattle.lp_theory.proofs.Pairs.{some_inj, cancel}
use Rattle.lp_theory.proofs.Sitting.{pos_up, pos_down, neg_up, neg_down, zero_sits, pinned_sits, less_sits, second_sits, first_sits, carried, row_sits, column_sits}
use Rattle.lp_substitutions.specs.DoubletonEquation.{IsDoubletonEquation, image, image_lower, image_upper, doubleton_equation_substituted, undo_doubleton_equation, doubleton_equation_pair}
use Rattle.lp_substitutions.proofs.DoubletonEquation.{over-nonzero, doubleton_equation_reduces, undone, two_value, second_is, on_row, value-doubleton}

-- ---- the image of a range, and a multiplier that sits at an end of it
image_some : (a b r x y : Number) (o : Option Number) → a ≢ zero_ℚ → b ≢ zero_ℚ → y ≡ (r -ℚ a *ℚ x) /ℚ b → image a b r o ≡ Some y → o ≡ Some x
image_some a b r x y None n m on e = cc
image_some a b r x y (Some w) n m on e = ap Some (cancel (a /ℚ b) w x (over-nonzero a b n m)
    (ring rational (a ∷ inv_ℚ b ∷ r ∷ w ∷ []) ((v 0 :* v 1) :* v 3) (v 2 :* v 1 :- (v 2 :- v 0 :* v 3) :* v 1) refl
    ∙ ap (λ c. r *ℚ inv_ℚ b -ℚ c) (some_inj e ∙ on)
    ∙ ring rational (a ∷ inv_ℚ b ∷ r ∷ x ∷ []) (v 2 :* v 1 :- (v 2 :- v 0 :* v 3) :* v 1) ((v 0 :* v 1) :* v 3) refl))

image_sits : (a b r x y m : Number) (l u : Option Number) → a ≢ zero_ℚ → b ≢ zero_ℚ → y ≡ (r -ℚ a *ℚ x) /ℚ b → Sits Min (image_lower a b r l u) (image_upper a b r l u) y m → Sits Min l u x (neg_ℚ ((a /ℚ b) *ℚ m))
image_sits a b r x y m l u n o on = by (lt_ℚ zero_ℚ (a /ℚ b)) refl
  where
    by : (t : Bool) → lt_ℚ zero_ℚ (a /ℚ b) ≡ t → Sits Min (if t then image a b r u else image a b r l) (if t then image a b r l else image a b r u) y m → Sits Min l u x (neg_ℚ ((a /ℚ b) *ℚ m))
    by true e s = let p = <ℚ-≤ℚ (lt_true _ _ e) in ((λ k. image_some a b r x y l n o on (s.1 (pos_up _ m p k))), λ k. image_some a b r x y u n o on (s.0 (pos_down _ m p k)))
    by false e s = let p = lt_false _ _ e in ((λ k. image_some a b r x y l n o on (s.0 (neg_up _ m p k))), λ k. image_some a b r x y u n o on (s.1 (neg_down _ m p k)))

module _ (M : LinearProgram) (i j k : ℕ) (r : Number) (d : IsDoubletonEquation M i j k r) where
  abbrev a : Number
  a = M.coefficient i j

  abbrev b : Number
  b = M.coefficient i k

  abbrev q : Number
  q = b /ℚ a

  abbrev R : LinearProgram
  R = doubleton_equation_substituted M i j k r

  abbrev il : Option Number
  il = image_lower a b r (M.lower_bound j) (M.upper_bound j)

  abbrev iu : Option Number
  iu = image_upper a b r (M.lower_bound j) (M.upper_bound j)

  kj : k ≢ j
  kj m = d.apart (sym m)

  -- ---- coefficients and reduced costs that the substitution leaves
  row_gone : (p : ℕ) → R.coefficient i p ≡ zero_ℚ
  row_gone p = ap (λ (f : Vector). f p) (put-same (λ m. substituted (M.coefficient m) j k q) i (λ p. zero_ℚ))

  row_on : (m p : ℕ) → m ≢ i → R.coefficient m p ≡ substituted (M.coefficient m) j k q p
  row_on m p n = ap (λ (f : Vector). f p) (put-other (λ m. substituted (M.coefficient m) j k q) i (λ p. zero_ℚ) m n)

  at_other : (f : Vector) (p : ℕ) → p ≢ j → p ≢ k → substituted f j k q p ≡ f p
  at_other f p nj nk = put-other (put f j zero_ℚ) k (f k -ℚ f j *ℚ q) p nk ∙ put-other f j zero_ℚ p nj

  at_second : (f : Vector) → substituted f j k q k ≡ f k -ℚ f j *ℚ q
  at_second f = put-same (put f j zero_ℚ) k (f k -ℚ f j *ℚ q)

  reduced_other : (y : Vector) (p : ℕ) → p ≢ j → p ≢ k → reduced_cost R y p ≡ reduced_cost M (put y i zero_ℚ) p
  reduced_other y p nj nk = ap₂ (λ c t. c -ℚ t) (at_other M.costs p nj nk)
      (left_out M.rows i y (λ m. R.coefficient m p) (λ m. M.coefficient m p) (row_gone p) (λ m n. row_on m p n ∙ at_other (M.coefficient m) p nj nk))

  reduced_second : (y : Vector) → reduced_cost R y k ≡ reduced_cost M (put y i zero_ℚ) k -ℚ q *ℚ reduced_cost M (put y i zero_ℚ) j
  reduced_second y =
      ap₂ (λ c t. c -ℚ t) (at_second M.costs)
      (left_out M.rows i y (λ m. R.coefficient m k) (λ m. M.coefficient m k -ℚ M.coefficient m j *ℚ q) (row_gone k) (λ m n. row_on m k n ∙ at_second (M.coefficient m))
      ∙ total_same M.rows _ (λ m. put y i zero_ℚ m *ℚ M.coefficient m k +ℚ neg_ℚ q *ℚ (put y i zero_ℚ m *ℚ M.coefficient m j))
      (λ m l. ring rational (put y i zero_ℚ m ∷ M.coefficient m k ∷ M.coefficient m j ∷ q ∷ []) (v 0 :* (v 1 :- v 2 :* v 3)) (v 0 :* v 1 :+ inv (v 3) :* (v 0 :* v 2)) refl)
      ∙ total-+ M.rows (λ m. put y i zero_ℚ m *ℚ M.coefficient m k) (λ m. neg_ℚ q *ℚ (put y i zero_ℚ m *ℚ M.coefficient m j))
      ∙ ap (λ t. total M.rows (λ m. put y i zero_ℚ m *ℚ M.coefficient m k) +ℚ t) (total-* M.rows (neg_ℚ q) (λ m. put y i zero_ℚ m *ℚ M.coefficient m j)))
      ∙ ring rational (M.costs k ∷ M.costs j ∷ q ∷ total M.rows (λ m. put y i zero_ℚ m *ℚ M.coefficient m k) ∷ total M.rows (λ m. put y i zero_ℚ m *ℚ M.coefficient m j) ∷ [])
      ((v 0 :- v 1 :* v 2) :- (v 3 :+ inv (v 2) :* v 4)) ((v 0 :- v 3) :- v 2 :* (v 1 :- v 4)) refl

  -- column j is continuous where the others are: a whole one asks that k is whole too
  continuous_too : Continuous R → Continuous M
  continuous_too c p l = at_or_off (λ p. p < M.columns → (M.whole p ≡ false) × (M.gap p ≡ None)) j (λ m. (first (M.whole j) refl, d.solid))
      (λ p n m. (sym (put-other M.whole j false p n) ∙ (c p m).0, sym (put-other M.gap j None p n) ∙ (c p m).1)) p l
    where
      first : (t : Bool) → M.whole j ≡ t → M.whole j ≡ false
      first false e = e
      first true e = absurd (let f = sym (put-other M.whole j false k kj) ∙ (c k d.second).0 in let g : M.whole k ≡ true = (d.whole e).0 in cc)

  module _ (p : Priced) (h : Carries R p) where
    abbrev dj : Number
    dj = M.costs j -ℚ products M.rows p.y (put (λ m. M.coefficient m j) i zero_ℚ)

    abbrev dk : Number
    dk = p.z k +ℚ q *ℚ dj

    abbrev w : Vector
    w = undo_doubleton_equation j k a b r p.x

    dj_is : dj ≡ reduced_cost M (put p.y i zero_ℚ) j
    dj_is = ap (λ t. M.costs j -ℚ t) (left_out M.rows i p.y (put (λ m. M.coefficient m j) i zero_ℚ) (λ m. M.coefficient m j) (put-same (λ m. M.coefficient m j) i zero_ℚ) (λ m n. put-other (λ m. M.coefficient m j) i zero_ℚ m n))

    dk_is : dk ≡ reduced_cost M (put p.y i zero_ℚ) k
    dk_is = ap₂ (λ z c. z +ℚ q *ℚ c) (h.left k d.second ∙ reduced_second p.y) dj_is
        ∙ ring rational (reduced_cost M (put p.y i zero_ℚ) k ∷ (q *ℚ reduced_cost M (put p.y i zero_ℚ) j) ∷ []) (v 0 :- v 1 :+ v 1) (v 0) refl

    wk : w k ≡ p.x k
    wk = put-other p.x j _ k kj

    second_by_first : p.x k ≡ (r -ℚ a *ℚ w j) /ℚ b
    second_by_first = sym wk ∙ second_is M i j k r d w (ap (λ (u : Vector). a *ℚ u j +ℚ b *ℚ u k) (undone M i j k r d p.x) ∙ on_row M i j k r d p.x)

    -- what is left of j where the row takes over what is left of k
    left_of_first : dj -ℚ a *ℚ (dk /ℚ b) ≡ neg_ℚ ((a /ℚ b) *ℚ p.z k)
    left_of_first = ring rational (a ∷ b ∷ inv_ℚ a ∷ inv_ℚ b ∷ dj ∷ p.z k ∷ []) (v 4 :- v 0 :* ((v 5 :+ v 1 :* v 2 :* v 4) :* v 3)) (v 4 :- (v 0 :* v 2) :* (v 1 :* v 3) :* v 4 :- v 0 :* v 3 :* v 5) refl
        ∙ ap₂ (λ f g. dj -ℚ f *ℚ g *ℚ dj -ℚ (a /ℚ b) *ℚ p.z k) (*ℚ-inv_ℚ a d.first_entry) (*ℚ-inv_ℚ b d.second_entry)
        ∙ ring rational (dj ∷ ((a /ℚ b) *ℚ p.z k) ∷ []) (v 0 :- num (pos 1) :* num (pos 1) :* v 0 :- v 1) (inv (v 1)) refl

    -- and what is left of k where it takes over what is left of j
    left_of_second : dk -ℚ b *ℚ (dj /ℚ a) ≡ p.z k
    left_of_second = ring rational (b ∷ inv_ℚ a ∷ dj ∷ p.z k ∷ []) ((v 3 :+ v 0 :* v 1 :* v 2) :- v 0 :* (v 2 :* v 1)) (v 3) refl

    used_up : (c e : Number) → c ≢ zero_ℚ → e -ℚ c *ℚ (e /ℚ c) ≡ zero_ℚ
    used_up c e n = ap (λ s. e -ℚ s) (over-times c e n) ∙ ring rational (e ∷ []) (v 0 :- v 0) (num (pos 0)) refl

    met_sits : Sits Min (meet_low (M.lower_bound k) il) (meet_high (M.upper_bound k) iu) (p.x k) (p.z k)
    met_sits = rw (put-same (put M.lower_bound j None), put-same (put M.upper_bound j None)) at (column_sits R p h k d.second)

    -- both columns, by the test
    both : (t : Bool) → is_from_row (M.lower_bound k) (M.upper_bound k) (p.x k) (p.z k) ≡ t →
        let y : Number = if t then dk /ℚ b else dj /ℚ a in
        Sits Min (M.lower_bound j) (M.upper_bound j) (w j) (dj -ℚ a *ℚ y) × Sits Min (M.lower_bound k) (M.upper_bound k) (p.x k) (dk -ℚ b *ℚ y)
    both true e = (
      subst (Sits Min (M.lower_bound j) (M.upper_bound j) (w j)) (sym left_of_first)
          (image_sits a b r (w j) (p.x k) (p.z k) (M.lower_bound j) (M.upper_bound j) d.first_entry d.second_entry second_by_first
          (second_sits (M.lower_bound k) (M.upper_bound k) il iu (p.x k) (p.z k) met_sits e)),
      zero_sits (M.lower_bound k) (M.upper_bound k) (p.x k) _ (used_up b dk d.second_entry),
    )
    both false e = (
      zero_sits (M.lower_bound j) (M.upper_bound j) (w j) _ (used_up a dj d.first_entry),
      subst (Sits Min (M.lower_bound k) (M.upper_bound k) (p.x k)) (sym left_of_second) (first_sits (M.lower_bound k) (M.upper_bound k) (p.x k) (p.z k) e),
    )

    abbrev t : Number
    t = if is_from_row (M.lower_bound k) (M.upper_bound k) (p.x k) (p.z k) then dk /ℚ b else dj /ℚ a

    abbrev z : Vector
    z = put (put p.z j (dj -ℚ a *ℚ t)) k (dk -ℚ b *ℚ t)

    zk : z k ≡ dk -ℚ b *ℚ t
    zk = put-same (put p.z j (dj -ℚ a *ℚ t)) k (dk -ℚ b *ℚ t)

    zj : z j ≡ dj -ℚ a *ℚ t
    zj = put-other (put p.z j (dj -ℚ a *ℚ t)) k (dk -ℚ b *ℚ t) j d.apart ∙ put-same p.z j (dj -ℚ a *ℚ t)

    z_other : (s : ℕ) → s ≢ j → s ≢ k → z s ≡ p.z s
    z_other s nj nk = put-other (put p.z j (dj -ℚ a *ℚ t)) k (dk -ℚ b *ℚ t) s nk ∙ put-other p.z j (dj -ℚ a *ℚ t) s nj

    priced : (s : ℕ) → s < M.columns → z s ≡ reduced_cost M (put p.y i t) s
    priced = at_or_off (λ s. s < M.columns → z s ≡ reduced_cost M (put p.y i t) s) j
        (λ l. zj ∙ ap (λ c. c -ℚ a *ℚ t) dj_is ∙ sym (reduced-put M i p.y t j d.row))
        (λ s nj l. at_or_off (λ s. s ≢ j → s < M.columns → z s ≡ reduced_cost M (put p.y i t) s) k
        (λ nj l. zk ∙ ap (λ c. c -ℚ b *ℚ t) dk_is ∙ sym (reduced-put M i p.y t k d.row))
        (λ s nk nj l. z_other s nj nk ∙ h.left s l ∙ reduced_other p.y s nj nk
        ∙ ring rational (reduced_cost M (put p.y i zero_ℚ) s ∷ t ∷ []) (v 0) (v 0 :- num (pos 0) :* v 1) refl
        ∙ ap (λ c. reduced_cost M (put p.y i zero_ℚ) s -ℚ c *ℚ t) (sym (d.only s l nj nk)) ∙ sym (reduced-put M i p.y t s d.row)) s nj l)

    rows_sit : (m : ℕ) → m < M.rows → Sits Min (M.lower_side m) (M.upper_side m) (value_at M m w) (put p.y i t m)
    rows_sit = at_or_off (λ m. m < M.rows → Sits Min (M.lower_side m) (M.upper_side m) (value_at M m w) (put p.y i t m)) i
        (λ l. pinned_sits (M.lower_side i) (M.upper_side i) r (value_at M i w) _ d.lower d.upper (ap (value_at M i) (undone M i j k r d p.x) ∙ two_value M i j k r d _ ∙ on_row M i j k r d p.x))
        (λ m n l. rw (put-other p.y i t m n, ap (value_at M m) (undone M i j k r d p.x) ∙ value-doubleton M i j k r d m p.x n)
        (less_sits (M.lower_side m) (M.upper_side m) (M.coefficient m j *ℚ (r /ℚ a)) (value_at R m p.x) (p.y m)
        (rw (put-other (λ m. less (M.lower_side m) (M.coefficient m j *ℚ (r /ℚ a))) i None m n, put-other (λ m. less (M.upper_side m) (M.coefficient m j *ℚ (r /ℚ a))) i None m n) at (row_sits R p h m l))))

    columns_sit : (s : ℕ) → s < M.columns → Sits Min (M.lower_bound s) (M.upper_bound s) (w s) (z s)
    columns_sit =
        let f = both (is_from_row (M.lower_bound k) (M.upper_bound k) (p.x k) (p.z k)) refl in
        at_or_off (λ s. s < M.columns → Sits Min (M.lower_bound s) (M.upper_bound s) (w s) (z s)) j (λ l. rw zj f.0)
        (λ s nj l. at_or_off (λ s. s ≢ j → s < M.columns → Sits Min (M.lower_bound s) (M.upper_bound s) (w s) (z s)) k (λ nj l. rw (zk, wk) f.1)
        (λ s nk nj l. rw (z_other s nj nk, put-other p.x j ((r -ℚ b *ℚ p.x k) /ℚ a) s nj)
        (rw (put-other (put M.lower_bound j None) k (meet_low (M.lower_bound k) il) s nk, put-other M.lower_bound j None s nj, put-other (put M.upper_bound j None) k (meet_high (M.upper_bound k) iu) s nk, put-other M.upper_bound j None s nj) at (column_sits R p h s l))) s nj l)

    pub undone_pair : Carries M (doubleton_equation_pair M i j k r p)
    undone_pair = carried M (doubleton_equation_pair M i j k r p) (continuous_too h.continuous) ((doubleton_equation_reduces M i j k r d Min).lifts p.x h.feasible) priced rows_sit columns_sit

  pub doubleton_equation_pairs : ReducesPairs Min M R (doubleton_equation_pair M i j k r)
  doubleton_equation_pairs = pairs_of M R (doubleton_equation_pair M i j k r) (record { carries = undone_pair })
