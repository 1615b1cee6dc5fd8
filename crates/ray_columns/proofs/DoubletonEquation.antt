-- K12: what came from the bounds of a substituted column goes back to it, and what the rows leave of that to the equation.
use Rattle.std.proofs.Common.{◌≡◌, ◌≢◌, ℕ, ◌<◌, pos, sym, refl, ap, ap₂, ◌∙◌, [], ◌∷◌, subst, Option, None, Bool, true, false}
use Rattle.std.specs.Prelude.{if◌then◌else◌}
use Rattle.fractions.specs.Ring.{ring, v, num, ◌:+◌, ◌:-◌, ◌:*◌, inv}
use Rattle.fractions.specs.Number.{Number, rational, zero_ℚ, ◌+ℚ◌, ◌-ℚ◌, ◌*ℚ◌, neg_ℚ}
use Rattle.fractions.specs.Order.{◌≤ℚ◌, <ℚ-≤ℚ, ≤ℚ_refl}
use Rattle.fractions.specs.Compare.{lt_ℚ}
use Rattle.fractions.specs.Inverse.{inv_ℚ, *ℚ-inv_ℚ}
use Rattle.fractions.specs.Division.{◌/ℚ◌}
use Rattle.fractions.specs.Total.{total, put}
use Rattle.fractions.specs.Ends.{less}
use Rattle.fractions.proofs.Totals.{put-same, put-other, at_or_off, total_same, total-*}
use Rattle.fractions.specs.Signs.{over-times}
use Rattle.lp_model.specs.Vectors.{Vector}
use Rattle.lp_model.specs.LinearProgram.{LinearProgram}
use Rattle.lp_theory.specs.Elsewhere.{substituted}
use Rattle.lp_theory.proofs.ActivityLaws.{lt_true, lt_false}
use Rattle.lp_substitutions.specs.DoubletonEquation.{IsDoubletonEquation, image_lower, image_upper, doubleton_equation_substituted}
use Rattle.fractions.specs.Ends.{meet_low, meet_high}
use Rattle.lp_rays.specs.Ray.{Weights, IsWeight, worth, IsWeighting, StepsBack}
use Rattle.lp_rays.specs.Handing.{moved, kept_of, handed_of, image_low_part, image_high_part}
use Rattle.lp_rays.specs.Steps.{ray_doubleton_equation}
use Rattle.lp_rays.proofs.Weighing.{side_worth, bound_worth, total_by_parts, total-less, no_weight, worth_none}
use Rattle.lp_rays.proofs.Handing.{Split, split, meet_low_either, meet_high_either, Parted, negative_pos'}
use Rattle.ray_columns.proofs.Images.{imaged}
use Rattle.lp_rays.proofs.Moving.{Moved, steps_of, entries_put, sides_put}
use Rattle.ray_columns.proofs.DroppedColumn.{entries_of, sides_less}
use Rattle.ray_columns.proofs.ParallelColumns.{total_two}

-- a number as the weights of a side that is both
record Halves (e s t : Number) : Type 0 where
  low : zero_ℚ ≤ℚ s
  high : zero_ℚ ≤ℚ t
  net : s -ℚ t ≡ e

halves : (e : Number) → Halves e (if lt_ℚ zero_ℚ e then e else zero_ℚ) (if lt_ℚ zero_ℚ e then zero_ℚ else neg_ℚ e)
halves e = by (lt_ℚ zero_ℚ e) refl
  where
    by : (b : Bool) → lt_ℚ zero_ℚ e ≡ b → Halves e (if b then e else zero_ℚ) (if b then zero_ℚ else neg_ℚ e)
    by true q = record { low = <ℚ-≤ℚ (lt_true _ _ q); high = ≤ℚ_refl zero_ℚ; net = ring rational (e ∷ []) (v 0 :- num (pos 0)) (v 0) refl }
    by false q = record { low = ≤ℚ_refl zero_ℚ; high = negative_pos' e (lt_false _ _ q); net = ring rational (e ∷ []) (num (pos 0) :- inv (v 0)) (v 0) refl }

module _ (M : LinearProgram) (i j k : ℕ) (r : Number) (d : IsDoubletonEquation M i j k r) where
  abbrev R : LinearProgram
  R = doubleton_equation_substituted M i j k r

  abbrev a : Number
  a = M.coefficient i j

  abbrev b : Number
  b = M.coefficient i k

  -- b / a
  abbrev f : Number
  f = b /ℚ a

  abbrev img_lo : Option Number
  img_lo = image_lower a b r (M.lower_bound j) (M.upper_bound j)

  abbrev img_hi : Option Number
  img_hi = image_upper a b r (M.lower_bound j) (M.upper_bound j)

  abbrev lo : Option Number
  lo = meet_low (M.lower_bound k) img_lo

  abbrev hi : Option Number
  hi = meet_high (M.upper_bound k) img_hi

  abbrev low : Bool
  low = moved (M.lower_bound k) lo

  abbrev high : Bool
  high = moved (M.upper_bound k) hi

  k_off_j : k ≢ j
  k_off_j e = d.apart (sym e)

  -- ---- the ends of R
  low_k : R.lower_bound k ≡ lo
  low_k = put-same (put M.lower_bound j None) k lo

  high_k : R.upper_bound k ≡ hi
  high_k = put-same (put M.upper_bound j None) k hi

  low_j : R.lower_bound j ≡ None
  low_j = put-other (put M.lower_bound j None) k lo j d.apart ∙ put-same M.lower_bound j None

  high_j : R.upper_bound j ≡ None
  high_j = put-other (put M.upper_bound j None) k hi j d.apart ∙ put-same M.upper_bound j None

  low_other : (m : ℕ) → m ≢ j → m ≢ k → R.lower_bound m ≡ M.lower_bound m
  low_other m n o = put-other (put M.lower_bound j None) k lo m o ∙ put-other M.lower_bound j None m n

  high_other : (m : ℕ) → m ≢ j → m ≢ k → R.upper_bound m ≡ M.upper_bound m
  high_other m n o = put-other (put M.upper_bound j None) k hi m o ∙ put-other M.upper_bound j None m n

  side_low : (m : ℕ) → m ≢ i → R.lower_side m ≡ less (M.lower_side m) (M.coefficient m j *ℚ (r /ℚ a))
  side_low m n = put-other (λ m. less (M.lower_side m) (M.coefficient m j *ℚ (r /ℚ a))) i None m n

  side_high : (m : ℕ) → m ≢ i → R.upper_side m ≡ less (M.upper_side m) (M.coefficient m j *ℚ (r /ℚ a))
  side_high m n = put-other (λ m. less (M.upper_side m) (M.coefficient m j *ℚ (r /ℚ a))) i None m n

  -- ---- entries
  row_other : (m c : ℕ) → m ≢ i → R.coefficient m c ≡ substituted (M.coefficient m) j k f c
  row_other m c n = ap (λ (g : ℕ → Number). g c) (put-other (λ m. substituted (M.coefficient m) j k f) i (λ p. zero_ℚ) m n)

  -- the weights of row i are 0 in R
  module _ (w : Weights) (h : IsWeighting R w) where
    none : (w.s i ≡ zero_ℚ) × (w.t i ≡ zero_ℚ)
    none = (
      subst (λ o. IsWeight o (w.s i)) (put-same (λ m. less (M.lower_side m) (M.coefficient m j *ℚ (r /ℚ a))) i None) (h.rows i d.row).0,
      subst (λ o. IsWeight o (w.t i)) (put-same (λ m. less (M.upper_side m) (M.coefficient m j *ℚ (r /ℚ a))) i None) (h.rows i d.row).1,
    )

    -- so its terms are 0, whatever the entries
    idle : (x y : Number) → (w.s i -ℚ w.t i) *ℚ x ≡ (w.s i -ℚ w.t i) *ℚ y
    idle x y = ap₂ (λ p q. (p -ℚ q) *ℚ x) none.0 none.1 ∙ ring rational (x ∷ y ∷ []) ((num (pos 0) :- num (pos 0)) :* v 0) ((num (pos 0) :- num (pos 0)) :* v 1) refl ∙ ap₂ (λ p q. (p -ℚ q) *ℚ y) (sym none.0) (sym none.1)

    -- the sums of R are those with the substituted entries
    entries_other : (c : ℕ) → c ≢ j → c ≢ k → entries_of R w c ≡ entries_of M w c
    entries_other c n o = total_same M.rows _ _ (λ m l. at_or_off (λ m. (w.s m -ℚ w.t m) *ℚ R.coefficient m c ≡ (w.s m -ℚ w.t m) *ℚ M.coefficient m c) i
        (idle _ _)
        (λ m q. ap (λ y. (w.s m -ℚ w.t m) *ℚ y) (row_other m c q ∙ put-other (put (M.coefficient m) j zero_ℚ) k (M.coefficient m k -ℚ M.coefficient m j *ℚ f) c o ∙ put-other (M.coefficient m) j zero_ℚ c n)) m)

    entries_k : entries_of R w k ≡ entries_of M w k -ℚ f *ℚ entries_of M w j
    entries_k = total_same M.rows _ (λ m. (w.s m -ℚ w.t m) *ℚ M.coefficient m k -ℚ f *ℚ ((w.s m -ℚ w.t m) *ℚ M.coefficient m j))
        (λ m l. at_or_off (λ m. (w.s m -ℚ w.t m) *ℚ R.coefficient m k ≡ (w.s m -ℚ w.t m) *ℚ M.coefficient m k -ℚ f *ℚ ((w.s m -ℚ w.t m) *ℚ M.coefficient m j)) i
        (idle (R.coefficient i k) (M.coefficient i k -ℚ f *ℚ M.coefficient i j) ∙ ring rational ((w.s i -ℚ w.t i) ∷ M.coefficient i k ∷ f ∷ M.coefficient i j ∷ []) (v 0 :* (v 1 :- v 2 :* v 3)) (v 0 :* v 1 :- v 2 :* (v 0 :* v 3)) refl)
        (λ m q. ap (λ y. (w.s m -ℚ w.t m) *ℚ y) (row_other m k q ∙ put-same (put (M.coefficient m) j zero_ℚ) k (M.coefficient m k -ℚ M.coefficient m j *ℚ f))
        ∙ ring rational ((w.s m -ℚ w.t m) ∷ M.coefficient m k ∷ M.coefficient m j ∷ f ∷ []) (v 0 :* (v 1 :- v 2 :* v 3)) (v 0 :* v 1 :- v 3 :* (v 0 :* v 2)) refl) m)
        ∙ total-less M.rows (λ m. (w.s m -ℚ w.t m) *ℚ M.coefficient m k) (λ m. f *ℚ ((w.s m -ℚ w.t m) *ℚ M.coefficient m j))
        ∙ ap (λ y. entries_of M w k -ℚ y) (total-* M.rows f (λ m. (w.s m -ℚ w.t m) *ℚ M.coefficient m j))

    -- the column without row i has the same sum
    abbrev g : Vector
    g = put (λ m. M.coefficient m j) i zero_ℚ

    sum_without : total M.rows (λ m. (w.s m -ℚ w.t m) *ℚ g m) ≡ entries_of M w j
    sum_without = total_same M.rows _ _ (λ m l. at_or_off (λ m. (w.s m -ℚ w.t m) *ℚ g m ≡ (w.s m -ℚ w.t m) *ℚ M.coefficient m j) i (idle _ _) (λ m q. ap (λ y. (w.s m -ℚ w.t m) *ℚ y) (put-other (λ m. M.coefficient m j) i zero_ℚ m q)) m)

    -- ---- sides
    at_sides : (m : ℕ) → m < M.rows → (IsWeight (M.lower_side m) (w.s m) × IsWeight (M.upper_side m) (w.t m)) × (side_worth R w m ≡ side_worth M w m -ℚ (w.s m -ℚ w.t m) *ℚ (M.coefficient m j *ℚ (r /ℚ a)))
    at_sides = at_or_off (λ m. m < M.rows → (IsWeight (M.lower_side m) (w.s m) × IsWeight (M.upper_side m) (w.t m)) × (side_worth R w m ≡ side_worth M w m -ℚ (w.s m -ℚ w.t m) *ℚ (M.coefficient m j *ℚ (r /ℚ a)))) i
        (λ l. (
          (subst (IsWeight (M.lower_side i)) (sym none.0) (no_weight (M.lower_side i)), subst (IsWeight (M.upper_side i)) (sym none.1) (no_weight (M.upper_side i))),
          ap₂ (λ x y. worth (R.lower_side i) x -ℚ worth (R.upper_side i) y) none.0 none.1 ∙ ap₂ ◌-ℚ◌ (worth_none (R.lower_side i)) (worth_none (R.upper_side i))
              ∙ ring rational ((M.coefficient i j *ℚ (r /ℚ a)) ∷ []) (num (pos 0) :- num (pos 0)) ((num (pos 0) :- num (pos 0)) :- (num (pos 0) :- num (pos 0)) :* v 0) refl
              ∙ ap₂ (λ x y. x -ℚ (y *ℚ (M.coefficient i j *ℚ (r /ℚ a)))) (sym (ap₂ (λ x y. worth (M.lower_side i) x -ℚ worth (M.upper_side i) y) none.0 none.1 ∙ ap₂ ◌-ℚ◌ (worth_none (M.lower_side i)) (worth_none (M.upper_side i)))) (ap₂ ◌-ℚ◌ (sym none.0) (sym none.1)),
        ))
        (λ m n l. let s = sides_less (M.lower_side m) (M.upper_side m) (M.coefficient m j *ℚ (r /ℚ a)) (w.s m) (w.t m) (subst (λ o. IsWeight o (w.s m)) (side_low m n) (h.rows m l).0) (subst (λ o. IsWeight o (w.t m)) (side_high m n) (h.rows m l).1) in
        (s.0, ap₂ (λ x y. worth x (w.s m) -ℚ worth y (w.t m)) (side_low m n) (side_high m n) ∙ s.1))

    sides_total : total M.rows (side_worth R w) ≡ total M.rows (side_worth M w) -ℚ (r /ℚ a) *ℚ entries_of M w j
    sides_total = total_same M.rows _ (λ m. side_worth M w m -ℚ (r /ℚ a) *ℚ ((w.s m -ℚ w.t m) *ℚ M.coefficient m j))
        (λ m l. (at_sides m l).1 ∙ ring rational (side_worth M w m ∷ (w.s m -ℚ w.t m) ∷ M.coefficient m j ∷ (r /ℚ a) ∷ []) (v 0 :- v 1 :* (v 2 :* v 3)) (v 0 :- v 3 :* (v 1 :* v 2)) refl)
        ∙ total-less M.rows (side_worth M w) (λ m. (r /ℚ a) *ℚ ((w.s m -ℚ w.t m) *ℚ M.coefficient m j))
        ∙ ap (λ y. total M.rows (side_worth M w) -ℚ y) (total-* M.rows (r /ℚ a) (λ m. (w.s m -ℚ w.t m) *ℚ M.coefficient m j))

    -- ---- what goes back
    abbrev P : Number
    P = handed_of low (w.p k)

    abbrev Q : Number
    Q = handed_of high (w.q k)

    abbrev pj : Number
    pj = image_low_part (a /ℚ b) P Q

    abbrev qj : Number
    qj = image_high_part (a /ℚ b) P Q

    abbrev e : Number
    e = ((qj -ℚ pj) -ℚ total M.rows (λ m. (w.s m -ℚ w.t m) *ℚ g m)) /ℚ a

    sl : Split (M.lower_bound k) img_lo lo (w.p k) low
    sl = split (M.lower_bound k) img_lo lo (w.p k) (meet_low_either (M.lower_bound k) img_lo) (subst (λ o. IsWeight o (w.p k)) low_k (h.columns k d.second).0)

    su : Split (M.upper_bound k) img_hi hi (w.q k) high
    su = split (M.upper_bound k) img_hi hi (w.q k) (meet_high_either (M.upper_bound k) img_hi) (subst (λ o. IsWeight o (w.q k)) high_k (h.columns k d.second).1)

    pa : Parted (M.lower_bound j) (M.upper_bound j) (neg_ℚ (a /ℚ b) *ℚ (P -ℚ Q)) pj qj ((worth img_lo P -ℚ worth img_hi Q) -ℚ (P -ℚ Q) *ℚ (r /ℚ b))
    pa = imaged a b r (M.lower_bound j) (M.upper_bound j) P Q sl.handed su.handed

    -- a e = (q_j - p_j) - the sum of column j
    a_times_e : a *ℚ e ≡ (qj -ℚ pj) -ℚ entries_of M w j
    a_times_e = over-times a ((qj -ℚ pj) -ℚ total M.rows (λ m. (w.s m -ℚ w.t m) *ℚ g m)) d.first_entry ∙ ap (λ y. (qj -ℚ pj) -ℚ y) sum_without

    -- b/a times q_j - p_j is P - Q
    crossing : f *ℚ (qj -ℚ pj) ≡ P -ℚ Q
    crossing = ring rational (f ∷ qj ∷ pj ∷ []) (v 0 :* (v 1 :- v 2)) (inv (v 0 :* (v 2 :- v 1))) refl
        ∙ ap (λ y. neg_ℚ (f *ℚ y)) pa.net
        ∙ ring rational (a ∷ b ∷ inv_ℚ a ∷ inv_ℚ b ∷ (P -ℚ Q) ∷ []) (inv (v 1 :* v 2 :* (inv (v 0 :* v 3) :* v 4))) ((v 0 :* v 2) :* (v 1 :* v 3) :* v 4) refl
        ∙ ap₂ (λ x y. x *ℚ y *ℚ (P -ℚ Q)) (*ℚ-inv_ℚ a d.first_entry) (*ℚ-inv_ℚ b d.second_entry)
        ∙ ring rational ((P -ℚ Q) ∷ []) (num (pos 1) :* num (pos 1) :* v 0) (v 0) refl

    b_is : b ≡ f *ℚ a
    b_is = sym (ring rational (a ∷ b ∷ inv_ℚ a ∷ []) (v 1 :* v 2 :* v 0) (v 1 :* (v 0 :* v 2)) refl ∙ ap (λ y. b *ℚ y) (*ℚ-inv_ℚ a d.first_entry) ∙ ring rational (b ∷ []) (v 0 :* num (pos 1)) (v 0) refl)

    hv : Halves e (if lt_ℚ zero_ℚ e then e else zero_ℚ) (if lt_ℚ zero_ℚ e then zero_ℚ else neg_ℚ e)
    hv = halves e

    abbrev s' : Number
    s' = if lt_ℚ zero_ℚ e then e else zero_ℚ

    abbrev t' : Number
    t' = if lt_ℚ zero_ℚ e then zero_ℚ else neg_ℚ e

    abbrev after : Weights
    after = ray_doubleton_equation i j k a b M.rows g low high w

    taken : (s' -ℚ t') -ℚ (w.s i -ℚ w.t i) ≡ e
    taken = ap₂ (λ x (y : Number). x -ℚ y) hv.net (ap₂ ◌-ℚ◌ none.0 none.1) ∙ ring rational (e ∷ []) (v 0 :- (num (pos 0) :- num (pos 0))) (v 0) refl

    entries_after : (c : ℕ) → entries_of M after c ≡ entries_of M w c +ℚ e *ℚ M.coefficient i c
    entries_after c = entries_put M w.s w.t i s' t' c d.row ∙ ap (λ y. entries_of M w c +ℚ y *ℚ M.coefficient i c) taken

    -- ---- columns
    p_at_k : after.p k ≡ kept_of low (w.p k)
    p_at_k = put-same (put w.p j pj) k (kept_of low (w.p k))

    q_at_k : after.q k ≡ kept_of high (w.q k)
    q_at_k = put-same (put w.q j qj) k (kept_of high (w.q k))

    p_at_j : after.p j ≡ pj
    p_at_j = put-other (put w.p j pj) k (kept_of low (w.p k)) j d.apart ∙ put-same w.p j pj

    q_at_j : after.q j ≡ qj
    q_at_j = put-other (put w.q j qj) k (kept_of high (w.q k)) j d.apart ∙ put-same w.q j qj

    p_other : (c : ℕ) → c ≢ j → c ≢ k → after.p c ≡ w.p c
    p_other c n o = put-other (put w.p j pj) k (kept_of low (w.p k)) c o ∙ put-other w.p j pj c n

    q_other : (c : ℕ) → c ≢ j → c ≢ k → after.q c ≡ w.q c
    q_other c n o = put-other (put w.q j qj) k (kept_of high (w.q k)) c o ∙ put-other w.q j qj c n

    -- what holds at j, at k and elsewhere holds everywhere
    three : (T : ℕ → Type 0) → T j → T k → ((c : ℕ) → c ≢ j → c ≢ k → T c) → (c : ℕ) → T c
    three T x y z = at_or_off T j x (λ c n. at_or_off (λ c. c ≢ j → T c) k (λ n. y) (λ c o n. z c n o) c n)

    net_j : (entries_of M after j +ℚ after.p j) -ℚ after.q j ≡ zero_ℚ
    net_j = rw (p_at_j, q_at_j, entries_after j)
        (ring rational (entries_of M w j ∷ e ∷ a ∷ pj ∷ qj ∷ []) (((v 0 :+ v 1 :* v 2) :+ v 3) :- v 4) (v 0 :+ v 2 :* v 1 :+ v 3 :- v 4) refl
        ∙ ap (λ y. entries_of M w j +ℚ y +ℚ pj -ℚ qj) a_times_e
        ∙ ring rational (entries_of M w j ∷ pj ∷ qj ∷ []) (v 0 :+ ((v 2 :- v 1) :- v 0) :+ v 1 :- v 2) (num (pos 0)) refl)

    net_k : (entries_of M after k +ℚ after.p k) -ℚ after.q k ≡ zero_ℚ
    net_k = rw (p_at_k, q_at_k, entries_after k)
        (ap₂ (λ x y. ((entries_of M w k +ℚ e *ℚ b) +ℚ x) -ℚ y) sl.sum su.sum
        ∙ ap (λ y. ((entries_of M w k +ℚ e *ℚ y) +ℚ (w.p k -ℚ P)) -ℚ (w.q k -ℚ Q)) b_is
        ∙ ring rational (entries_of M w k ∷ e ∷ f ∷ a ∷ w.p k ∷ w.q k ∷ P ∷ Q ∷ []) (((v 0 :+ v 1 :* (v 2 :* v 3)) :+ (v 4 :- v 6)) :- (v 5 :- v 7)) (v 0 :+ v 2 :* (v 3 :* v 1) :+ (v 4 :- v 5) :- (v 6 :- v 7)) refl
        ∙ ap₂ (λ x y. entries_of M w k +ℚ f *ℚ x +ℚ (w.p k -ℚ w.q k) -ℚ y) a_times_e (sym crossing)
        ∙ ring rational (entries_of M w k ∷ f ∷ entries_of M w j ∷ w.p k ∷ w.q k ∷ (qj -ℚ pj) ∷ []) (v 0 :+ v 1 :* (v 5 :- v 2) :+ (v 3 :- v 4) :- v 1 :* v 5) (((v 0 :- v 1 :* v 2) :+ v 3) :- v 4) refl
        ∙ ap (λ y. (y +ℚ w.p k) -ℚ w.q k) (sym entries_k) ∙ h.nets k d.second)

    net_other : (c : ℕ) → c ≢ j → c ≢ k → c < M.columns → (entries_of M after c +ℚ after.p c) -ℚ after.q c ≡ zero_ℚ
    net_other c n o l = rw (p_other c n o, q_other c n o, entries_after c, d.only c l n o)
        (ring rational (entries_of M w c ∷ e ∷ w.p c ∷ w.q c ∷ []) (((v 0 :+ v 1 :* num (pos 0)) :+ v 2) :- v 3) ((v 0 :+ v 2) :- v 3) refl
        ∙ ap (λ y. (y +ℚ w.p c) -ℚ w.q c) (sym (entries_other c n o)) ∙ h.nets c l)

    -- ---- the total
    abbrev given : Number
    given = (P -ℚ Q) *ℚ (r /ℚ b)

    columns_total : total M.columns (bound_worth M after) ≡ total M.columns (bound_worth R w) -ℚ given
    columns_total =
        total_two M.columns (bound_worth R w) (bound_worth M after) j k d.first d.second d.apart
        (λ c n o. ap₂ (λ x y. worth (M.lower_bound c) x -ℚ worth (M.upper_bound c) y) (p_other c n o) (q_other c n o) ∙ ap₂ (λ x y. worth x (w.p c) -ℚ worth y (w.q c)) (sym (low_other c n o)) (sym (high_other c n o)))
        ∙ ap₂ (λ x y. ((total M.columns (bound_worth R w) -ℚ x) -ℚ y +ℚ bound_worth M after j) +ℚ bound_worth M after k) (ap₂ (λ x y. worth x (w.p j) -ℚ worth y (w.q j)) low_j high_j) (ap₂ (λ x y. worth x (w.p k) -ℚ worth y (w.q k)) low_k high_k)
        ∙ ap₂ (λ x y. ((total M.columns (bound_worth R w) -ℚ (zero_ℚ -ℚ zero_ℚ)) -ℚ (worth lo (w.p k) -ℚ worth hi (w.q k)) +ℚ x) +ℚ y)
        (ap₂ (λ x y. worth (M.lower_bound j) x -ℚ worth (M.upper_bound j) y) p_at_j q_at_j ∙ pa.worths)
        (ap₂ (λ x y. worth (M.lower_bound k) x -ℚ worth (M.upper_bound k) y) p_at_k q_at_k ∙ ap₂ ◌-ℚ◌ sl.worths su.worths)
        ∙ ring rational (total M.columns (bound_worth R w) ∷ worth lo (w.p k) ∷ worth hi (w.q k) ∷ worth img_lo P ∷ worth img_hi Q ∷ given ∷ [])
        (((v 0 :- (num (pos 0) :- num (pos 0))) :- (v 1 :- v 2) :+ ((v 3 :- v 4) :- v 5)) :+ ((v 1 :- v 3) :- (v 2 :- v 4))) (v 0 :- v 5) refl

    -- the equation's share: (r/a) a e
    r_times_e : e *ℚ r ≡ given -ℚ (r /ℚ a) *ℚ entries_of M w j
    r_times_e =
        ap (λ y. y *ℚ r) (sym (ring rational (e ∷ a ∷ inv_ℚ a ∷ []) (v 2 :* (v 1 :* v 0)) (v 1 :* v 2 :* v 0) refl ∙ ap (λ y. y *ℚ e) (*ℚ-inv_ℚ a d.first_entry) ∙ ring rational (e ∷ []) (num (pos 1) :* v 0) (v 0) refl))
        ∙ ap (λ y. inv_ℚ a *ℚ y *ℚ r) a_times_e
        ∙ ring rational (inv_ℚ a ∷ r ∷ (qj -ℚ pj) ∷ entries_of M w j ∷ []) (v 0 :* (v 2 :- v 3) :* v 1) (v 1 :* (v 0 :* v 2) :- v 1 :* v 0 :* v 3) refl
        ∙ ap (λ y. r *ℚ y -ℚ (r /ℚ a) *ℚ entries_of M w j)
        (sym (ring rational (b ∷ inv_ℚ b ∷ inv_ℚ a ∷ (qj -ℚ pj) ∷ []) (v 1 :* (v 0 :* v 2 :* v 3)) (v 0 :* v 1 :* (v 2 :* v 3)) refl ∙ ap (λ y. y *ℚ (inv_ℚ a *ℚ (qj -ℚ pj))) (*ℚ-inv_ℚ b d.second_entry) ∙ ring rational ((inv_ℚ a *ℚ (qj -ℚ pj)) ∷ []) (num (pos 1) :* v 0) (v 0) refl)
        ∙ ap (λ y. inv_ℚ b *ℚ y) crossing)
        ∙ ring rational (r ∷ inv_ℚ b ∷ (P -ℚ Q) ∷ ((r /ℚ a) *ℚ entries_of M w j) ∷ []) (v 0 :* (v 1 :* v 2) :- v 3) (v 2 :* (v 0 :* v 1) :- v 3) refl

    rows_total : total M.rows (side_worth M after) ≡ total M.rows (side_worth R w) +ℚ given
    rows_total =
        sides_put M w i s' t' after.p after.q d.row
        ∙ ap₂ (λ x y. total M.rows (side_worth M w) -ℚ x +ℚ y)
        (ap₂ (λ x y. worth (M.lower_side i) x -ℚ worth (M.upper_side i) y) none.0 none.1 ∙ ap₂ ◌-ℚ◌ (worth_none (M.lower_side i)) (worth_none (M.upper_side i)))
        (ap₂ (λ x y. worth x s' -ℚ worth y t') d.lower d.upper ∙ ring rational (s' ∷ t' ∷ r ∷ []) (v 0 :* v 2 :- v 1 :* v 2) ((v 0 :- v 1) :* v 2) refl ∙ ap (λ y. y *ℚ r) hv.net ∙ r_times_e)
        ∙ ring rational (total M.rows (side_worth M w) ∷ given ∷ ((r /ℚ a) *ℚ entries_of M w j) ∷ []) (v 0 :- (num (pos 0) :- num (pos 0)) :+ (v 1 :- v 2)) ((v 0 :- v 2) :+ v 1) refl
        ∙ ap (λ y. y +ℚ given) (sym sides_total)

    back : Moved M R w after
    back = record {
      weighting = record {
        rows = at_or_off (λ m. m < M.rows → IsWeight (M.lower_side m) (put w.s i s' m) × IsWeight (M.upper_side m) (put w.t i t' m)) i
            (λ l. rw (put-same w.s i s', put-same w.t i t', d.lower, d.upper) (hv.low, hv.high))
            (λ m n l. rw (put-other w.s i s' m n, put-other w.t i t' m n) (at_sides m l).0);
        columns = three (λ c. c < M.columns → IsWeight (M.lower_bound c) (after.p c) × IsWeight (M.upper_bound c) (after.q c))
            (λ l. rw (p_at_j, q_at_j) (pa.low, pa.high))
            (λ l. rw (p_at_k, q_at_k) (sl.kept, su.kept))
            (λ c n o l. rw (p_other c n o, q_other c n o, ← low_other c n o, ← high_other c n o) (h.columns c l));
        nets = three (λ c. c < M.columns → (entries_of M after c +ℚ after.p c) -ℚ after.q c ≡ zero_ℚ) (λ l. net_j) (λ l. net_k) net_other;
      };
      totals = total_by_parts M after ∙ ap₂ ◌+ℚ◌ rows_total columns_total
          ∙ ring rational (total M.rows (side_worth R w) ∷ given ∷ total M.columns (bound_worth R w) ∷ []) ((v 0 :+ v 1) :+ (v 2 :- v 1)) (v 0 :+ v 2) refl
          ∙ sym (total_by_parts R w);
    }

  pub doubleton_equation_back : StepsBack M R (ray_doubleton_equation i j k a b M.rows (put (λ m. M.coefficient m j) i zero_ℚ) low high)
  doubleton_equation_back = steps_of M R _ (λ w h. back w h)
