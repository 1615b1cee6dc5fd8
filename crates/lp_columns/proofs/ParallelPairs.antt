-- Parallel columns: pairs.
use Rattle.std.proofs.Common.{◌≡◌, ◌≢◌, ℕ, ◌<◌, sym, refl, ap, ap₂, ◌∙◌, [], ◌∷◌, inl, inr, subst, Option, Some, None, false}
use Rattle.fractions.specs.Ring.{ring, v, ◌:+◌, ◌:-◌, ◌:*◌}
use Rattle.fractions.specs.Number.{Number, rational, zero_ℚ, ◌+ℚ◌, ◌-ℚ◌, ◌*ℚ◌}
use Rattle.fractions.specs.Order.{◌≤ℚ◌, ◌<ℚ◌, ≤ℚ_antisym, ≤ℚ_cases, <ℚ-≤ℚ, <ℚ-not}
use Rattle.fractions.specs.Linear.{linear, fact}
use Rattle.fractions.specs.Total.{total, put}
use Rattle.fractions.specs.Ends.{AtLeast, AtMost, Between, plus}
use Rattle.fractions.proofs.Totals.{put-same, put-other, at_or_off, total_same, total-*}
use Rattle.fractions.specs.Signs.{≤ℚ-same}
use Rattle.lp_model.specs.declared.program.Sense.TheVariants.{Min}
use Rattle.lp_model.specs.Vectors.{Vector}
use Rattle.lp_model.specs.LinearProgram.{LinearProgram}
use Rattle.lp_model.specs.Senses.{Sits}
use Rattle.lp_model.specs.Optimality.{Continuous, reduced_cost}
use Rattle.lp_model.specs.Reductions.{ReducesPairs, Priced}
use Rattle.lp_theory.specs.Activities.{least_term, greatest_term}
use Rattle.lp_theory.proofs.ActivityLaws.{least_term-low, greatest_term-high}
use Rattle.lp_theory.proofs.Carrying.{Carries, pairs_of}
use Rattle.lp_theory.proofs.Pairs.{plus_some, term_tight, below_if_not}
use Rattle.lp_columns.specs.ParallelColumns.{AreParallelColumns, part_of, parallel_columns_joined, undo_parallel_columns, undo_parallel_columns_pair}
use Rattle.lp_columns.proofs.ParallelColumns.{kj, split_first, split_second, split_other, sum_split, lower_at, upper_at, lower_other, upper_other, each, parts, lifted}
use Rattle.lp_columns.proofs.Shifts.{up_by_up, down_by_up, up_by_down, down_by_down}

-- ---- a sum of two ends that is met is met in both
sum_low : (X s y : Number) (o l u : Option Number) → plus o (least_term s l u) ≡ Some X → AtLeast o (X -ℚ s *ℚ y) → Between l u y → (o ≡ Some (X -ℚ s *ℚ y)) × (zero_ℚ <ℚ s → l ≡ Some y) × (s <ℚ zero_ℚ → u ≡ Some y)
sum_low X s y o l u e h b =
    let p = plus_some o (least_term s l u) X e in
    let one : p.0 ≤ℚ (X -ℚ s *ℚ y) = subst (λ c. AtLeast c (X -ℚ s *ℚ y)) p.2 h in
    let two : p.1 ≤ℚ (s *ℚ y) = subst (λ c. AtLeast c (s *ℚ y)) p.3 (least_term-low s l u y b) in
    let sum : X ≤ℚ (p.0 +ℚ p.1) = ≤ℚ-same (sym p.4) in
    let first : p.0 ≡ X -ℚ s *ℚ y = ≤ℚ_antisym one (linear (X ∷ (s *ℚ y) ∷ p.0 ∷ p.1 ∷ []) (fact 1 (v 0) (v 2 :+ v 3) ∷ fact 1 (v 3) (v 1) ∷ []) 0 (v 0 :- v 1) (v 2) (sum, (two, tt)) refl) in
    let second : p.1 ≡ s *ℚ y = ≤ℚ_antisym two (linear (X ∷ (s *ℚ y) ∷ p.0 ∷ p.1 ∷ []) (fact 1 (v 0) (v 2 :+ v 3) ∷ fact 1 (v 2) (v 0 :- v 1) ∷ []) 0 (v 1) (v 3) (sum, (one, tt)) refl) in
    let t = term_tight s y l u (p.3 ∙ ap Some second) in
    (p.2 ∙ ap Some first, t.0, t.1)

sum_high : (X s y : Number) (o l u : Option Number) → plus o (greatest_term s l u) ≡ Some X → AtMost o (X -ℚ s *ℚ y) → Between l u y → (o ≡ Some (X -ℚ s *ℚ y)) × (zero_ℚ <ℚ s → u ≡ Some y) × (s <ℚ zero_ℚ → l ≡ Some y)
sum_high X s y o l u e h b =
    let p = plus_some o (greatest_term s l u) X e in
    let one : (X -ℚ s *ℚ y) ≤ℚ p.0 = subst (λ c. AtMost c (X -ℚ s *ℚ y)) p.2 h in
    let two : (s *ℚ y) ≤ℚ p.1 = subst (λ c. AtMost c (s *ℚ y)) p.3 (greatest_term-high s l u y b) in
    let sum : (p.0 +ℚ p.1) ≤ℚ X = ≤ℚ-same p.4 in
    let first : p.0 ≡ X -ℚ s *ℚ y = ≤ℚ_antisym (linear (X ∷ (s *ℚ y) ∷ p.0 ∷ p.1 ∷ []) (fact 1 (v 2 :+ v 3) (v 0) ∷ fact 1 (v 1) (v 3) ∷ []) 0 (v 2) (v 0 :- v 1) (sum, (two, tt)) refl) one in
    let second : p.1 ≡ s *ℚ y = ≤ℚ_antisym (linear (X ∷ (s *ℚ y) ∷ p.0 ∷ p.1 ∷ []) (fact 1 (v 2 :+ v 3) (v 0) ∷ fact 1 (v 0 :- v 1) (v 2) ∷ []) 0 (v 3) (v 1) (sum, (one, tt)) refl) two in
    let t = term_tight s y u l (p.3 ∙ ap Some second) in
    (p.2 ∙ ap Some first, t.0, t.1)

-- s z sits where z does, by the sign of s
taken : (s z y : Number) (l u : Option Number) → (zero_ℚ <ℚ z → (zero_ℚ <ℚ s → l ≡ Some y) × (s <ℚ zero_ℚ → u ≡ Some y)) → (z <ℚ zero_ℚ → (zero_ℚ <ℚ s → u ≡ Some y) × (s <ℚ zero_ℚ → l ≡ Some y)) → Sits Min l u y (s *ℚ z)
taken s z y l u f g = (
  λ q. elim (≤ℚ_cases z zero_ℚ) [
    | inr p ↦ (f p).0 (up_by_up s z (<ℚ-≤ℚ p) q)
    | inl p ↦ let k = down_by_down s z p q in (g (below_if_not (λ t. <ℚ-not (up_by_up s z t q) (<ℚ-≤ℚ k)))).1 k
  ],
  λ q. elim (≤ℚ_cases z zero_ℚ) [
    | inr p ↦ (f p).1 (down_by_up s z (<ℚ-≤ℚ p) q)
    | inl p ↦ let k = up_by_down s z p q in (g (below_if_not (λ t. <ℚ-not k (<ℚ-≤ℚ (down_by_up s z t q))))).0 k
  ],
)

module _ (M : LinearProgram) (j k : ℕ) (s : Number) (d : AreParallelColumns M j k s) where
  abbrev R : LinearProgram
  R = parallel_columns_joined M j k s

  abbrev b : Vector → Number
  b x = part_of s (M.lower_bound j) (M.upper_bound j) (M.lower_bound k) (M.upper_bound k) (x k)

  abbrev split : Vector → Vector
  split x = undo_parallel_columns j k s (M.lower_bound j) (M.upper_bound j) (M.lower_bound k) (M.upper_bound k) x

  left_other : (y : Vector) (p : ℕ) → p ≢ j → reduced_cost R y p ≡ reduced_cost M y p
  left_other y p n = ap₂ (λ c t. c -ℚ t) (put-other M.costs j zero_ℚ p n) (total_same M.rows _ _ (λ m l. ap (λ a. y m *ℚ a) (put-other (M.coefficient m) j zero_ℚ p n)))

  left_first : (y : Vector) → s *ℚ reduced_cost M y k ≡ reduced_cost M y j
  left_first y = ring rational (s ∷ M.costs k ∷ total M.rows (λ m. y m *ℚ M.coefficient m k) ∷ []) (v 0 :* (v 1 :- v 2)) (v 0 :* v 1 :- v 0 :* v 2) refl
      ∙ ap₂ (λ c t. c -ℚ t) (sym d.costs) (sym (total-* M.rows s (λ m. y m *ℚ M.coefficient m k)) ∙ total_same M.rows _ _ (λ m l. ring rational (s ∷ y m ∷ M.coefficient m k ∷ []) (v 0 :* (v 1 :* v 2)) (v 1 :* (v 0 :* v 2)) refl ∙ ap (λ a. y m *ℚ a) (sym (d.entries m l))))

  -- no whole column is left, so neither was the deleted one whole
  no_whole : Continuous R → Continuous M
  no_whole c = at_or_off (λ p. p < M.columns → (M.whole p ≡ false) × (M.gap p ≡ None)) j
      (λ l. (elim d.kinds [ inl a ↦ a.first | inr a ↦ absurd (let e = sym (put-other M.whole j false k (kj M j k s d)) ∙ (c k d.second).0 in let f = a.second in cc) ], d.first_solid))
      (λ p n l. (sym (put-other M.whole j false p n) ∙ (c p l).0, sym (put-other M.gap j None p n) ∙ (c p l).1))

  -- what each reduced cost asks of a bound of the program before
  sits : (r : Priced) → Carries R r → (q : ℕ) → q < M.columns → Sits Min (M.lower_bound q) (M.upper_bound q) (split r.x q) (put r.z j (s *ℚ r.z k) q)
  sits r h =
      let x : Vector = r.x in
      let f = parts M j k s d x h.feasible in
      let low : zero_ℚ <ℚ r.z k → (M.lower_bound k ≡ Some (x k -ℚ s *ℚ b x)) × (zero_ℚ <ℚ s → M.lower_bound j ≡ Some (b x)) × (s <ℚ zero_ℚ → M.upper_bound j ≡ Some (b x))
      = λ q. sum_low (x k) s (b x) (M.lower_bound k) (M.lower_bound j) (M.upper_bound j) (sym (lower_at M j k s d) ∙ h.at_low k d.second q) f.1.low f.0 in
      let high : r.z k <ℚ zero_ℚ → (M.upper_bound k ≡ Some (x k -ℚ s *ℚ b x)) × (zero_ℚ <ℚ s → M.upper_bound j ≡ Some (b x)) × (s <ℚ zero_ℚ → M.lower_bound j ≡ Some (b x))
      = λ q. sum_high (x k) s (b x) (M.upper_bound k) (M.lower_bound j) (M.upper_bound j) (sym (upper_at M j k s d) ∙ h.at_high k d.second q) f.1.high f.0 in
      each M j k s d (λ q. q < M.columns → Sits Min (M.lower_bound q) (M.upper_bound q) (split x q) (put r.z j (s *ℚ r.z k) q))
      (λ l. rw (put-same r.z, split_first M j k s d x) (taken s (r.z k) (b x) (M.lower_bound j) (M.upper_bound j) (λ q. ((low q).1, (low q).2)) (λ q. ((high q).1, (high q).2))))
      (λ l. rw (put-other r.z j (s *ℚ r.z k) k (kj M j k s d), split_second M j k s d x) (λ q. (low q).0, λ q. (high q).0))
      (λ q nj nk l. rw (put-other r.z j (s *ℚ r.z k) q nj, split_other M j k s d x q nj nk)
      (λ t. sym (lower_other M j k s d q nj nk) ∙ h.at_low q l t, λ t. sym (upper_other M j k s d q nj nk) ∙ h.at_high q l t))

  undone : (r : Priced) → Carries R r → Carries M (undo_parallel_columns_pair j k s (M.lower_bound j) (M.upper_bound j) (M.lower_bound k) (M.upper_bound k) r)
  undone r h = record {
    continuous = no_whole h.continuous;
    feasible = lifted M j k s d r.x h.feasible;
    left = at_or_off (λ q. q < M.columns → put r.z j (s *ℚ r.z k) q ≡ reduced_cost M r.y q) j
        (λ l. put-same r.z j (s *ℚ r.z k) ∙ ap (λ c. s *ℚ c) (h.left k d.second ∙ left_other r.y k (kj M j k s d)) ∙ left_first r.y)
        (λ q n l. put-other r.z j (s *ℚ r.z k) q n ∙ h.left q l ∙ left_other r.y q n);
    pays_low = λ m l q. h.pays_low m l q ∙ ap Some (sym (sum_split M j k s d (M.coefficient m) r.x (d.entries m l)));
    pays_high = λ m l q. h.pays_high m l q ∙ ap Some (sym (sum_split M j k s d (M.coefficient m) r.x (d.entries m l)));
    at_low = λ q l. (sits r h q l).0;
    at_high = λ q l. (sits r h q l).1;
  }

  pub parallel_columns_pairs : ReducesPairs Min M (parallel_columns_joined M j k s) (undo_parallel_columns_pair j k s (M.lower_bound j) (M.upper_bound j) (M.lower_bound k) (M.upper_bound k))
  parallel_columns_pairs = pairs_of M R _ (record { carries = undone })
