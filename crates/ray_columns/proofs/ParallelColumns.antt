-- K16: a column that joined another one has its share of that one's weights.
use Rattle.std.proofs.Common.{◌≡◌, ◌≢◌, ℕ, ◌<◌, pos, sym, refl, ap, ap₂, ◌∙◌, [], ◌∷◌, subst, Option, None}
use Rattle.fractions.specs.Ring.{ring, v, num, ◌:+◌, ◌:-◌, ◌:*◌}
use Rattle.fractions.specs.Number.{Number, rational, zero_ℚ, ◌+ℚ◌, ◌-ℚ◌, ◌*ℚ◌}
use Rattle.fractions.specs.Total.{total, put}
use Rattle.fractions.proofs.Totals.{put-same, put-other, at_or_off, total_same, total_off, total-put, total-*}
use Rattle.lp_model.specs.LinearProgram.{LinearProgram}
use Rattle.lp_theory.specs.Activities.{least_term, greatest_term}
use Rattle.lp_columns.specs.ParallelColumns.{AreParallelColumns, joined_lower, joined_upper, parallel_columns_joined}
use Rattle.lp_rays.specs.Ray.{Weights, IsWeight, worth, IsWeighting, StepsBack}
use Rattle.lp_rays.specs.Handing.{lower_part, upper_part}
use Rattle.lp_rays.specs.Steps.{ray_parallel_columns}
use Rattle.lp_rays.proofs.Weighing.{side_worth, bound_worth, total_by_parts}
use Rattle.lp_rays.proofs.Handing.{Parted, parted, plus_weight, plus_worth}
use Rattle.lp_rays.proofs.Moving.{Moved, steps_of}
use Rattle.ray_columns.proofs.DroppedColumn.{entries_of}

-- two functions that differ only at j and k
pub total_two : (n : ℕ) (f g : ℕ → Number) (j k : ℕ) → j < n → k < n → j ≢ k → ((m : ℕ) → m ≢ j → m ≢ k → g m ≡ f m) → total n g ≡ ((total n f -ℚ f j) -ℚ f k +ℚ g j) +ℚ g k
total_two n f g j k lj lk ne h =
    total_off n (put f j (g j)) g k lk (at_or_off (λ m. m ≢ k → g m ≡ put f j (g j) m) j (λ q. sym (put-same f j (g j))) (λ m o q. h m o q ∙ sym (put-other f j (g j) m o)))
    ∙ ap₂ (λ x y. x -ℚ y +ℚ g k) (total-put n f j (g j) lj) (put-other f j (g j) k (λ e. ne (sym e)))
    ∙ ring rational (total n f ∷ f j ∷ f k ∷ g j ∷ g k ∷ []) ((v 0 :- v 1 :+ v 3) :- v 2 :+ v 4) (((v 0 :- v 1) :- v 2 :+ v 3) :+ v 4) refl

module _ (M : LinearProgram) (j k : ℕ) (f : Number) (d : AreParallelColumns M j k f) where
  abbrev R : LinearProgram
  R = parallel_columns_joined M j k f

  abbrev lo : Option Number
  lo = joined_lower M j k f

  abbrev hi : Option Number
  hi = joined_upper M j k f

  abbrev L : Option Number
  L = least_term f (M.lower_bound j) (M.upper_bound j)

  abbrev G : Option Number
  G = greatest_term f (M.lower_bound j) (M.upper_bound j)

  k_off_j : k ≢ j
  k_off_j e = d.differ (sym e)

  low_k : R.lower_bound k ≡ lo
  low_k = put-same (put M.lower_bound j None) k lo

  high_k : R.upper_bound k ≡ hi
  high_k = put-same (put M.upper_bound j None) k hi

  low_j : R.lower_bound j ≡ None
  low_j = put-other (put M.lower_bound j None) k lo j d.differ ∙ put-same M.lower_bound j None

  high_j : R.upper_bound j ≡ None
  high_j = put-other (put M.upper_bound j None) k hi j d.differ ∙ put-same M.upper_bound j None

  low_other : (m : ℕ) → m ≢ j → m ≢ k → R.lower_bound m ≡ M.lower_bound m
  low_other m n o = put-other (put M.lower_bound j None) k lo m o ∙ put-other M.lower_bound j None m n

  high_other : (m : ℕ) → m ≢ j → m ≢ k → R.upper_bound m ≡ M.upper_bound m
  high_other m n o = put-other (put M.upper_bound j None) k hi m o ∙ put-other M.upper_bound j None m n

  same_entries : (w : Weights) (c : ℕ) → c ≢ j → entries_of M w c ≡ entries_of R w c
  same_entries w c n = total_same M.rows _ _ (λ m r. ap (λ y. (w.s m -ℚ w.t m) *ℚ y) (sym (put-other (M.coefficient m) j zero_ℚ c n)))

  times_entries : (w : Weights) → entries_of M w j ≡ f *ℚ entries_of M w k
  times_entries w = total_same M.rows _ _ (λ m l. ap (λ y. (w.s m -ℚ w.t m) *ℚ y) (d.entries m l) ∙ ring rational ((w.s m -ℚ w.t m) ∷ f ∷ M.coefficient m k ∷ []) (v 0 :* (v 1 :* v 2)) (v 1 :* (v 0 :* v 2)) refl) ∙ total-* M.rows f (λ m. (w.s m -ℚ w.t m) *ℚ M.coefficient m k)

  back : (w : Weights) → IsWeighting R w → Moved M R w (ray_parallel_columns j k f w)
  back w h =
      let at = h.columns k d.second in
      let wp : IsWeight lo (w.p k) = subst (λ o. IsWeight o (w.p k)) low_k at.0 in
      let wq : IsWeight hi (w.q k) = subst (λ o. IsWeight o (w.q k)) high_k at.1 in
      let mp = plus_weight (M.lower_bound k) L (w.p k) wp in
      let mq = plus_weight (M.upper_bound k) G (w.q k) wq in
      let P : Number = lower_part f (w.p k) (w.q k) in
      let Q : Number = upper_part f (w.p k) (w.q k) in
      let r : Parted (M.lower_bound j) (M.upper_bound j) (f *ℚ (w.p k -ℚ w.q k)) P Q (worth L (w.p k) -ℚ worth G (w.q k)) = parted f (M.lower_bound j) (M.upper_bound j) (w.p k) (w.q k) d.factor mp.1 mq.1 in
      let v' : Weights = ray_parallel_columns j k f w in
      let net_k : (entries_of M w k +ℚ w.p k) -ℚ w.q k ≡ zero_ℚ = ap (λ y. (y +ℚ w.p k) -ℚ w.q k) (same_entries w k k_off_j) ∙ h.nets k d.second in
      let B : Number = total M.columns (bound_worth R w) in
      record {
        weighting = record {
          rows = h.rows;
          columns = at_or_off (λ c. c < M.columns → IsWeight (M.lower_bound c) (put w.p j P c) × IsWeight (M.upper_bound c) (put w.q j Q c)) j
              (λ l. rw (put-same w.p j P, put-same w.q j Q) (r.low, r.high))
              (λ c n l. rw (put-other w.p j P c n, put-other w.q j Q c n)
              (at_or_off (λ c. c ≢ j → c < M.columns → IsWeight (M.lower_bound c) (w.p c) × IsWeight (M.upper_bound c) (w.q c)) k
              (λ n l. (mp.0, mq.0))
              (λ c o n l. (subst (λ e. IsWeight e (w.p c)) (low_other c n o) (h.columns c l).0, subst (λ e. IsWeight e (w.q c)) (high_other c n o) (h.columns c l).1)) c n l));
          nets = at_or_off (λ c. c < M.columns → (entries_of M w c +ℚ put w.p j P c) -ℚ put w.q j Q c ≡ zero_ℚ) j
              (λ l. rw (put-same w.p j P, put-same w.q j Q)
              (ring rational (entries_of M w j ∷ P ∷ Q ∷ []) ((v 0 :+ v 1) :- v 2) (v 0 :+ (v 1 :- v 2)) refl
              ∙ ap₂ ◌+ℚ◌ (times_entries w) r.net
              ∙ ring rational (f ∷ entries_of M w k ∷ w.p k ∷ w.q k ∷ []) (v 0 :* v 1 :+ v 0 :* (v 2 :- v 3)) (v 0 :* ((v 1 :+ v 2) :- v 3)) refl
              ∙ ap (λ y. f *ℚ y) net_k ∙ ring rational (f ∷ []) (v 0 :* num (pos 0)) (num (pos 0)) refl))
              (λ c n l. rw (put-other w.p j P c n, put-other w.q j Q c n) (ap (λ y. (y +ℚ w.p c) -ℚ w.q c) (same_entries w c n) ∙ h.nets c l));
        };
        totals =
            total_by_parts M v'
            ∙ ap (λ y. total M.rows (side_worth M w) +ℚ y)
            (total_two M.columns (bound_worth R w) (bound_worth M v') j k d.first d.second d.differ
            (λ m n o. ap₂ (λ x y. worth (M.lower_bound m) x -ℚ worth (M.upper_bound m) y) (put-other w.p j P m n) (put-other w.q j Q m n)
            ∙ ap₂ (λ x y. worth x (w.p m) -ℚ worth y (w.q m)) (sym (low_other m n o)) (sym (high_other m n o)))
            ∙ ap₂ (λ x y. ((B -ℚ x) -ℚ y +ℚ bound_worth M v' j) +ℚ bound_worth M v' k) (ap₂ (λ x y. worth x (w.p j) -ℚ worth y (w.q j)) low_j high_j) (ap₂ (λ x y. worth x (w.p k) -ℚ worth y (w.q k)) low_k high_k
            ∙ ap₂ ◌-ℚ◌ (plus_worth (M.lower_bound k) L (w.p k) wp) (plus_worth (M.upper_bound k) G (w.q k) wq))
            ∙ ap₂ (λ x y. ((B -ℚ (zero_ℚ -ℚ zero_ℚ)) -ℚ ((worth (M.lower_bound k) (w.p k) +ℚ worth L (w.p k)) -ℚ (worth (M.upper_bound k) (w.q k) +ℚ worth G (w.q k))) +ℚ x) +ℚ y)
            (ap₂ (λ x y. worth (M.lower_bound j) x -ℚ worth (M.upper_bound j) y) (put-same w.p j P) (put-same w.q j Q) ∙ r.worths)
            (ap₂ (λ x y. worth (M.lower_bound k) x -ℚ worth (M.upper_bound k) y) (put-other w.p j P k k_off_j) (put-other w.q j Q k k_off_j))
            ∙ ring rational (B ∷ worth (M.lower_bound k) (w.p k) ∷ worth L (w.p k) ∷ worth (M.upper_bound k) (w.q k) ∷ worth G (w.q k) ∷ [])
            (((v 0 :- (num (pos 0) :- num (pos 0))) :- ((v 1 :+ v 2) :- (v 3 :+ v 4)) :+ (v 2 :- v 4)) :+ (v 1 :- v 3)) (v 0) refl)
            ∙ sym (total_by_parts R w);
      }

  pub parallel_columns_back : StepsBack M R (ray_parallel_columns j k f)
  parallel_columns_back = steps_of M R _ back
