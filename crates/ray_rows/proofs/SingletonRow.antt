-- K2: what came from a row with one entry goes back to it.
use Rattle.std.proofs.Common.{◌≡◌, ℕ, ◌<◌, pos, sym, refl, ap, ap₂, ◌∙◌, [], ◌∷◌, subst, Option}
use Rattle.fractions.specs.Ring.{ring, v, num, ◌:+◌, ◌:-◌, ◌:*◌}
use Rattle.fractions.specs.Number.{Number, rational, zero_ℚ, ◌+ℚ◌, ◌-ℚ◌, ◌*ℚ◌}
use Rattle.fractions.specs.Total.{total, put}
use Rattle.fractions.proofs.Totals.{put-same, put-other, at_or_off, total-zero, total-put}
use Rattle.lp_model.specs.LinearProgram.{LinearProgram}
use Rattle.lp_model.specs.Edits.{with_bounds}
use Rattle.lp_rows.specs.SingletonRow.{IsSingletonRow, met_lower, met_upper, singleton_row_met}
use Rattle.lp_theory.specs.MetEnds.{lower_over, upper_over}
use Rattle.lp_rays.specs.Ray.{Weights, IsWeight, worth, IsWeighting, StepsBack}
use Rattle.lp_rays.specs.Handing.{moved, kept_of, handed_of, lower_share, upper_share}
use Rattle.lp_rays.specs.Steps.{ray_singleton_row}
use Rattle.lp_rays.proofs.Weighing.{worth_none}
use Rattle.lp_rays.proofs.Handing.{Split, split, meet_low_either, meet_high_either, shared}
use Rattle.lp_rays.proofs.Moving.{Moved, steps_of, row_back, row_none, ColumnMoved, column_same, row_takes}

-- one number alone
pub total_one : (n j : ℕ) (g : Number) → j < n → total n (put (λ k. zero_ℚ) j g) ≡ g
total_one n j g l = total-put n (λ k. zero_ℚ) j g l ∙ ap (λ c. c -ℚ zero_ℚ +ℚ g) (total-zero n (λ k. zero_ℚ) (λ k r. refl)) ∙ ring rational (g ∷ []) (num (pos 0) :- num (pos 0) :+ v 0) (v 0) refl

module _ (M : LinearProgram) (i j : ℕ) (d : IsSingletonRow M i j) where
  abbrev a : Number
  a = M.coefficient i j

  -- the program with the row
  abbrev P : LinearProgram
  P = with_bounds M j (met_lower M i j) (met_upper M i j)

  abbrev low : Option Number
  low = lower_over a (M.lower_side i) (M.upper_side i)

  abbrev high : Option Number
  high = upper_over a (M.lower_side i) (M.upper_side i)

  abbrev x : Weights → Number
  x w = handed_of (moved (M.lower_bound j) (met_lower M i j)) (w.p j)

  abbrev y : Weights → Number
  y w = handed_of (moved (M.upper_bound j) (met_upper M i j)) (w.q j)

  back : (w : Weights) → IsWeighting (singleton_row_met M i j) w → Moved M (singleton_row_met M i j) w (ray_singleton_row i j a (moved (M.lower_bound j) (met_lower M i j)) (moved (M.upper_bound j) (met_upper M i j)) w)
  back w h =
      let first = row_back P i w d.row h in
      let none = row_none P i w d.row h in
      let at = first.weighting.columns j d.column in
      let lo : Split (M.lower_bound j) low (met_lower M i j) (w.p j) (moved (M.lower_bound j) (met_lower M i j)) =
      split (M.lower_bound j) low (met_lower M i j) (w.p j) (meet_low_either (M.lower_bound j) low) (subst (λ o. IsWeight o (w.p j)) (put-same M.lower_bound j (met_lower M i j)) at.0) in
      let hi : Split (M.upper_bound j) high (met_upper M i j) (w.q j) (moved (M.upper_bound j) (met_upper M i j)) =
      split (M.upper_bound j) high (met_upper M i j) (w.q j) (meet_high_either (M.upper_bound j) high) (subst (λ o. IsWeight o (w.q j)) (put-same M.upper_bound j (met_upper M i j)) at.1) in
      let sh = shared a (M.lower_side i) (M.upper_side i) (x w) (y w) d.entry lo.handed hi.handed in
      let s : Number = lower_share a (x w) (y w) in
      let t : Number = upper_share a (x w) (y w) in
      let taken : (s -ℚ t) -ℚ (w.s i -ℚ w.t i) ≡ s -ℚ t = ap₂ (λ m n. (s -ℚ t) -ℚ (m -ℚ n)) none.0 none.1 ∙ ring rational (s ∷ t ∷ []) ((v 0 :- v 1) :- (num (pos 0) :- num (pos 0))) (v 0 :- v 1) refl in
      let given : Number = worth low (x w) -ℚ worth high (y w) in
      let second = row_takes M P.lower_bound P.upper_bound i w s t (put w.p j (kept_of (moved (M.lower_bound j) (met_lower M i j)) (w.p j))) (put w.q j (kept_of (moved (M.upper_bound j) (met_upper M i j)) (w.q j)))
      (put (λ k. zero_ℚ) j given) d.row first.weighting sh.low sh.high
      (at_or_off (λ k. k < M.columns → ColumnMoved (M.lower_bound k) (M.upper_bound k)
      (put w.p j (kept_of (moved (M.lower_bound j) (met_lower M i j)) (w.p j)) k) (put w.q j (kept_of (moved (M.upper_bound j) (met_upper M i j)) (w.q j)) k)
      (w.p k -ℚ w.q k) (worth (P.lower_bound k) (w.p k) -ℚ worth (P.upper_bound k) (w.q k)) (((s -ℚ t) -ℚ (w.s i -ℚ w.t i)) *ℚ M.coefficient i k) (put (λ k. zero_ℚ) j given k)) j
      (λ r. rw (
        put-same w.p j (kept_of (moved (M.lower_bound j) (met_lower M i j)) (w.p j)),
        put-same w.q j (kept_of (moved (M.upper_bound j) (met_upper M i j)) (w.q j)),
        put-same M.lower_bound j (met_lower M i j),
        put-same M.upper_bound j (met_upper M i j),
        put-same (λ k. zero_ℚ) j given,
      ) (record {
        low = lo.kept;
        high = hi.kept;
        net = ap₂ ◌-ℚ◌ lo.sum hi.sum ∙ ring rational (w.p j ∷ w.q j ∷ x w ∷ y w ∷ []) ((v 0 :- v 2) :- (v 1 :- v 3)) ((v 0 :- v 1) :- (v 2 :- v 3)) refl
            ∙ ap (λ c. (w.p j -ℚ w.q j) -ℚ c) (sym (ap (λ c. c *ℚ a) taken ∙ sh.net));
        worths = ap₂ ◌-ℚ◌ lo.worths hi.worths ∙ ring rational (worth (met_lower M i j) (w.p j) ∷ worth (met_upper M i j) (w.q j) ∷ worth low (x w) ∷ worth high (y w) ∷ []) ((v 0 :- v 2) :- (v 1 :- v 3)) ((v 0 :- v 1) :- (v 2 :- v 3)) refl;
      }))
      (λ k n r. rw (
        put-other w.p j (kept_of (moved (M.lower_bound j) (met_lower M i j)) (w.p j)) k n,
        put-other w.q j (kept_of (moved (M.upper_bound j) (met_upper M i j)) (w.q j)) k n,
        put-other M.lower_bound j (met_lower M i j) k n,
        put-other M.upper_bound j (met_upper M i j) k n,
        put-other (λ k. zero_ℚ) j given k n,
      )
      (column_same (M.lower_bound k) (M.upper_bound k) (w.p k) (w.q k) _ zero_ℚ
      (rw (← put-other M.lower_bound j (met_lower M i j) k n, ← put-other M.upper_bound j (met_upper M i j) k n) (first.weighting.columns k r))
      (ap (λ c. ((s -ℚ t) -ℚ (w.s i -ℚ w.t i)) *ℚ c) (d.only k r n) ∙ ring rational (((s -ℚ t) -ℚ (w.s i -ℚ w.t i)) ∷ []) (v 0 :* num (pos 0)) (num (pos 0)) refl) refl)))
      (total_one M.columns j given d.column ∙ sym sh.worths
      ∙ ring rational ((worth (M.lower_side i) s -ℚ worth (M.upper_side i) t) ∷ []) (v 0) (v 0 :- (num (pos 0) :- num (pos 0))) refl
      ∙ ap₂ (λ m n. (worth (M.lower_side i) s -ℚ worth (M.upper_side i) t) -ℚ (m -ℚ n)) (sym (ap (worth (M.lower_side i)) none.0 ∙ worth_none (M.lower_side i))) (sym (ap (worth (M.upper_side i)) none.1 ∙ worth_none (M.upper_side i)))) in
      record { weighting = second.weighting; totals = second.totals ∙ first.totals }

  pub singleton_row_back : StepsBack M (singleton_row_met M i j) (ray_singleton_row i j a (moved (M.lower_bound j) (met_lower M i j)) (moved (M.upper_bound j) (met_upper M i j)))
  singleton_row_back = steps_of M (singleton_row_met M i j) _ back
