-- K3, K13, K14: a column that was deleted, with other sides for its rows.
use Rattle.std.proofs.Common.{◌≡◌, ℕ, ◌<◌, pos, sym, refl, ap, ap₂, ◌∙◌, [], ◌∷◌, subst, Option, Some, None, Bool, true, false}
use Rattle.std.specs.Prelude.{if◌then◌else◌}
use Rattle.fractions.specs.Ring.{ring, v, num, ◌:+◌, ◌:-◌, ◌:*◌, inv}
use Rattle.fractions.specs.Number.{Number, rational, zero_ℚ, ◌+ℚ◌, ◌-ℚ◌, ◌*ℚ◌, neg_ℚ}
use Rattle.fractions.specs.Order.{◌≤ℚ◌, <ℚ-≤ℚ, ≤ℚ_refl}
use Rattle.fractions.specs.Compare.{lt_ℚ}
use Rattle.fractions.specs.Total.{total, put}
use Rattle.fractions.specs.Ends.{less}
use Rattle.fractions.proofs.Totals.{put-same, put-other, at_or_off, total_same, total_off, total-*}
use Rattle.lp_model.specs.Vectors.{Vector}
use Rattle.lp_model.specs.LinearProgram.{LinearProgram}
use Rattle.lp_theory.specs.Activities.{least_term, greatest_term}
use Rattle.lp_theory.specs.Elsewhere.{IsColumnSingleton, column_put_into_row}
use Rattle.lp_theory.proofs.ActivityLaws.{lt_true, lt_false}
use Rattle.lp_theory.proofs.Elsewhere.{one_term, put_back}
use Rattle.lp_columns.specs.FixedColumn.{IsFixedColumn, fixed_column_deleted}
use Rattle.lp_substitutions.specs.SlackColumnSingleton.{moved_lower, moved_upper, slack_column_singleton_deleted, slack_row_deleted}
use Rattle.lp_substitutions.specs.FreeColumnSingleton.{free_column_singleton_deleted}
use Rattle.lp_rays.specs.Ray.{Weights, IsWeight, worth, IsWeighting, StepsBack}
use Rattle.lp_rays.specs.Handing.{lower_part, upper_part}
use Rattle.lp_rays.specs.Steps.{ray_fixed_column, ray_slack_column_singleton}
use Rattle.lp_rays.proofs.Weighing.{side_worth, bound_worth, total_by_parts, total-less, no_weight, worth_none}
use Rattle.lp_rays.proofs.Handing.{negative_pos', Parted, parted, minus_weight, minus_worth}
use Rattle.lp_rays.proofs.Moving.{Moved, steps_of, row_back, row_none}

-- the sum of a column's entries, each with its row's net weight
abbrev pub entries_of : LinearProgram → Weights → ℕ → Number
entries_of M w j = total M.rows (λ i. (w.s i -ℚ w.t i) *ℚ M.coefficient i j)

-- the program without the column, with other sides and costs
abbrev pub dropped : LinearProgram → ℕ → (ℕ → Option Number) → (ℕ → Option Number) → Vector → LinearProgram
dropped M j lo hi c = record M {
  coefficient = λ i. put (M.coefficient i) j zero_ℚ;
  lower_side = lo;
  upper_side = hi;
  lower_bound = put M.lower_bound j None;
  upper_bound = put M.upper_bound j None;
  whole = put M.whole j false;
  gap = put M.gap j None;
  costs = c;
}

-- what has to be known of the weights p and q that column j gets
pub record ColumnBack (M : LinearProgram) (j : ℕ) (lo hi : ℕ → Option Number) (w : Weights) (p q : Number) : Type 0 where
  pub rows : (i : ℕ) → i < M.rows → IsWeight (M.lower_side i) (w.s i) × IsWeight (M.upper_side i) (w.t i)
  pub low : IsWeight (M.lower_bound j) p
  pub high : IsWeight (M.upper_bound j) q
  pub net : entries_of M w j +ℚ (p -ℚ q) ≡ zero_ℚ
  pub worths : total M.rows (side_worth M w) +ℚ (worth (M.lower_bound j) p -ℚ worth (M.upper_bound j) q) ≡ total M.rows (λ i. worth (lo i) (w.s i) -ℚ worth (hi i) (w.t i))

pub column_back : (M : LinearProgram) (j : ℕ) (lo hi : ℕ → Option Number) (c : Vector) (w : Weights) (p q : Number) → j < M.columns → IsWeighting (dropped M j lo hi c) w → ColumnBack M j lo hi w p q
    → Moved M (dropped M j lo hi c) w (record w { p = put w.p j p; q = put w.q j q })
column_back M j lo hi c w p q lj h b = record {
  weighting = record {
    rows = b.rows;
    columns = at_or_off (λ k. k < M.columns → IsWeight (M.lower_bound k) (put w.p j p k) × IsWeight (M.upper_bound k) (put w.q j q k)) j
        (λ l. rw (put-same w.p j p, put-same w.q j q) (b.low, b.high))
        (λ k n l. rw (put-other w.p j p k n, put-other w.q j q k n, ← put-other M.lower_bound j None k n, ← put-other M.upper_bound j None k n) (h.columns k l));
    nets = at_or_off (λ k. k < M.columns → (entries_of M w k +ℚ put w.p j p k) -ℚ put w.q j q k ≡ zero_ℚ) j
        (λ l. rw (put-same w.p j p, put-same w.q j q) (ring rational (entries_of M w j ∷ p ∷ q ∷ []) ((v 0 :+ v 1) :- v 2) (v 0 :+ (v 1 :- v 2)) refl ∙ b.net))
        (λ k n l. rw (put-other w.p j p k n, put-other w.q j q k n)
        (ap (λ y. (y +ℚ w.p k) -ℚ w.q k) (total_same M.rows _ _ (λ m r. ap (λ y. (w.s m -ℚ w.t m) *ℚ y) (sym (put-other (M.coefficient m) j zero_ℚ k n)))) ∙ h.nets k l));
  };
  totals =
      total_by_parts M (record w { p = put w.p j p; q = put w.q j q })
      ∙ ap (λ y. total M.rows (side_worth M w) +ℚ y) columns
      ∙ ring rational (total M.rows (side_worth M w) ∷ B ∷ (worth (M.lower_bound j) p -ℚ worth (M.upper_bound j) q) ∷ []) (v 0 :+ (v 1 :- (num (pos 0) :- num (pos 0)) :+ v 2)) ((v 0 :+ v 2) :+ v 1) refl
      ∙ ap (λ y. y +ℚ B) b.worths
      ∙ sym (total_by_parts (dropped M j lo hi c) w);
}
  where
    B : Number
    B = total M.columns (bound_worth (dropped M j lo hi c) w)

    columns : total M.columns (bound_worth M (record w { p = put w.p j p; q = put w.q j q })) ≡ B -ℚ (zero_ℚ -ℚ zero_ℚ) +ℚ (worth (M.lower_bound j) p -ℚ worth (M.upper_bound j) q)
    columns =
        total_off M.columns (bound_worth (dropped M j lo hi c) w) (bound_worth M (record w { p = put w.p j p; q = put w.q j q })) j lj
        (λ k n. ap₂ (λ x y. worth (M.lower_bound k) x -ℚ worth (M.upper_bound k) y) (put-other w.p j p k n) (put-other w.q j q k n)
        ∙ ap₂ (λ x y. worth x (w.p k) -ℚ worth y (w.q k)) (sym (put-other M.lower_bound j None k n)) (sym (put-other M.upper_bound j None k n)))
        ∙ ap₂ (λ x y. B -ℚ (worth x (w.p j) -ℚ worth y (w.q j)) +ℚ (worth (M.lower_bound j) (put w.p j p j) -ℚ worth (M.upper_bound j) (put w.q j q j))) (put-same M.lower_bound j None) (put-same M.upper_bound j None)
        ∙ ap₂ (λ x y. B -ℚ (zero_ℚ -ℚ zero_ℚ) +ℚ (worth (M.lower_bound j) x -ℚ worth (M.upper_bound j) y)) (put-same w.p j p) (put-same w.q j q)

-- ---- sides less a number
less_weight : (o : Option Number) (c w : Number) → IsWeight (less o c) w → IsWeight o w
less_weight None c w h = h
less_weight (Some b) c w h = h

less_worth : (o : Option Number) (c w : Number) → IsWeight (less o c) w → worth (less o c) w ≡ worth o w -ℚ w *ℚ c
less_worth None c w h = ring rational (c ∷ []) (num (pos 0)) (num (pos 0) :- num (pos 0) :* v 0) refl ∙ ap (λ y. zero_ℚ -ℚ y *ℚ c) (sym h)
less_worth (Some b) c w h = ring rational (b ∷ c ∷ w ∷ []) (v 2 :* (v 0 :- v 1)) (v 2 :* v 0 :- v 2 :* v 1) refl

pub sides_less : (l u : Option Number) (c s t : Number) → IsWeight (less l c) s → IsWeight (less u c) t
    → (IsWeight l s × IsWeight u t) × (worth (less l c) s -ℚ worth (less u c) t ≡ (worth l s -ℚ worth u t) -ℚ (s -ℚ t) *ℚ c)
sides_less l u c s t h k = (
  (less_weight l c s h, less_weight u c t k),
  ap₂ ◌-ℚ◌ (less_worth l c s h) (less_worth u c t k)
      ∙ ring rational (worth l s ∷ worth u t ∷ s ∷ t ∷ c ∷ []) ((v 0 :- v 2 :* v 4) :- (v 1 :- v 3 :* v 4)) ((v 0 :- v 1) :- (v 2 :- v 3) :* v 4) refl,
)

-- ---- K3
pub record Taker (x g p q : Number) : Type 0 where
  pub low : zero_ℚ ≤ℚ p
  pub high : zero_ℚ ≤ℚ q
  pub net : p -ℚ q ≡ neg_ℚ g
  pub worths : p *ℚ x -ℚ q *ℚ x ≡ neg_ℚ (g *ℚ x)

pub taker : (x g : Number) → Taker x g (if lt_ℚ zero_ℚ g then zero_ℚ else neg_ℚ g) (if lt_ℚ zero_ℚ g then g else zero_ℚ)
taker x g = by (lt_ℚ zero_ℚ g) refl
  where
    by : (b : Bool) → lt_ℚ zero_ℚ g ≡ b → Taker x g (if b then zero_ℚ else neg_ℚ g) (if b then g else zero_ℚ)
    by true e = record {
      low = ≤ℚ_refl zero_ℚ;
      high = <ℚ-≤ℚ (lt_true _ _ e);
      net = ring rational (g ∷ []) (num (pos 0) :- v 0) (inv (v 0)) refl;
      worths = ring rational (g ∷ x ∷ []) (num (pos 0) :* v 1 :- v 0 :* v 1) (inv (v 0 :* v 1)) refl;
    }
    by false e = record {
      low = negative_pos' g (lt_false _ _ e);
      high = ≤ℚ_refl zero_ℚ;
      net = ring rational (g ∷ []) (inv (v 0) :- num (pos 0)) (inv (v 0)) refl;
      worths = ring rational (g ∷ x ∷ []) (inv (v 0) :* v 1 :- num (pos 0) :* v 1) (inv (v 0 :* v 1)) refl;
    }

module _ (M : LinearProgram) (j : ℕ) (x : Number) (d : IsFixedColumn M j x) where
  fixed : (w : Weights) → IsWeighting (fixed_column_deleted M j x) w → Moved M (fixed_column_deleted M j x) w (ray_fixed_column j M.rows (λ m. M.coefficient m j) w)
  fixed w h =
      let g : Number = entries_of M w j in
      let t = taker x g in
      column_back M j (λ i. less (M.lower_side i) (M.coefficient i j *ℚ x)) (λ i. less (M.upper_side i) (M.coefficient i j *ℚ x)) (put M.costs j zero_ℚ) w _ _ d.column h (record {
        rows = λ i l. (sides_less (M.lower_side i) (M.upper_side i) (M.coefficient i j *ℚ x) (w.s i) (w.t i) (h.rows i l).0 (h.rows i l).1).0;
        low = subst (λ o. IsWeight o (if lt_ℚ zero_ℚ g then zero_ℚ else neg_ℚ g)) (sym d.lower) t.low;
        high = subst (λ o. IsWeight o (if lt_ℚ zero_ℚ g then g else zero_ℚ)) (sym d.upper) t.high;
        net = ap (λ y. g +ℚ y) t.net ∙ ring rational (g ∷ []) (v 0 :+ inv (v 0)) (num (pos 0)) refl;
        worths = ap₂ (λ l u. total M.rows (side_worth M w) +ℚ (worth l (if lt_ℚ zero_ℚ g then zero_ℚ else neg_ℚ g) -ℚ worth u (if lt_ℚ zero_ℚ g then g else zero_ℚ))) d.lower d.upper
            ∙ ap (λ y. total M.rows (side_worth M w) +ℚ y) t.worths
            ∙ ring rational (total M.rows (side_worth M w) ∷ g ∷ x ∷ []) (v 0 :+ inv (v 1 :* v 2)) (v 0 :- v 2 :* v 1) refl
            ∙ ap (λ y. total M.rows (side_worth M w) -ℚ y) (sym (total-* M.rows x (λ i. (w.s i -ℚ w.t i) *ℚ M.coefficient i j)))
            ∙ sym (total-less M.rows (side_worth M w) (λ i. x *ℚ ((w.s i -ℚ w.t i) *ℚ M.coefficient i j)))
            ∙ total_same M.rows _ _ (λ i l. ring rational (side_worth M w i ∷ x ∷ (w.s i -ℚ w.t i) ∷ M.coefficient i j ∷ []) (v 0 :- v 1 :* (v 2 :* v 3)) (v 0 :- v 2 :* (v 3 :* v 1)) refl
            ∙ sym (sides_less (M.lower_side i) (M.upper_side i) (M.coefficient i j *ℚ x) (w.s i) (w.t i) (h.rows i l).0 (h.rows i l).1).1);
      })

  pub fixed_column_back : StepsBack M (fixed_column_deleted M j x) (ray_fixed_column j M.rows (λ m. M.coefficient m j))
  fixed_column_back = steps_of M (fixed_column_deleted M j x) _ fixed

-- ---- columns with one entry
module _ (M : LinearProgram) (j i : ℕ) (d : IsColumnSingleton M j i) where
  abbrev a : Number
  a = M.coefficient i j

  one_entry : (w : Weights) → entries_of M w j ≡ (w.s i -ℚ w.t i) *ℚ a
  one_entry w = one_term M.rows (λ m. (w.s m -ℚ w.t m) *ℚ M.coefficient m j) i d.row (λ m l n. ap (λ y. (w.s m -ℚ w.t m) *ℚ y) (d.only m l n) ∙ ring rational ((w.s m -ℚ w.t m) ∷ []) (v 0 :* num (pos 0)) (num (pos 0)) refl)

  abbrev lo : Option Number
  lo = moved_lower M j i

  abbrev hi : Option Number
  hi = moved_upper M j i

  abbrev S : LinearProgram
  S = slack_column_singleton_deleted M j i

  -- K14, the row kept
  slack : (w : Weights) → IsWeighting S w → Moved M S w (ray_slack_column_singleton j i a w)
  slack w h =
      let at = h.rows i d.row in
      let ws : IsWeight lo (w.s i) = subst (λ o. IsWeight o (w.s i)) (put-same M.lower_side i lo) at.0 in
      let wt : IsWeight hi (w.t i) = subst (λ o. IsWeight o (w.t i)) (put-same M.upper_side i hi) at.1 in
      let G : Option Number = greatest_term a (M.lower_bound j) (M.upper_bound j) in
      let L : Option Number = least_term a (M.lower_bound j) (M.upper_bound j) in
      let ms = minus_weight (M.lower_side i) G (w.s i) ws in
      let mt = minus_weight (M.upper_side i) L (w.t i) wt in
      let p : Parted (M.lower_bound j) (M.upper_bound j) (a *ℚ (w.t i -ℚ w.s i)) (lower_part a (w.t i) (w.s i)) (upper_part a (w.t i) (w.s i)) (worth L (w.t i) -ℚ worth G (w.s i)) =
      parted a (M.lower_bound j) (M.upper_bound j) (w.t i) (w.s i) d.entry mt.1 ms.1 in
      column_back M j (put M.lower_side i lo) (put M.upper_side i hi) _ w _ _ d.column h (record {
        rows = at_or_off (λ m. m < M.rows → IsWeight (M.lower_side m) (w.s m) × IsWeight (M.upper_side m) (w.t m)) i
            (λ l. (ms.0, mt.0))
            (λ m n l. rw (← put-other M.lower_side i lo m n, ← put-other M.upper_side i hi m n) (h.rows m l));
        low = p.low;
        high = p.high;
        net = ap₂ ◌+ℚ◌ (one_entry w) p.net ∙ ring rational (w.s i ∷ w.t i ∷ a ∷ []) ((v 0 :- v 1) :* v 2 :+ v 2 :* (v 1 :- v 0)) (num (pos 0)) refl;
        worths = ap (λ y. total M.rows (side_worth M w) +ℚ y) p.worths
            ∙ ring rational (total M.rows (side_worth M w) ∷ worth (M.lower_side i) (w.s i) ∷ worth (M.upper_side i) (w.t i) ∷ worth L (w.t i) ∷ worth G (w.s i) ∷ [])
            (v 0 :+ (v 3 :- v 4)) (v 0 :- (v 1 :- v 2) :+ ((v 1 :- v 4) :- (v 2 :- v 3))) refl
            ∙ ap₂ (λ x y. total M.rows (side_worth M w) -ℚ side_worth M w i +ℚ (x -ℚ y)) (sym (minus_worth (M.lower_side i) G (w.s i) ws)) (sym (minus_worth (M.upper_side i) L (w.t i) wt))
            ∙ ap₂ (λ x y. total M.rows (side_worth M w) -ℚ side_worth M w i +ℚ (worth x (w.s i) -ℚ worth y (w.t i))) (sym (put-same M.lower_side i lo)) (sym (put-same M.upper_side i hi))
            ∙ sym (total_off M.rows (side_worth M w) (λ m. worth (put M.lower_side i lo m) (w.s m) -ℚ worth (put M.upper_side i hi m) (w.t m)) i d.row
            (λ m n. ap₂ (λ x y. worth x (w.s m) -ℚ worth y (w.t m)) (put-other M.lower_side i lo m n) (put-other M.upper_side i hi m n)));
      })

  pub slack_column_back : StepsBack M S (ray_slack_column_singleton j i a)
  slack_column_back = steps_of M S _ slack

  -- where the row is gone too nothing steps back: a weight of nothing is nothing
  gone : (Q : LinearProgram) → Q.lower_bound j ≡ None → Q.upper_bound j ≡ None → (w : Weights) → j < Q.columns → IsWeighting Q w → (w.p j ≡ zero_ℚ) × (w.q j ≡ zero_ℚ)
  gone Q x y w l h = (subst (λ o. IsWeight o (w.p j)) x (h.columns j l).0, subst (λ o. IsWeight o (w.q j)) y (h.columns j l).1)

  part_none : (x y : Number) → x ≡ zero_ℚ → y ≡ zero_ℚ → (lower_part a x y ≡ zero_ℚ) × (upper_part a x y ≡ zero_ℚ)
  part_none x y e f = by (lt_ℚ zero_ℚ a)
    where
      by : (b : Bool) → ((if b then x *ℚ a else y *ℚ neg_ℚ a) ≡ zero_ℚ) × ((if b then y *ℚ a else x *ℚ neg_ℚ a) ≡ zero_ℚ)
      by true = (ap (λ z. z *ℚ a) e ∙ ring rational (a ∷ []) (num (pos 0) :* v 0) (num (pos 0)) refl, ap (λ z. z *ℚ a) f ∙ ring rational (a ∷ []) (num (pos 0) :* v 0) (num (pos 0)) refl)
      by false = (ap (λ z. z *ℚ neg_ℚ a) f ∙ ring rational (a ∷ []) (num (pos 0) :* inv (v 0)) (num (pos 0)) refl, ap (λ z. z *ℚ neg_ℚ a) e ∙ ring rational (a ∷ []) (num (pos 0) :* inv (v 0)) (num (pos 0)) refl)

  -- K14, the row deleted
  slack_dropped : (w : Weights) → IsWeighting (slack_row_deleted M j i) w → Moved M (slack_row_deleted M j i) w w
  slack_dropped w h =
      let first = row_back S i w d.row h in
      let none = row_none S i w d.row h in
      let second = slack w first.weighting in
      let zeros = gone S (put-same M.lower_bound j None) (put-same M.upper_bound j None) w d.column first.weighting in
      let parts = part_none (w.t i) (w.s i) none.1 none.0 in
      subst (λ (P : Vector). Moved M (slack_row_deleted M j i) w (record w { p = P })) (put_back w.p j (lower_part a (w.t i) (w.s i)) (zeros.0 ∙ sym parts.0))
      (subst (λ (Q : Vector). Moved M (slack_row_deleted M j i) w (record w { p = put w.p j (lower_part a (w.t i) (w.s i)); q = Q })) (put_back w.q j (upper_part a (w.t i) (w.s i)) (zeros.1 ∙ sym parts.1))
      (record { weighting = second.weighting; totals = second.totals ∙ first.totals }))

  pub slack_row_back : StepsBack M (slack_row_deleted M j i) (λ w. w)
  slack_row_back = steps_of M (slack_row_deleted M j i) (λ w. w) slack_dropped

  -- K13
  abbrev F : LinearProgram
  F = column_put_into_row M j i

  free : (w : Weights) → IsWeighting (free_column_singleton_deleted M j i) w → Moved M (free_column_singleton_deleted M j i) w w
  free w h =
      let first = row_back F i w d.row h in
      let none = row_none F i w d.row h in
      let zeros = gone F (put-same M.lower_bound j None) (put-same M.upper_bound j None) w d.column first.weighting in
      let second = column_back M j M.lower_side M.upper_side _ w zero_ℚ zero_ℚ d.column first.weighting (record {
        rows = first.weighting.rows;
        low = no_weight (M.lower_bound j);
        high = no_weight (M.upper_bound j);
        net = ap (λ y. y +ℚ (zero_ℚ -ℚ zero_ℚ)) (one_entry w ∙ ap₂ (λ x y. (x -ℚ y) *ℚ a) none.0 none.1) ∙ ring rational (a ∷ []) ((num (pos 0) :- num (pos 0)) :* v 0 :+ (num (pos 0) :- num (pos 0))) (num (pos 0)) refl;
        worths = ap₂ (λ x y. total M.rows (side_worth M w) +ℚ (x -ℚ y)) (worth_none (M.lower_bound j)) (worth_none (M.upper_bound j)) ∙ ring rational (total M.rows (side_worth M w) ∷ []) (v 0 :+ (num (pos 0) :- num (pos 0))) (v 0) refl;
      }) in
      subst (λ (P : Vector). Moved M (free_column_singleton_deleted M j i) w (record w { p = P })) (put_back w.p j zero_ℚ zeros.0)
      (subst (λ (Q : Vector). Moved M (free_column_singleton_deleted M j i) w (record w { p = put w.p j zero_ℚ; q = Q })) (put_back w.q j zero_ℚ zeros.1)
      (record { weighting = second.weighting; totals = second.totals ∙ first.totals }))

  pub free_column_back : StepsBack M (free_column_singleton_deleted M j i) (λ w. w)
  free_column_back = steps_of M (free_column_singleton_deleted M j i) (λ w. w) free
