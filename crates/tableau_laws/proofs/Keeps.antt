-- Pivots and shifts keep what a tableau keeps.
use Rattle.std.proofs.Common.{◌≡◌, ◌≢◌, ℕ, ◌<◌, pos, sym, refl, ap, ap₂, ◌∙◌, [], ◌∷◌, ◌⊎◌, inl, inr, subst, Bool, true, false, true≢false, Option, Some, None}
use Rattle.std.proofs.lemmas.Bool.{cases_eq}
use Rattle.fractions.specs.Ring.{ring, v, num, ◌:+◌, ◌:-◌, ◌:*◌, inv}
use Rattle.fractions.specs.Number.{Number, rational, zero_ℚ, one_ℚ, ◌+ℚ◌, ◌-ℚ◌, ◌*ℚ◌, neg_ℚ}
use Rattle.fractions.specs.Inverse.{inv_ℚ, ◌/ℚ◌}
use Rattle.fractions.specs.Total.{total, put}
use Rattle.fractions.proofs.Totals.{total_same, total-put_point, put-same, put-other, at_or_off}
use Rattle.fractions.specs.Signs.{over-times}
use Rattle.lp_model.specs.Vectors.{Vector}
use Rattle.lp_model.specs.LinearProgram.{LinearProgram}
use Rattle.tableau_laws.specs.Variables.{lower_end, upper_end, Rests}
use Rattle.tableau_laws.specs.Tableaus.{Tableau, turned_row, replaced, moved, gain, pivoted, shifted, Solves, CanPivot, CanShift}
use Rattle.tableau_laws.specs.Keeping.{IsSplit, IsTableau}
use Rattle.tableau_laws.proofs.Pivots.{apart, line_e, basic_e, basic_b, basic_m, table_e, table_b, table_m, at_three, pivot_keeps, pivot_keeps_back, pivot_costs}

-- ---- who stands where
pub times_zero : (p q : Number) → q ≡ zero_ℚ → p *ℚ q ≡ zero_ℚ
times_zero p q e = ap (λ z. p *ℚ z) e ∙ ring rational (p ∷ []) (v 0 :* num (pos 0)) (num (pos 0)) refl

pub zero_times : (p q : Number) → p ≡ zero_ℚ → p *ℚ q ≡ zero_ℚ
zero_times p q e = ap (λ z. z *ℚ q) e ∙ ring rational (q ∷ []) (num (pos 0) :* v 0) (num (pos 0)) refl

both_zero : (p q : Number) → p ≡ zero_ℚ → q ≡ zero_ℚ → p +ℚ q ≡ zero_ℚ
both_zero p q d e = ap₂ ◌+ℚ◌ d e ∙ ring rational [] (num (pos 0) :+ num (pos 0)) (num (pos 0)) refl

-- the entering variable's row at another basic variable
line_zero : (t : Tableau) (b e k : ℕ) → CanPivot t b e → k ≢ e → k ≢ b → t.table b k ≡ zero_ℚ → turned_row t b e k ≡ zero_ℚ
line_zero t b e k h n o z =
    put-other (put (λ k. neg_ℚ (t.table b k /ℚ t.table b e)) e zero_ℚ) b (one_ℚ /ℚ t.table b e) k o
    ∙ put-other (λ k. neg_ℚ (t.table b k /ℚ t.table b e)) e zero_ℚ k n
    ∙ ap (λ p. neg_ℚ (p /ℚ t.table b e)) z
    ∙ ring rational (inv_ℚ (t.table b e) ∷ []) (inv (num (pos 0) :* v 0)) (num (pos 0)) refl

replaced_e : (t : Tableau) (b e : ℕ) (f : Vector) → b ≢ e → replaced t b e f e ≡ zero_ℚ
replaced_e t b e f n = put-other (put (λ k. f k +ℚ f e *ℚ turned_row t b e k) e zero_ℚ) b (f e *ℚ turned_row t b e b) e (λ q. n (sym q))
    ∙ put-same (λ k. f k +ℚ f e *ℚ turned_row t b e k) e zero_ℚ

replaced_b : (t : Tableau) (b e : ℕ) (f : Vector) → replaced t b e f b ≡ f e *ℚ turned_row t b e b
replaced_b t b e f = put-same (put (λ k. f k +ℚ f e *ℚ turned_row t b e k) e zero_ℚ) b (f e *ℚ turned_row t b e b)

replaced_k : (t : Tableau) (b e : ℕ) (f : Vector) (k : ℕ) → k ≢ e → k ≢ b → replaced t b e f k ≡ f k +ℚ f e *ℚ turned_row t b e k
replaced_k t b e f k n o = put-other (put (λ k. f k +ℚ f e *ℚ turned_row t b e k) e zero_ℚ) b (f e *ℚ turned_row t b e b) k o
    ∙ put-other (λ k. f k +ℚ f e *ℚ turned_row t b e k) e zero_ℚ k n

-- a row stays empty at the variables that are basic then
basic_column : (t : Tableau) (b e : ℕ) (w : Number) (f : Vector) → IsSplit t → CanPivot t b e → ((k : ℕ) → k < t.size → t.basic k ≡ true → f k ≡ zero_ℚ)
    → (k : ℕ) → k < t.size → (pivoted t b e w).basic k ≡ true → replaced t b e f k ≡ zero_ℚ
basic_column t b e w f s h z = at_three (λ k. k < t.size → (pivoted t b e w).basic k ≡ true → replaced t b e f k ≡ zero_ℚ) b e
    (λ l k. replaced_e t b e f (apart t b e h))
    (λ n l k. absurd (true≢false (sym k ∙ basic_b t b e w n)))
    (λ m n o l k. let k' : t.basic m ≡ true = sym (basic_m t b e w m n o) ∙ k in
    replaced_k t b e f m n o
    ∙ both_zero (f m) (f e *ℚ turned_row t b e m) (z m l k') (times_zero (f e) (turned_row t b e m) (line_zero t b e m h n o (s.columns b m h.b_within l k'))))

line_column : (t : Tableau) (b e : ℕ) (w : Number) → IsSplit t → CanPivot t b e → (k : ℕ) → k < t.size → (pivoted t b e w).basic k ≡ true → turned_row t b e k ≡ zero_ℚ
line_column t b e w s h = at_three (λ k. k < t.size → (pivoted t b e w).basic k ≡ true → turned_row t b e k ≡ zero_ℚ) b e
    (λ l k. line_e t b e (apart t b e h))
    (λ n l k. absurd (true≢false (sym k ∙ basic_b t b e w n)))
    (λ m n o l k. line_zero t b e m h n o (s.columns b m h.b_within l (sym (basic_m t b e w m n o) ∙ k)))

-- an empty row stays empty
empty_row : (t : Tableau) (b e : ℕ) (f : Vector) → CanPivot t b e → ((k : ℕ) → k < t.size → f k ≡ zero_ℚ) → (k : ℕ) → k < t.size → replaced t b e f k ≡ zero_ℚ
empty_row t b e f h z = at_three (λ k. k < t.size → replaced t b e f k ≡ zero_ℚ) b e
    (λ l. replaced_e t b e f (apart t b e h))
    (λ n l. replaced_b t b e f ∙ zero_times (f e) (turned_row t b e b) (z e h.e_within))
    (λ m n o l. replaced_k t b e f m n o ∙ both_zero (f m) (f e *ℚ turned_row t b e m) (z m l) (zero_times (f e) (turned_row t b e m) (z e h.e_within)))

pub pivot_splits : (t : Tableau) (b e : ℕ) (w : Number) → IsSplit t → CanPivot t b e → IsSplit (pivoted t b e w)
pivot_splits t b e w s h = record {
  rows = λ m k lm lk other. rows k lk m lm other;
  columns = λ m k lm lk basic. columns k lk basic m lm;
  prices = basic_column t b e w t.prices s h s.prices;
}
  where
    rows : (k : ℕ) → k < t.size → (m : ℕ) → m < t.size → (pivoted t b e w).basic m ≡ false → (pivoted t b e w).table m k ≡ zero_ℚ
    rows k lk = at_three (λ m. m < t.size → (pivoted t b e w).basic m ≡ false → (pivoted t b e w).table m k ≡ zero_ℚ) b e
        (λ l q. absurd (true≢false (sym (basic_e t b e w) ∙ q)))
        (λ n l q. ap (λ (r : Vector). r k) (table_b t b e w n))
        (λ m n o l q. ap (λ (r : Vector). r k) (table_m t b e w m n o)
        ∙ empty_row t b e (t.table m) h (λ k lk. s.rows m k l lk (sym (basic_m t b e w m n o) ∙ q)) k lk)

    columns : (k : ℕ) → k < t.size → (pivoted t b e w).basic k ≡ true → (m : ℕ) → m < t.size → (pivoted t b e w).table m k ≡ zero_ℚ
    columns k lk q = at_three (λ m. m < t.size → (pivoted t b e w).table m k ≡ zero_ℚ) b e
        (λ l. ap (λ (r : Vector). r k) (table_e t b e w) ∙ line_column t b e w s h k lk q)
        (λ n l. ap (λ (r : Vector). r k) (table_b t b e w n))
        (λ m n o l. ap (λ (r : Vector). r k) (table_m t b e w m n o) ∙ basic_column t b e w (t.table m) s h (λ k lk. s.columns m k l lk) k lk q)

-- ---- the values
pub moved_other : (t : Tableau) (e : ℕ) (w : Number) (k : ℕ) → k ≢ e → moved t e w k ≡ t.values k +ℚ t.table k e *ℚ w
moved_other t e w k n = put-other (λ m. t.values m +ℚ t.table m e *ℚ w) e (t.values e +ℚ w) k n

pub stays : (t : Tableau) (e : ℕ) (w : Number) (k : ℕ) → IsSplit t → e < t.size → k < t.size → t.basic k ≡ false → k ≢ e → moved t e w k ≡ t.values k
stays t e w k s le lk o n = moved_other t e w k n
    ∙ ap (λ z. t.values k +ℚ z *ℚ w) (s.rows k e lk le o)
    ∙ ring rational (t.values k ∷ w ∷ []) (v 0 :+ num (pos 0) :* v 1) (v 0) refl

-- what a row sums to where e gains w
moved_term : (t : Tableau) (e : ℕ) (w : Number) (m k : ℕ) → IsSplit t → e < t.size → m < t.size → k < t.size → t.table m k *ℚ moved t e w k ≡ t.table m k *ℚ put t.values e (t.values e +ℚ w) k
moved_term t e w m k s le lm lk = by (cases_eq k e) (t.basic k) refl
  where
    by : (k ≡ e) ⊎ (k ≢ e) → (q : Bool) → t.basic k ≡ q → t.table m k *ℚ moved t e w k ≡ t.table m k *ℚ put t.values e (t.values e +ℚ w) k
    by (inl same) q o = rw same (ap (λ z. t.table m e *ℚ z) (put-same (λ m. t.values m +ℚ t.table m e *ℚ w) e (t.values e +ℚ w) ∙ sym (put-same t.values e (t.values e +ℚ w))))
    by (inr n) true o = zero_times (t.table m k) (moved t e w k) (s.columns m k lm lk o) ∙ sym (zero_times (t.table m k) (put t.values e (t.values e +ℚ w) k) (s.columns m k lm lk o))
    by (inr n) false o = ap (λ z. t.table m k *ℚ z) (stays t e w k s le lk o n ∙ sym (put-other t.values e (t.values e +ℚ w) k n))

pub moved_solves : (t : Tableau) (e : ℕ) (w : Number) → IsSplit t → CanShift t e → Solves t t.values → Solves t (moved t e w)
moved_solves t e w s h o m lm bm =
    let n : m ≢ e = λ q. true≢false (sym bm ∙ ap t.basic q ∙ h.e_other) in
    moved_other t e w m n
    ∙ ap (λ z. z +ℚ t.table m e *ℚ w) (o m lm bm)
    ∙ ring rational (total t.size (λ k. t.table m k *ℚ t.values k) ∷ t.table m e ∷ w ∷ t.values e ∷ []) (v 0 :+ v 1 :* v 2) (v 0 :+ v 1 :* ((v 3 :+ v 2) :- v 3)) refl
    ∙ sym (total-put_point t.size (t.table m) t.values e (t.values e +ℚ w) h.e_within)
    ∙ sym (total_same t.size (λ k. t.table m k *ℚ moved t e w k) (λ k. t.table m k *ℚ put t.values e (t.values e +ℚ w) k) (λ k lk. moved_term t e w m k s h.e_within lm lk))

pub can_shift : (t : Tableau) (b e : ℕ) → CanPivot t b e → CanShift t e
can_shift t b e h = record { e_within = h.e_within; e_other = h.e_other }

-- the leaving variable goes to its bound
pub reaches : (t : Tableau) (b e : ℕ) (bound : Number) → CanPivot t b e → moved t e (gain t b e bound) b ≡ bound
reaches t b e bound h = moved_other t e (gain t b e bound) b (apart t b e h)
    ∙ ap (λ z. t.values b +ℚ z) (over-times (t.table b e) (bound -ℚ t.values b) h.not_zero)
    ∙ ring rational (t.values b ∷ bound ∷ []) (v 0 :+ (v 1 :- v 0)) (v 1) refl

-- so its bound is written over itself
pub values_are : (t : Tableau) (b e : ℕ) (bound : Number) → CanPivot t b e → (k : ℕ) → (pivoted t b e bound).values k ≡ moved t e (gain t b e bound) k
values_are t b e bound h = at_or_off (λ k. (pivoted t b e bound).values k ≡ moved t e (gain t b e bound) k) b
    (put-same (moved t e (gain t b e bound)) b bound ∙ sym (reaches t b e bound h))
    (λ k n. put-other (moved t e (gain t b e bound)) b bound k n)

-- solutions by value
pub solves_same : (t : Tableau) (x z : Vector) → ((k : ℕ) → k < t.size → z k ≡ x k) → Solves t x → Solves t z
solves_same t x z e o m lm bm = e m lm ∙ o m lm bm ∙ total_same t.size (λ k. t.table m k *ℚ x k) (λ k. t.table m k *ℚ z k) (λ k lk. ap (λ y. t.table m k *ℚ y) (sym (e k lk)))

pub pivot_values : (t : Tableau) (b e : ℕ) (bound : Number) → IsSplit t → CanPivot t b e → Solves t t.values → Solves (pivoted t b e bound) (pivoted t b e bound).values
pivot_values t b e bound s h o = pivot_keeps t b e bound s h (pivoted t b e bound).values
    (solves_same t (moved t e (gain t b e bound)) (pivoted t b e bound).values (λ k l. values_are t b e bound h k) (moved_solves t e (gain t b e bound) s (can_shift t b e h) o))

-- ---- the variables that rest
pub rests_at_lower : (l u : Option Number) (w : Number) → l ≡ Some w → Rests l u w
rests_at_lower None u w e = cc
rests_at_lower (Some l) None w e = cc
rests_at_lower (Some l) (Some u) w e = inl cc

pub rests_at_upper : (l u : Option Number) (w : Number) → u ≡ Some w → Rests l u w
rests_at_upper l None w e = cc
rests_at_upper None (Some u) w e = cc
rests_at_upper (Some l) (Some u) w e = inr cc

pub pivot_rests : (M : LinearProgram) (t : Tableau) (b e : ℕ) (bound : Number) → IsSplit t → CanPivot t b e → Rests (lower_end M b) (upper_end M b) bound
    → ((k : ℕ) → k < t.size → t.basic k ≡ false → Rests (lower_end M k) (upper_end M k) (t.values k))
    → (k : ℕ) → k < t.size → (pivoted t b e bound).basic k ≡ false → Rests (lower_end M k) (upper_end M k) ((pivoted t b e bound).values k)
pivot_rests M t b e bound s h r o = at_three (λ k. k < t.size → (pivoted t b e bound).basic k ≡ false → Rests (lower_end M k) (upper_end M k) ((pivoted t b e bound).values k)) b e
    (λ l q. absurd (true≢false (sym (basic_e t b e bound) ∙ q)))
    (λ n l q. subst (λ z. Rests (lower_end M b) (upper_end M b) z) (sym (put-same (moved t e (gain t b e bound)) b bound)) r)
    (λ k n m l q. let q' : t.basic k ≡ false = sym (basic_m t b e bound k n m) ∙ q in
    subst (λ z. Rests (lower_end M k) (upper_end M k) z)
    (sym (put-other (moved t e (gain t b e bound)) b bound k m ∙ stays t e (gain t b e bound) k s h.e_within l q' n))
    (o k l q'))

pub pivot_is_tableau : (M : LinearProgram) (t : Tableau) (b e : ℕ) (bound : Number) → IsTableau M t → CanPivot t b e → Rests (lower_end M b) (upper_end M b) bound → IsTableau M (pivoted t b e bound)
pivot_is_tableau M t b e bound i h r = record {
  size = i.size;
  split = pivot_splits t b e bound i.split h;
  points = λ x. ((λ o. pivot_keeps t b e bound i.split h x ((i.points x).0 o)), λ o. (i.points x).1 (pivot_keeps_back t b e bound i.split h x o));
  costs = λ x o. pivot_costs t b e bound i.split h x ((i.points x).0 o) ∙ i.costs x o;
  values = pivot_values t b e bound i.split h i.values;
  rests = pivot_rests M t b e bound i.split h r i.rests;
}

pub shift_is_tableau : (M : LinearProgram) (t : Tableau) (e : ℕ) (w : Number) → IsTableau M t → CanShift t e → Rests (lower_end M e) (upper_end M e) (t.values e +ℚ w) → IsTableau M (shifted t e w)
shift_is_tableau M t e w i h r = record {
  size = i.size;
  split = record { rows = i.split.rows; columns = i.split.columns; prices = i.split.prices };
  points = λ x. ((λ o. (i.points x).0 o), λ o. (i.points x).1 o);
  costs = i.costs;
  values = moved_solves t e w i.split h i.values;
  rests = at_or_off (λ k. k < t.size → t.basic k ≡ false → Rests (lower_end M k) (upper_end M k) (moved t e w k)) e
      (λ l q. subst (λ z. Rests (lower_end M e) (upper_end M e) z) (sym (put-same (λ m. t.values m +ℚ t.table m e *ℚ w) e (t.values e +ℚ w))) r)
      (λ k n l q. subst (λ z. Rests (lower_end M k) (upper_end M k) z) (sym (stays t e w k i.split h.e_within l q n)) (i.rests k l q));
}
