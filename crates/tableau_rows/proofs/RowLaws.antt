-- Rows that were turned and replaced.
use Rattle.std.specs.Prelude.{OnOk}
use Rattle.std.proofs.Math.Seq.{take-append_seam}
use Rattle.std.proofs.Common.{Result, ◌++◌, take, drop, ◌≡◌, ◌≢◌, ℕ, ◌<◌, ◌≤◌, ◌⊎◌, inl, inr, List, length, get_or, set, pos, sym, refl, ap, ap₂, ◌∙◌, [], ◌∷◌, arith, subst}
use Rattle.std.proofs.lemmas.List.{get_or-set_same, get_or-set_other, length-set, get_or_past}
use Rattle.fractions.specs.Ring.{ring, v, num, ◌:+◌, ◌:*◌, inv}
use Rattle.fractions.specs.Number.{Number, rational, zero_ℚ, one_ℚ, ◌+ℚ◌, ◌*ℚ◌, neg_ℚ}
use Rattle.fractions.specs.Division.{inv_ℚ, ◌/ℚ◌}
use Rattle.fractions.specs.Total.{put}
use Rattle.fractions.proofs.Totals.{put-same, put-other, at_or_off}
use Rattle.tableau_rows.specs.Places.{row_of, TurnedAt, GainedAt, MovedAt, Everywhere, Turns, Replaces, Moves, MovesTo}
use Rattle.lp_model.specs.Vectors.{Vector, vector_of}
use Rattle.tableau_laws.specs.Tableaus.{turned, replacing}
use Rattle.tableau_laws.proofs.Pivots.{at_three}

pub below_or_past : (k n : ℕ) → (k < n) ⊎ (n ≤ k)
below_or_past k n = grind arith

pub turned_e : (b e : ℕ) (f : Vector) → b ≢ e → turned b e f e ≡ zero_ℚ
turned_e b e f n = put-other (put (λ k. neg_ℚ (f k /ℚ f e)) e zero_ℚ) b (one_ℚ /ℚ f e) e (λ q. n (sym q)) ∙ put-same (λ k. neg_ℚ (f k /ℚ f e)) e zero_ℚ

pub turned_k : (b e : ℕ) (f : Vector) (k : ℕ) → k ≢ e → k ≢ b → turned b e f k ≡ neg_ℚ (f k /ℚ f e)
turned_k b e f k n o = put-other (put (λ k. neg_ℚ (f k /ℚ f e)) e zero_ℚ) b (one_ℚ /ℚ f e) k o ∙ put-other (λ k. neg_ℚ (f k /ℚ f e)) e zero_ℚ k n

pub replacing_e : (b e : ℕ) (line f : Vector) → b ≢ e → replacing b e line f e ≡ zero_ℚ
replacing_e b e line f n = put-other (put (λ k. f k +ℚ f e *ℚ line k) e zero_ℚ) b (f e *ℚ line b) e (λ q. n (sym q)) ∙ put-same (λ k. f k +ℚ f e *ℚ line k) e zero_ℚ

pub replacing_b : (b e : ℕ) (line f : Vector) → replacing b e line f b ≡ f e *ℚ line b
replacing_b b e line f = put-same (put (λ k. f k +ℚ f e *ℚ line k) e zero_ℚ) b (f e *ℚ line b)

pub replacing_k : (b e : ℕ) (line f : Vector) (k : ℕ) → k ≢ e → k ≢ b → replacing b e line f k ≡ f k +ℚ f e *ℚ line k
replacing_k b e line f k n o = put-other (put (λ k. f k +ℚ f e *ℚ line k) e zero_ℚ) b (f e *ℚ line b) k o ∙ put-other (λ k. f k +ℚ f e *ℚ line k) e zero_ℚ k n

-- a list with new numbers at b and e
written : (mid : List Number) (b e : ℕ) (z i : Number) → b < length mid → e < length mid → b ≢ e → (k : ℕ)
    → ((k ≡ e → get_or (set (set mid e z) b i) k zero_ℚ ≡ z) × (k ≡ b → get_or (set (set mid e z) b i) k zero_ℚ ≡ i) × (k ≢ e → k ≢ b → get_or (set (set mid e z) b i) k zero_ℚ ≡ get_or mid k zero_ℚ))
written mid b e z i lb le n k = (
  (λ q. rw q (get_or-set_other (set mid e z) b e i zero_ℚ (λ r. n (sym r)) ∙ get_or-set_same mid e z zero_ℚ le)),
  (λ q. let m : b < length (set mid e z) = omega (arith, length-set mid e z) in rw q (get_or-set_same (set mid e z) b i zero_ℚ m)),
  λ q r. get_or-set_other (set mid e z) b k i zero_ℚ r ∙ get_or-set_other mid e k z zero_ℚ q,
)

pub turn_value : (old mid : List Number) (b e : ℕ) (h z i : Number) → b < length old → e < length old → b ≢ e → length mid ≡ length old → h ≡ vector_of old e → z ≡ zero_ℚ → i ≡ one_ℚ /ℚ h
    → Everywhere (TurnedAt b e h) old mid → Turns b e old (set (set mid e z) b i)
turn_value old mid b e h z i lb le n len eh ez ei w = at_three (λ k. vector_of (set (set mid e z) b i) k ≡ turned b e (vector_of old) k) b e
    ((written mid b e z i (omega arith) (omega arith) n e).0 refl ∙ ez ∙ sym (turned_e b e (vector_of old) n))
    (λ o. (written mid b e z i (omega arith) (omega arith) n b).1 refl ∙ ei ∙ ap (λ y. one_ℚ /ℚ y) eh ∙ sym (put-same (put (λ k. neg_ℚ (vector_of old k /ℚ vector_of old e)) e zero_ℚ) b (one_ℚ /ℚ vector_of old e)))
    (λ k p q. (written mid b e z i (omega arith) (omega arith) n k).2 p q ∙ by k p q (below_or_past k (length old)) ∙ ap (λ y. neg_ℚ (vector_of old k /ℚ y)) eh ∙ sym (turned_k b e (vector_of old) k p q))
  where
    by : (k : ℕ) → k ≢ e → k ≢ b → (k < length old) ⊎ (length old ≤ k) → vector_of mid k ≡ neg_ℚ (vector_of old k /ℚ h)
    by k p q (inl l) = w k l q p
    by k p q (inr l) = get_or_past mid k zero_ℚ (omega arith) ∙ ring rational (inv_ℚ h ∷ []) (num (pos 0)) (inv (num (pos 0) :* v 0)) refl ∙ ap (λ y. neg_ℚ (y /ℚ h)) (sym (get_or_past old k zero_ℚ l))

-- a row that has 0 at e
pub replace_none : (old line : List Number) (b e : ℕ) → b ≢ e → vector_of old b ≡ zero_ℚ → vector_of old e ≡ zero_ℚ → Replaces b e line old old
replace_none old line b e n zb ze = at_three (λ k. vector_of old k ≡ replacing b e (vector_of line) (vector_of old) k) b e
    (ze ∙ sym (replacing_e b e (vector_of line) (vector_of old) n))
    (λ o. zb ∙ ring rational (vector_of line b ∷ []) (num (pos 0)) (num (pos 0) :* v 0) refl ∙ ap (λ y. y *ℚ vector_of line b) (sym ze) ∙ sym (replacing_b b e (vector_of line) (vector_of old)))
    (λ k p q. ring rational (vector_of old k ∷ vector_of line k ∷ []) (v 0) (v 0 :+ num (pos 0) :* v 1) refl ∙ ap (λ y. vector_of old k +ℚ y *ℚ vector_of line k) (sym ze) ∙ sym (replacing_k b e (vector_of line) (vector_of old) k p q))

-- a number that is not 0 is not past the last
pub not_past : (xs : List Number) (k : ℕ) → vector_of xs k ≢ zero_ℚ → k < length xs
not_past xs k n = by (below_or_past k (length xs))
  where
    by : (k < length xs) ⊎ (length xs ≤ k) → k < length xs
    by (inl l) = l
    by (inr l) = absurd (n (get_or_past xs k zero_ℚ l))

pub replace_value : (old mid line : List Number) (b e : ℕ) (m z i : Number) → b < length line → b ≢ e → length mid ≡ length old → length old ≡ length line → vector_of old e ≢ zero_ℚ → m ≡ vector_of old e → z ≡ zero_ℚ → i ≡ m *ℚ vector_of line b
    → Everywhere (GainedAt b e m (vector_of line)) old mid → Replaces b e line old (set (set mid e z) b i)
replace_value old mid line b e m z i lb n len same nz em ez ei w =
    let le : e < length mid = let f : e < length old = not_past old e nz in omega arith in
    let lm : b < length mid = omega arith in
    at_three (λ k. vector_of (set (set mid e z) b i) k ≡ replacing b e (vector_of line) (vector_of old) k) b e
    ((written mid b e z i lm le n e).0 refl ∙ ez ∙ sym (replacing_e b e (vector_of line) (vector_of old) n))
    (λ o. (written mid b e z i lm le n b).1 refl ∙ ei ∙ ap (λ y. y *ℚ vector_of line b) em ∙ sym (replacing_b b e (vector_of line) (vector_of old)))
    (λ k p q. (written mid b e z i lm le n k).2 p q ∙ by k p q (below_or_past k (length old)) ∙ ap (λ y. vector_of old k +ℚ y *ℚ vector_of line k) em ∙ sym (replacing_k b e (vector_of line) (vector_of old) k p q))
  where
    by : (k : ℕ) → k ≢ e → k ≢ b → (k < length old) ⊎ (length old ≤ k) → vector_of mid k ≡ vector_of old k +ℚ m *ℚ vector_of line k
    by k p q (inl l) = w k l q p
    by k p q (inr l) = get_or_past mid k zero_ℚ (omega arith) ∙ ring rational (m ∷ []) (num (pos 0)) (num (pos 0) :+ v 0 :* num (pos 0)) refl
        ∙ ap₂ (λ x y. x +ℚ m *ℚ y) (sym (get_or_past old k zero_ℚ l)) (sym (get_or_past line k zero_ℚ (omega arith)))

-- a row that was written back
pub written_back : {E : Type 0} (r : Result (Unit {0}) E) (b e len : ℕ) (line at self slice new items : List Number) → slice ≡ self → length slice ≡ len → length new ≡ length slice → at ≡ line
    → OnOk r (Replaces b e at slice new) → OnOk r (Replaces b e line self (take len (new ++ drop (length new) items)))
written_back r b e len line at self slice new items es el en et h =
    let back : take len (new ++ drop (length new) items) ≡ new = ap (λ n. take n (new ++ drop (length new) items)) (sym el ∙ sym en) ∙ take-append_seam new (drop (length new) items) in
    rw back (subst (λ s. OnOk r (Replaces b e line s new)) es (subst (λ s. OnOk r (Replaces b e s slice new)) et h))

-- ---- values
-- what a variable past the last gains
past_moves : (old mid : List Number) (rows : List (List Number)) (e k : ℕ) (w : Number) → length mid ≡ length old → length rows ≡ length old → length old ≤ k → vector_of mid k ≡ vector_of old k +ℚ row_of rows k e *ℚ w
past_moves old mid rows e k w len long l = get_or_past mid k zero_ℚ (omega arith)
    ∙ ring rational (w ∷ []) (num (pos 0)) (num (pos 0) :+ num (pos 0) :* v 0) refl
    ∙ ap₂ (λ x y. x +ℚ y *ℚ w) (sym (get_or_past old k zero_ℚ l)) (sym (ap (λ row. vector_of row e) (get_or_past rows k [] (omega arith)) ∙ get_or_past [] e zero_ℚ (omega arith)))

pub move_value : (old mid : List Number) (rows : List (List Number)) (e : ℕ) (w z : Number) → e < length old → length mid ≡ length old → length rows ≡ length old → z ≡ vector_of old e +ℚ w
    → Everywhere (MovedAt e e (row_of rows) w) old mid → Moves e (row_of rows) w old (set mid e z)
move_value old mid rows e w z le len long ez h = at_or_off (λ k. vector_of (set mid e z) k ≡ put (λ m. vector_of old m +ℚ row_of rows m e *ℚ w) e (vector_of old e +ℚ w) k) e
    (get_or-set_same mid e z zero_ℚ (omega arith) ∙ ez ∙ sym (put-same (λ m. vector_of old m +ℚ row_of rows m e *ℚ w) e (vector_of old e +ℚ w)))
    (λ k n. get_or-set_other mid e k z zero_ℚ n ∙ by k n (below_or_past k (length old)) ∙ sym (put-other (λ m. vector_of old m +ℚ row_of rows m e *ℚ w) e (vector_of old e +ℚ w) k n))
  where
    by : (k : ℕ) → k ≢ e → (k < length old) ⊎ (length old ≤ k) → vector_of mid k ≡ vector_of old k +ℚ row_of rows k e *ℚ w
    by k n (inl l) = h k l n
    by k n (inr l) = past_moves old mid rows e k w len long l

pub move_to_value : (old mid : List Number) (rows : List (List Number)) (b e : ℕ) (w z bound : Number) → b < length old → e < length old → b ≢ e → length mid ≡ length old → length rows ≡ length old → z ≡ vector_of old e +ℚ w
    → Everywhere (MovedAt b e (row_of rows) w) old mid → MovesTo b e (row_of rows) w bound old (set (set mid e z) b bound)
move_to_value old mid rows b e w z bound lb le o len long ez h = at_three (λ k. vector_of (set (set mid e z) b bound) k ≡ put (put (λ m. vector_of old m +ℚ row_of rows m e *ℚ w) e (vector_of old e +ℚ w)) b bound k) b e
    ((written mid b e z bound (omega arith) (omega arith) o e).0 refl ∙ ez
    ∙ sym (put-other (put (λ m. vector_of old m +ℚ row_of rows m e *ℚ w) e (vector_of old e +ℚ w)) b bound e (λ q. o (sym q)) ∙ put-same (λ m. vector_of old m +ℚ row_of rows m e *ℚ w) e (vector_of old e +ℚ w)))
    (λ n. (written mid b e z bound (omega arith) (omega arith) o b).1 refl ∙ sym (put-same (put (λ m. vector_of old m +ℚ row_of rows m e *ℚ w) e (vector_of old e +ℚ w)) b bound))
    (λ k n m. (written mid b e z bound (omega arith) (omega arith) o k).2 n m ∙ by k m (below_or_past k (length old))
    ∙ sym (put-other (put (λ m. vector_of old m +ℚ row_of rows m e *ℚ w) e (vector_of old e +ℚ w)) b bound k m ∙ put-other (λ m. vector_of old m +ℚ row_of rows m e *ℚ w) e (vector_of old e +ℚ w) k n))
  where
    by : (k : ℕ) → k ≢ b → (k < length old) ⊎ (length old ≤ k) → vector_of mid k ≡ vector_of old k +ℚ row_of rows k e *ℚ w
    by k m (inl l) = h k l m
    by k m (inr l) = past_moves old mid rows e k w len long l
