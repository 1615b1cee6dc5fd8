-- A pivot of the rows and the prices, step by step.
use Rattle.std.proofs.Common.{◌≡◌, ◌≢◌, ℕ, ◌<◌, ◌≤◌, ◌⊎◌, inl, inr, List, length, get_or, set, sym, refl, ap, ◌∙◌, [], arith, subst}
use Rattle.std.proofs.lemmas.List.{get_or-set_same, get_or-set_other, length-set, get_or_past}
use Rattle.std.proofs.lemmas.Bool.{cases_eq}
use Rattle.fractions.specs.Number.{Number, zero_ℚ}
use Rattle.fractions.specs.Total.{put}
use Rattle.fractions.proofs.Totals.{put-same, put-other}
use Rattle.lp_model.specs.Vectors.{Vector, vector_of}
use Rattle.tableau_laws.specs.Tableaus.{turned, replacing}
use Rattle.tableau_laws.specs.Room.{TurnFits, RowFits}
use Rattle.tableau_laws.proofs.Pivots.{at_three}
use Rattle.tableau_rows.specs.Places.{row_of, Turns, Replaces, AllReplace}
use Rattle.tableau_rows.specs.Turning.{AreTurnable, AreTurned, TurningFits, line_of}
use Rattle.tableau_rows.proofs.RowLaws.{below_or_past, replace_none}

-- what the steps made: the leaving variable's row y gave the line T, an empty row x stood in its place
pub record Stepped (n b e : ℕ) (rows : List (List Number)) (x y T : List Number) : Type 0 where
  pub empty : length x ≡ 0
  pub row : y ≡ get_or rows b []
  pub turns : Turns b e y T
  pub long : length T ≡ n

-- the line
line_is : (n b e : ℕ) (rows : List (List Number)) (x y T : List Number) → Stepped n b e rows x y T → vector_of T ≡ line_of b e rows
line_is n b e rows x y T s = λ i k. (s.turns k ∙ ap (λ (row : List Number). turned b e (vector_of row) k) s.row) i

empty_at : (x : List Number) (k : ℕ) → length x ≡ 0 → vector_of x k ≡ zero_ℚ
empty_at x k e = get_or_past x k zero_ℚ (omega arith)

at_b : (n b e : ℕ) (rows : List (List Number)) (x : List Number) (prices : List Number) → AreTurnable n b e rows prices → get_or (set rows b x) b [] ≡ x
at_b n b e rows x prices t = let l : b < length rows = omega (arith, t.b_within, t.rows_long) in get_or-set_same rows b x [] l

pub turned_all : (n b e : ℕ) (rows new : List (List Number)) (x y T z p q : List Number) → AreTurnable n b e rows p → Stepped n b e rows x y T
    → AllReplace b e T (set rows b x) new → length new ≡ length (set rows b x) → Replaces b e T p q → length q ≡ length p → z ≡ T → AreTurned n b e rows (set new e z) p q
turned_all n b e rows new x y T z p q t s all len rp lq ez = record {
  table = λ m k. table k m;
  priced = λ k. rp k ∙ ap (λ (line : Vector). replacing b e line (vector_of p) k) line;
  rows_long = length-set new e z ∙ ln;
  prices_long = lq ∙ t.prices_long;
  entered = ap length (get_or-set_same new e z [] le ∙ ez) ∙ s.long;
  left = ap length (get_or-set_other new e b z [] t.apart) ∙ (all b lb).1 ∙ ap length (at_b n b e rows x p t) ∙ s.empty;
  others = λ m o d. others m o d (below_or_past m n);
}
  where
    ln : length new ≡ n
    ln = len ∙ length-set rows b x ∙ t.rows_long

    le : e < length new
    le = omega (arith, t.e_within, ln)

    lb : b < length (set rows b x)
    lb = omega (arith, t.b_within, length-set rows b x, t.rows_long)

    line : vector_of T ≡ line_of b e rows
    line = line_is n b e rows x y T s

    same : (m : ℕ) → m ≢ b → get_or (set rows b x) m [] ≡ get_or rows m []
    same m o = get_or-set_other rows b m x [] o

    others : (m : ℕ) → m ≢ b → m ≢ e → (m < n) ⊎ (n ≤ m) → length (get_or (set new e z) m []) ≡ length (get_or rows m [])
    others m o d (inl l) = ap length (get_or-set_other new e m z [] d) ∙ (all m (omega (arith, l, length-set rows b x, t.rows_long))).1 ∙ ap length (same m o)
    others m o d (inr l) = ap length (get_or-set_other new e m z [] d ∙ get_or_past new m [] (omega (arith, l, ln)) ∙ sym (get_or_past rows m [] (omega (arith, l, t.rows_long))))

    middle : (m k : ℕ) → m ≢ b → (m < n) ⊎ (n ≤ m) → row_of new m k ≡ replacing b e (line_of b e rows) (row_of rows m) k
    middle m k o (inl l) = (all m (omega (arith, l, length-set rows b x, t.rows_long))).0 k ∙ ap (λ (row : List Number). replacing b e (vector_of T) (vector_of row) k) (same m o)
        ∙ ap (λ (line : Vector). replacing b e line (row_of rows m) k) line
    middle m k o (inr l) =
        let none : get_or rows m [] ≡ [] = get_or_past rows m [] (omega (arith, l, t.rows_long)) in
        ap (λ (row : List Number). vector_of row k) (get_or_past new m [] (omega (arith, l, ln)) ∙ sym none)
        ∙ replace_none (get_or rows m []) T b e t.apart (ap (λ (row : List Number). vector_of row b) none ∙ empty_at [] b refl) (ap (λ (row : List Number). vector_of row e) none ∙ empty_at [] e refl) k
        ∙ ap (λ (line : Vector). replacing b e line (row_of rows m) k) line

    table : (k m : ℕ) → row_of (set new e z) m k ≡ put (put (λ m. replacing b e (line_of b e rows) (row_of rows m)) b (λ k. zero_ℚ)) e (line_of b e rows) m k
    table k = at_three (λ m. row_of (set new e z) m k ≡ put (put (λ m. replacing b e (line_of b e rows) (row_of rows m)) b (λ k. zero_ℚ)) e (line_of b e rows) m k) b e
        (ap (λ (row : List Number). vector_of row k) (get_or-set_same new e z [] le ∙ ez) ∙ ap (λ (f : Vector). f k) line
        ∙ ap (λ (f : Vector). f k) (sym (put-same (put (λ m. replacing b e (line_of b e rows) (row_of rows m)) b (λ k. zero_ℚ)) e (line_of b e rows))))
        (λ o. ap (λ (row : List Number). vector_of row k) (get_or-set_other new e b z [] o) ∙ empty_at (get_or new b []) k ((all b lb).1 ∙ ap length (at_b n b e rows x p t) ∙ s.empty)
        ∙ ap (λ (f : Vector). f k) (sym (put-other (put (λ m. replacing b e (line_of b e rows) (row_of rows m)) b (λ k. zero_ℚ)) e (line_of b e rows) b o ∙ put-same (λ m. replacing b e (line_of b e rows) (row_of rows m)) b (λ k. zero_ℚ))))
        (λ m d o. ap (λ (row : List Number). vector_of row k) (get_or-set_other new e m z [] d) ∙ middle m k o (below_or_past m n)
        ∙ ap (λ (f : Vector). f k) (sym (put-other (put (λ m. replacing b e (line_of b e rows) (row_of rows m)) b (λ k. zero_ℚ)) e (line_of b e rows) m d ∙ put-other (λ m. replacing b e (line_of b e rows) (row_of rows m)) b (λ k. zero_ℚ) m o)))

-- ---- room
row_fits_same : (n n' b e : ℕ) (line line' : Vector) (row row' : List Number) → n ≡ n' → line ≡ line' → row ≡ row' → RowFits n b e line (vector_of row) → RowFits n' b e line' (vector_of row')
row_fits_same n n' b e line line' row row' en el er h = subst (λ (r : List Number). RowFits n' b e line' (vector_of r)) er (subst (λ (l : Vector). RowFits n' b e l (vector_of row)) el (subst (λ k. RowFits k b e line (vector_of row)) en h))

pub fits_all : (n b e : ℕ) (rows : List (List Number)) (x y T p : List Number) → AreTurnable n b e rows p → Stepped n b e rows x y T
    → TurnFits (length y) b e (vector_of y) → ((m : ℕ) → m < length (set rows b x) → RowFits (length T) b e (vector_of T) (row_of (set rows b x) m)) → RowFits (length T) b e (vector_of T) (vector_of p) → TurningFits n b e rows p
fits_all n b e rows x y T p t s tf rf pf = record {
  line = subst (λ (r : List Number). TurnFits n b e (vector_of r)) s.row (subst (λ k. TurnFits k b e (vector_of y)) (ap length s.row ∙ t.leaving) tf);
  each_row = λ m l o. row_fits_same (length T) n b e (vector_of T) (line_of b e rows) (get_or (set rows b x) m []) (get_or rows m []) s.long (line_is n b e rows x y T s) (get_or-set_other rows b m x [] o)
      (rf m (omega (arith, l, length-set rows b x, t.rows_long)));
  price_row = row_fits_same (length T) n b e (vector_of T) (line_of b e rows) p p s.long (line_is n b e rows x y T s) refl pf;
}

pub fits_rows : (n b e : ℕ) (rows : List (List Number)) (x y T p : List Number) → AreTurnable n b e rows p → Stepped n b e rows x y T → TurningFits n b e rows p
    → (m : ℕ) → m < length (set rows b x) → RowFits (length T) b e (vector_of T) (row_of (set rows b x) m)
fits_rows n b e rows x y T p t s f m l = by (cases_eq m b)
  where
    none : m ≡ b → (k : ℕ) → row_of (set rows b x) m k ≡ zero_ℚ
    none q k = ap (λ (row : List Number). vector_of row k) (ap (λ j. get_or (set rows b x) j []) q ∙ at_b n b e rows x p t) ∙ empty_at x k s.empty

    by : (m ≡ b) ⊎ (m ≢ b) → RowFits (length T) b e (vector_of T) (row_of (set rows b x) m)
    by (inl q) = record { leaving = λ o. absurd (o (none q e)); others = λ k lk ob oe o. absurd (o (none q e)) }
    by (inr o) = row_fits_same n (length T) b e (line_of b e rows) (vector_of T) (get_or rows m []) (get_or (set rows b x) m []) (sym s.long) (sym (line_is n b e rows x y T s)) (sym (get_or-set_other rows b m x [] o))
        (f.each_row m (omega (arith, l, length-set rows b x, t.rows_long)) o)
