-- The sum of a column's entries, each times the dual of its row, while the entries are gone through.
use Rattle.std.proofs.Common.{get_or, ◌≡◌, ◌≢◌, ℕ, zero, suc, ◌+◌, ◌-◌, ◌<◌, ◌≤◌, List, [], ◌∷◌, length, map, Some, refl, sym, ap, ◌∙◌, subst, arith, add-one}
use Rattle.std.proofs.lemmas.List.{length-map}
use Rattle.fractions.specs.Number.{Number, neg_ℚ, zero_ℚ, ◌+ℚ◌, ◌*ℚ◌, zero-*ℚ, *ℚ_comm, +ℚ_comm, zero-+ℚ}
use Rattle.fractions.specs.Total.{total}
use Rattle.fractions.proofs.Totals.{put-same, put-other}
use Rattle.fractions.specs.Room.{Room}
use Rattle.exact_numbers.specs.Nothing.{AddsNothing}
use Rattle.exact_numbers.proofs.ById.{mapped-at}
use Rattle.lp_model.specs.declared.terms.Term.{Term}
use Rattle.lp_model.specs.declared.program.ColumnDef.{ColumnDef}
use Rattle.lp_model.specs.Vectors.{Vector, vector_of}
use Rattle.lp_model.specs.ProgramData.{ProgramData}
use Rattle.lp_model.specs.Meaning.{meaning, column_at}
use Rattle.lp_model.specs.Sparse.{dense, Ascends}
use Rattle.lp_model.specs.Room.{ProductsFitIn}
use Rattle.lp_theory.proofs.SparseSums.{dense-below}
use Rattle.lp_prices.specs.Prices.{IsSumIn, ReducedCostFitsIn}
use Rattle.lp_prices.proofs.Sums.{no_room}
use Rattle.lp_prices.proofs.Steps.{sum_more}

-- a product with the number 0 changes nothing
zero_number : (m : Room) (adds : AddsNothing m) (n : ℕ) (a x : Vector) (s : Number) → x n ≡ zero_ℚ → IsSumIn m n a x (Some s) → IsSumIn m (n + 1) a x (Some s)
zero_number m adds n a x s e h =
    let product : a n *ℚ x n ≡ zero_ℚ = ap (λ c. a n *ℚ c) e ∙ *ℚ_comm (a n) zero_ℚ ∙ zero-*ℚ (a n) in
    sum_more m n a x s (a n) (x n) s refl refl
    (sym (ap (λ p. s +ℚ p) product ∙ +ℚ_comm s zero_ℚ ∙ zero-+ℚ s))
    h.2
    (rw product (adds.zero, adds.sum s h.2))
    h

-- nor do d of them
zero_numbers : (m : Room) (adds : AddsNothing m) (d n last : ℕ) (a x : Vector) (s : Number) → n + d ≡ last → ((i : ℕ) → n ≤ i → i < last → x i ≡ zero_ℚ) → IsSumIn m n a x (Some s) → IsSumIn m last a x (Some s)
zero_numbers m adds zero n last a x s e none h = let same : n ≡ last = omega (arith, e) in subst (λ k. IsSumIn m k a x (Some s)) same h
zero_numbers m adds (suc d) n last a x s e none h =
    let more : n + d + 1 ≡ last = omega (arith, e) in
    subst (λ k. IsSumIn m k a x (Some s)) more
    (zero_number m adds (n + d) a x s (none (n + d) (omega arith) (omega (arith, e)))
    (zero_numbers m adds d n (n + d) a x s refl (λ i low high. none i low (omega (arith, high, e))) h))

zeros_to : (m : Room) (adds : AddsNothing m) (n last : ℕ) (a x : Vector) (s : Number) → n ≤ last → ((i : ℕ) → n ≤ i → i < last → x i ≡ zero_ℚ) → IsSumIn m n a x (Some s) → IsSumIn m last a x (Some s)
zeros_to m adds n last a x s l none h = zero_numbers m adds (last - n) n last a x s (omega (arith, l)) none h

-- the sum over the first rows; the terms that are left have the numbers of the others
pub record Pricing (m : Room) (rows : ℕ) (y : Vector) (terms rest : List Term) (s : Number) : Type 0 where
  pub next : ℕ
  pub few : next ≤ rows
  pub sum : IsSumIn m next y (dense terms) (Some s)
  pub ascends : Ascends next rows rest
  pub left : (i : ℕ) → next ≤ i → dense rest i ≡ dense terms i

pub pricing_none : (m : Room) (adds : AddsNothing m) (rows : ℕ) (y : Vector) (terms : List Term) (s : Number) → s ≡ zero_ℚ → Ascends 0 rows terms → Pricing m rows y terms terms s
unfolding total
pricing_none m adds rows y terms s e ascends = record {
  next = 0;
  few = omega arith;
  sum = rw e (refl, tt, adds.zero);
  ascends = ascends;
  left = λ i l. refl;
}

-- at a term all rows before its own are counted
reached : (m : Room) (adds : AddsNothing m) (rows : ℕ) (y : Vector) (terms after : List Term) (t : Term) (s : Number) → Pricing m rows y terms (t ∷ after) s → IsSumIn m t.id y (dense terms) (Some s)
reached m adds rows y terms after t s p =
    zeros_to m adds p.next t.id y (dense terms) s p.ascends.0
    (λ i low high. sym (p.left i low) ∙ dense-below (t ∷ after) t.id rows i (omega arith, p.ascends.1, p.ascends.2, p.ascends.3) high)
    p.sum

number_here : (m : Room) (rows : ℕ) (y : Vector) (terms after : List Term) (t : Term) (s : Number) → Pricing m rows y terms (t ∷ after) s → t.value ≡ dense terms t.id
number_here m rows y terms after t s p = sym (put-same (dense after) t.id t.value) ∙ p.left t.id p.ascends.0

-- a product has room either way round
turned : (m : Room) (s p q : Number) → m.number (p *ℚ q) × m.sum s (p *ℚ q) → m.number (q *ℚ p) × m.sum s (q *ℚ p)
turned m s p q h = (subst (λ t. m.number t) (*ℚ_comm p q) h.0, subst (λ t. m.sum s t) (*ℚ_comm p q) h.1)

-- one more term
pub pricing_more : (m : Room) (adds : AddsNothing m) (rows : ℕ) (y : Vector) (terms rest after : List Term) (t : Term) (s f r : Number) → rest ≡ t ∷ after → f ≡ y t.id → r ≡ s +ℚ t.value *ℚ f → m.number r → m.number (t.value *ℚ f) × m.sum s (t.value *ℚ f)
    → Pricing m rows y terms rest s → Pricing m rows y terms after r
pricing_more m adds rows y terms rest after t s f r is ef er room fits old =
    let p : Pricing m rows y terms (t ∷ after) s = subst (λ us. Pricing m rows y terms us s) is old in
    record {
      next = suc t.id;
      few = omega (arith, p.ascends.1);
      sum = subst (λ k. IsSumIn m k y (dense terms) (Some r)) (add-one t.id) (sum_more m t.id y (dense terms) s f t.value r ef (number_here m rows y terms after t s p) (er ∙ ap (λ p. s +ℚ p) (*ℚ_comm t.value f)) room (turned m s t.value f fits) (reached m adds rows y terms after t s p));
      ascends = p.ascends.3;
      left = λ i l. let apart : i ≢ t.id = omega (arith, l) in sym (put-other (dense after) t.id t.value i apart) ∙ p.left i (omega (arith, l, p.ascends.0));
    }

-- a term whose product or sum has no room
pub pricing_past : (m : Room) (adds : AddsNothing m) (rows : ℕ) (y : Vector) (terms rest after : List Term) (t : Term) (s f : Number) → rest ≡ t ∷ after → f ≡ y t.id → (m.number (t.value *ℚ f) × m.sum s (t.value *ℚ f) → ⊥)
    → Pricing m rows y terms rest s → ProductsFitIn m rows y (dense terms) → ⊥
pricing_past m adds rows y terms rest after t s f is ef none old all =
    let p : Pricing m rows y terms (t ∷ after) s = subst (λ us. Pricing m rows y terms us s) is old in
    let here = reached m adds rows y terms after t s p in
    no_room m rows y (dense terms) t.id s f t.value (record { is = here.0; fits = here.1 }) ef (number_here m rows y terms after t s p) p.ascends.1 (λ both. none (turned m s f t.value both)) all

-- no term is left
pub pricing_all : (m : Room) (adds : AddsNothing m) (rows : ℕ) (y : Vector) (terms rest : List Term) (s : Number) → length rest ≡ 0 → Pricing m rows y terms rest s → IsSumIn m rows y (dense terms) (Some s)
pricing_all m adds rows y terms [] s none p = zeros_to m adds p.next rows y (dense terms) s p.few (λ i low high. sym (p.left i low)) p.sum
pricing_all m adds rows y terms (t ∷ rest) s none p = absurd (omega (arith, none))

-- the dual of a term's row, of values that stand for numbers
pub price_at : {X : Type 0} (f : X → Number) (m : Room) (xs : List X) (terms rest after : List Term) (t : Term) (s : Number) (x : X) → rest ≡ t ∷ after → x ≡ get_or xs t.id x
    → Pricing m (length xs) (vector_of (map f xs)) terms rest s → f x ≡ vector_of (map f xs) t.id
price_at f m xs terms rest after t s x is at old = mapped-at f xs (map f xs) t.id x refl long at
  where
    long : t.id < length (map f xs)
    long = subst (λ (n : ℕ). t.id < n) (sym (length-map xs f)) (subst (λ us. Pricing m (length xs) (vector_of (map f xs)) terms us s) is old).ascends.1

-- the reduced cost of a column fits where the sum and the difference do
abbrev FitsIn : Room → List Number → List Term → ColumnDef → Type 0
FitsIn m prices terms d = ProductsFitIn m (length prices) (vector_of prices) (dense terms) × m.sum d.cost (neg_ℚ (total (length prices) (λ i. vector_of prices i *ℚ dense terms i)))

cost_fits_in : (m : Room) (p : ProgramData) (ys prices : List Number) (j : ℕ) (d : ColumnDef) (terms : List Term) (A : Type 0 → Type 0) → d ≡ column_at p j → length ys ≡ length p.rows → prices ≡ ys → terms ≡ d.entries
    → A (FitsIn m prices terms d) → A (ReducedCostFitsIn m (meaning p) (vector_of ys) j)
cost_fits_in m p ys prices j d terms A is long ep et h =
    subst (λ n. A (ProductsFitIn m n (vector_of ys) (dense (column_at p j).entries) × m.sum (column_at p j).cost (neg_ℚ (total n (λ i. vector_of ys i *ℚ dense (column_at p j).entries i))))) long
    (subst (λ e. A (FitsIn m ys e.entries e)) is
    (subst (λ ts. A (FitsIn m ys ts d)) et
    (subst (λ ps. A (FitsIn m ps terms d)) ep h)))

pub cost_fits : (m : Room) (p : ProgramData) (ys prices : List Number) (j : ℕ) (d : ColumnDef) (terms : List Term) (s : Number) → d ≡ column_at p j → length ys ≡ length p.rows → prices ≡ ys → terms ≡ d.entries
    → s ≡ total (length prices) (λ i. vector_of prices i *ℚ dense terms i) → ProductsFitIn m (length prices) (vector_of prices) (dense terms)
    → (m.sum d.cost (neg_ℚ s) → ReducedCostFitsIn m (meaning p) (vector_of ys) j) × ((m.sum d.cost (neg_ℚ s) → ⊥) → ReducedCostFitsIn m (meaning p) (vector_of ys) j → ⊥)
cost_fits m p ys prices j d terms s is long ep et sum fits = (
  (λ f. cost_fits_in m p ys prices j d terms (λ F. F) is long ep et (fits, subst (λ t. m.sum d.cost (neg_ℚ t)) sum f)),
  (λ none. cost_fits_in m p ys prices j d terms (λ F. F → ⊥) is long ep et (λ f. none (subst (λ t. m.sum d.cost (neg_ℚ t)) (sym sum) f.1))),
)

pub cost_past : (m : Room) (p : ProgramData) (ys prices : List Number) (j : ℕ) (d : ColumnDef) (terms : List Term) → d ≡ column_at p j → length ys ≡ length p.rows → prices ≡ ys → terms ≡ d.entries
    → (ProductsFitIn m (length prices) (vector_of prices) (dense terms) → ⊥) → ReducedCostFitsIn m (meaning p) (vector_of ys) j → ⊥
cost_past m p ys prices j d terms is long ep et none = cost_fits_in m p ys prices j d terms (λ F. F → ⊥) is long ep et (λ f. none f.0)
