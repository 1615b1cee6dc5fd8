-- What footprints say of two columns.
use Rattle.std.proofs.Common.{◌≡◌, ◌≢◌, ◌⊎◌, inl, inr, ℕ, zero, suc, ◌+◌, ◌-◌, ◌/◌, ◌%◌, ◌<◌, ◌≤◌, Bool, true, false, not, ◌&&◌, ◌||◌, List, [], ◌∷◌, length, get_or, take, drop, bit_or, refl, sym, ap, ap₂, ◌∙◌, subst, arith, Option, Some, None}
use Rattle.std.specs.Prelude.{if◌then◌else◌, is_none}
use lib.Arith.{bin_ind}
use lib.Bits.{or_self, or_zero_r}
use Rattle.std.proofs.lemmas.Nat.{or_comm, or_mod, or_shr}
use Rattle.std.proofs.Math.Seq.{take-length}
use Rattle.std.proofs.lemmas.Bool.{and_parts, false≢true, and_from, cases_eq, cases_order}
use Rattle.fractions.specs.Number.{Number, zero_ℚ}
use Rattle.fractions.specs.Compare.{le_ℚ, lt_ℚ}
use Rattle.fractions.specs.Comparisons.{eq_ℚ-is, le_ℚ-is, lt_ℚ-is, lt_ℚ-not}
use Rattle.fractions.specs.Order.{≤ℚ_refl}
use Rattle.fractions.specs.Signs.{<ℚ-≤ℚ_trans, ≤ℚ-<ℚ}
use Rattle.lp_model.specs.declared.terms.Term.{Term}
use Rattle.lp_model.specs.Sparse.{Ascends, dense, has}
use Rattle.problem_model.specs.declared.part.Contents.TheVariants as holding
use Rattle.problem_model.specs.declared.part.Part.TheVariants as part
use Rattle.problem_model.specs.Matrices.{line_at, live_only}
use Rattle.problem_model.specs.declared.line.Line.{Line}
use Rattle.problem_model.specs.Parts.{contents_of}
use Rattle.problem_model.specs.Problems.{row_at, sides_at}
use Rattle.problem_model.specs.Sparse.{Sparse}
use Rattle.problem_laws.proofs.Terms.{dense-absent, dense-cons_other, dense-cons_same, has-below, not_both}
use Rattle.dual_laws.specs.DominatedColumn.{takes_over}
use Rattle.dual_laws.specs.Locks.{is_uncrossed}
use Rattle.dual_rules.specs.Footprints.{IsWithin, asked, asks, bits_of, mark, offered, offers}
use Rattle.dual_rules.specs.Merging.{admits, all_admit}
use Rattle.dual_rules.proofs.Merging.{admits_at, admits_at_second}

-- ---- or of bits
digit : (x y z : ℕ) → x < 2 → y < 2 → z < 2 → bit_or (bit_or x y) z ≡ bit_or x (bit_or y z)
digit zero y z hx hy hz = refl
digit (suc zero) zero z hx hy hz = refl
digit (suc zero) (suc zero) zero hx hy hz = refl
digit (suc zero) (suc zero) (suc zero) hx hy hz = refl
digit (suc zero) (suc zero) (suc (suc z)) hx hy hz = absurd (omega (arith, hz))
digit (suc zero) (suc (suc y)) z hx hy hz = absurd (omega (arith, hy))
digit (suc (suc x)) y z hx hy hz = absurd (omega (arith, hx))

by_digits : (a b : ℕ) → a / 2 ≡ b / 2 → a % 2 ≡ b % 2 → a ≡ b
by_digits a b h l = omega (arith, h, l)

or_assoc : (a b c : ℕ) → bit_or (bit_or a b) c ≡ bit_or a (bit_or b c)
or_assoc = bin_ind (λ (n : ℕ). (b c : ℕ) → bit_or (bit_or n b) c ≡ bit_or n (bit_or b c)) (λ b c. refl)
    (λ n ih b c. by_digits (bit_or (bit_or n b) c) (bit_or n (bit_or b c))
    (or_shr (bit_or n b) c 1 ∙ ap (λ (x : ℕ). bit_or x (c / 2)) (or_shr n b 1) ∙ ih (b / 2) (c / 2) ∙ sym (or_shr n (bit_or b c) 1 ∙ ap (bit_or (n / 2)) (or_shr b c 1)))
    (or_mod (bit_or n b) c 1 ∙ ap (λ (x : ℕ). bit_or x (c % 2)) (or_mod n b 1) ∙ digit (n % 2) (b % 2) (c % 2) (omega arith) (omega arith) (omega arith) ∙ sym (or_mod n (bit_or b c) 1 ∙ ap (bit_or (n % 2)) (or_mod b c 1))))

-- ---- sets within others
within_both : (a b c : ℕ) → IsWithin a c → IsWithin b c → IsWithin (bit_or a b) c
within_both a b c f g = or_assoc a b c ∙ ap (bit_or a) g ∙ f

within_first : (a b : ℕ) → IsWithin a (bit_or a b)
within_first a b = sym (or_assoc a a b) ∙ ap (λ (x : ℕ). bit_or x b) (or_self a)

within_more : (a b c : ℕ) → IsWithin a c → IsWithin a (bit_or b c)
within_more a b c f = sym (or_assoc a b c) ∙ ap (λ (x : ℕ). bit_or x c) (or_comm a b) ∙ or_assoc b a c ∙ ap (bit_or b) f

within_trans : (a b c : ℕ) → IsWithin a b → IsWithin b c → IsWithin a c
within_trans a b c f g = ap (bit_or a) (sym g) ∙ sym (or_assoc a b c) ∙ ap (λ (x : ℕ). bit_or x c) f ∙ g

-- ---- the bits of the terms of two columns, where each row adds none in the first that it doesn't in the second, and none for 0
module _ (f : ℕ → Number → ℕ) (none : (i : ℕ) → f i zero_ℚ ≡ 0) where
  abbrev Below : List Term → List Term → Type 0
  Below ts us = (i : ℕ) → IsWithin (f i (dense ts i)) (f i (dense us i))

  nothing : (i : ℕ) (b : ℕ) → IsWithin (f i zero_ℚ) b
  nothing i b = ap (λ (x : ℕ). bit_or x b) (none i)

  -- what a row adds is among all
  is_among : (k n i : ℕ) (us : List Term) → Ascends k n us → IsWithin (f i (dense us i)) (bits_of f us)
  is_among k n i [] b = nothing i 0
  is_among k n i (u ∷ us) b = by (cases_eq u.id i) (is_among (suc u.id) n i us b.3)
    where
      by : (u.id ≡ i) ⊎ (u.id ≢ i) → IsWithin (f i (dense us i)) (bits_of f us) → IsWithin (f i (dense (u ∷ us) i)) (bits_of f (u ∷ us))
      by (inl e) ih = subst (λ (x : ℕ). IsWithin x (bits_of f (u ∷ us))) (ap (λ (m : ℕ). f m u.value) e ∙ ap (f i) (sym (dense-cons_same u us i e))) (within_first (f u.id u.value) (bits_of f us))
      by (inr d) ih = subst (λ (x : ℕ). IsWithin x (bits_of f (u ∷ us))) (ap (f i) (sym (dense-cons_other u us i d))) (within_more (f i (dense us i)) (f u.id u.value) (bits_of f us) ih)

  all_among : (k n : ℕ) (ts : List Term) (c : ℕ) → Ascends k n ts → ((i : ℕ) → IsWithin (f i (dense ts i)) c) → IsWithin (bits_of f ts) c
  all_among k n [] c a h = refl
  all_among k n (t ∷ ts) c a h = within_both (f t.id t.value) (bits_of f ts) c own (all_among (suc t.id) n ts c a.3 rest)
    where
      own : IsWithin (f t.id t.value) c
      own = subst (λ (x : Number). IsWithin (f t.id x) c) (dense-cons_same t ts t.id refl) (h t.id)

      rest : (i : ℕ) → IsWithin (f i (dense ts i)) c
      rest i = by (cases_eq t.id i)
        where
          by : (t.id ≡ i) ⊎ (t.id ≢ i) → IsWithin (f i (dense ts i)) c
          by (inl e) = subst (λ (x : Number). IsWithin (f i x) c) (sym (dense-absent i ts (has-below ts (suc t.id) n i a.3 (omega (arith, e))))) (nothing i c)
          by (inr d) = subst (λ (x : Number). IsWithin (f i x) c) (dense-cons_other t ts i d) (h i)

  bits_below : (n : ℕ) (ts us : List Term) → Ascends 0 n ts → Ascends 0 n us → Below ts us → IsWithin (bits_of f ts) (bits_of f us)
  bits_below n ts us a b h = all_among 0 n ts (bits_of f us) a (λ i. within_trans (f i (dense ts i)) (f i (dense us i)) (bits_of f us) (h i) (is_among 0 n i us b))

-- ---- one row
abbrev adds : Option Number → Option Number → ℕ → Number → ℕ
adds l u i a = if asks l u a then mark l u i a else 0

neither : (r s : Bool) → ((r && false) || (s && false)) ≡ false
neither true true = refl
neither true false = refl
neither false true = refl
neither false false = refl

upward : (r s : Bool) → ((r && true) || (s && false)) ≡ r
upward true s = refl
upward false true = refl
upward false false = refl

downward : (r s : Bool) → ((r && false) || (s && true)) ≡ s
downward true true = refl
downward true false = refl
downward false true = refl
downward false false = refl

if_below : (a b : Bool) (n : ℕ) → (a ≡ true → b ≡ true) → IsWithin (if a then n else 0) (if b then n else 0)
if_below true b n h = subst (λ (c : Bool). IsWithin n (if c then n else 0)) (sym (h refl)) (or_self n)
if_below false b n h = refl

pub moved : (a b c d : ℕ) → a ≡ c → b ≡ d → IsWithin c d → IsWithin a b
moved a b c d e f h = ap₂ bit_or e f ∙ h ∙ sym f

rises_on : (x y : Number) → le_ℚ x y ≡ true → lt_ℚ zero_ℚ x ≡ true → lt_ℚ zero_ℚ y ≡ true
rises_on x y h g = (lt_ℚ-is zero_ℚ y).1 (<ℚ-≤ℚ_trans ((lt_ℚ-is zero_ℚ x).0 g) ((le_ℚ-is x y).0 h))

falls_on : (x y : Number) → le_ℚ y x ≡ true → lt_ℚ x zero_ℚ ≡ true → lt_ℚ y zero_ℚ ≡ true
falls_on x y h g = (lt_ℚ-is y zero_ℚ).1 (≤ℚ-<ℚ ((le_ℚ-is y x).0 h) ((lt_ℚ-is x zero_ℚ).0 g))

adds_below : (l u : Option Number) (i : ℕ) (x y : Number) → takes_over x y (holding.Sides l u) ≡ true → IsWithin (adds l u i x) (adds l u i y)
adds_below None None i x y h = let e : adds None None i x ≡ 0 = ap (λ (b : Bool). if b then mark None None i x else 0) (neither (lt_ℚ zero_ℚ x) (lt_ℚ x zero_ℚ)) in ap (λ (m : ℕ). bit_or m (adds None None i y)) e
adds_below None (Some q) i x y h =
    let n : ℕ = mark None (Some q) i x in
    let g = (and_parts (le_ℚ x y) true h).0 in
    let e : adds None (Some q) i x ≡ (if lt_ℚ zero_ℚ x then n else 0) = ap (λ (b : Bool). if b then n else 0) (upward (lt_ℚ zero_ℚ x) (lt_ℚ x zero_ℚ)) in
    let f : adds None (Some q) i y ≡ (if lt_ℚ zero_ℚ y then n else 0) = ap (λ (b : Bool). if b then n else 0) (upward (lt_ℚ zero_ℚ y) (lt_ℚ y zero_ℚ)) in
    moved _ _ _ _ e f (if_below (lt_ℚ zero_ℚ x) (lt_ℚ zero_ℚ y) n (rises_on x y g))
adds_below (Some q) None i x y h =
    let n : ℕ = mark (Some q) None i x in
    let e : adds (Some q) None i x ≡ (if lt_ℚ x zero_ℚ then n else 0) = ap (λ (b : Bool). if b then n else 0) (downward (lt_ℚ zero_ℚ x) (lt_ℚ x zero_ℚ)) in
    let f : adds (Some q) None i y ≡ (if lt_ℚ y zero_ℚ then n else 0) = ap (λ (b : Bool). if b then n else 0) (downward (lt_ℚ zero_ℚ y) (lt_ℚ y zero_ℚ)) in
    moved _ _ _ _ e f (if_below (lt_ℚ x zero_ℚ) (lt_ℚ y zero_ℚ) n (falls_on x y h))
adds_below (Some q) (Some r) i x y h =
    let same : x ≡ y = (eq_ℚ-is x y).0 h in
    let e : adds (Some q) (Some r) i x ≡ adds (Some q) (Some r) i y = ap (adds (Some q) (Some r) i) same in
    ap (λ (m : ℕ). bit_or m (adds (Some q) (Some r) i y)) e ∙ or_self (adds (Some q) (Some r) i y)

turned : (a b : Bool) → (a && b) ≡ true → (b && a) ≡ true
turned a b h = let g = and_parts a b h in and_from b a g.1 g.0

mark_turned : (l u : Option Number) (i : ℕ) (a : Number) → mark u l i a ≡ mark l u i a
mark_turned None None i a = refl
mark_turned None (Some q) i a = refl
mark_turned (Some q) None i a = refl
mark_turned (Some q) (Some r) i a = refl

-- what is offered, the other way round
gives_below : (l u : Option Number) (i : ℕ) (x y : Number) → takes_over x y (holding.Sides l u) ≡ true → IsWithin (if offers l u y then mark l u i y else 0) (if offers l u x then mark l u i x else 0)
gives_below l u i x y h =
    let w = adds_below u l i y x (turned (is_none u || le_ℚ x y) (is_none l || le_ℚ y x) h) in
    let e : (if offers l u y then mark l u i y else 0) ≡ adds u l i y = ap (λ (n : ℕ). if offers l u y then n else 0) (sym (mark_turned l u i y)) in
    let f : (if offers l u x then mark l u i x else 0) ≡ adds u l i x = ap (λ (n : ℕ). if offers l u x then n else 0) (sym (mark_turned l u i x)) in
    moved _ _ _ _ e f w

-- ---- two columns
zero_still : lt_ℚ zero_ℚ zero_ℚ ≡ false
zero_still = lt_ℚ-not zero_ℚ zero_ℚ ∙ ap not ((le_ℚ-is zero_ℚ zero_ℚ).1 (≤ℚ_refl zero_ℚ))

asks_nothing : (l u : Option Number) → asks l u zero_ℚ ≡ false
asks_nothing l u = ap₂ (λ (r s : Bool). (r && not (is_none u)) || (s && not (is_none l))) zero_still zero_still

module _ (p : Sparse) where
  asked_none : (i : ℕ) → asked p i zero_ℚ ≡ 0
  asked_none i = ap (λ (b : Bool). if b then mark (sides_at p i).lower (sides_at p i).upper i zero_ℚ else 0) (asks_nothing (sides_at p i).lower (sides_at p i).upper)

  offered_none : (i : ℕ) → offered p i zero_ℚ ≡ 0
  offered_none i = ap (λ (b : Bool). if b then mark (sides_at p i).lower (sides_at p i).upper i zero_ℚ else 0) (asks_nothing (sides_at p i).upper (sides_at p i).lower)

  abbrev there : ℕ → Bool → Type 0
  there i on = (x y : Number) → takes_over x y (if on then holding.Sides (sides_at p i).lower (sides_at p i).upper else holding.Gone) ≡ true → takes_over x y (holding.Sides (sides_at p i).lower (sides_at p i).upper) ≡ true

  in_live : (i : ℕ) (on : Bool) → there i on
  in_live i true x y h = h
  in_live i false x y h = absurd (not_both h refl)

  taken : (i : ℕ) (x y : Number) → admits x y (contents_of p (part.Sides i)) ≡ true → takes_over x y (holding.Sides (sides_at p i).lower (sides_at p i).upper) ≡ true
  taken i x y h = in_live i (row_at p i).live x y (and_parts (is_uncrossed (contents_of p (part.Sides i))) (takes_over x y (contents_of p (part.Sides i))) h).1

  module _ (ts us : List Term) (all : all_admit p ts us ≡ true) where
    abbrev Taken : ℕ → Type 0
    Taken i = takes_over (dense ts i) (dense us i) (holding.Sides (sides_at p i).lower (sides_at p i).upper) ≡ true

    -- the row takes the one for the other, or neither has an entry there
    at : (i : ℕ) → Taken i ⊎ ((dense ts i ≡ zero_ℚ) × (dense us i ≡ zero_ℚ))
    at i = by (has i ts) refl (has i us) refl
      where
        by : (a : Bool) → has i ts ≡ a → (b : Bool) → has i us ≡ b → Taken i ⊎ ((dense ts i ≡ zero_ℚ) × (dense us i ≡ zero_ℚ))
        by true e b g = inl (taken i (dense ts i) (dense us i) (admits_at p ts us i all e))
        by false e true g = inl (taken i (dense ts i) (dense us i) (admits_at_second p ts us i all g))
        by false e false g = inr (dense-absent i ts e, dense-absent i us g)

    asked_at : (i : ℕ) → IsWithin (asked p i (dense ts i)) (asked p i (dense us i))
    asked_at i = elim (at i) [
      | inl h ↦ adds_below (sides_at p i).lower (sides_at p i).upper i (dense ts i) (dense us i) h
      | inr z ↦ ap (λ (m : ℕ). bit_or m (asked p i (dense us i))) (ap (asked p i) (z.0 ∙ sym z.1)) ∙ or_self (asked p i (dense us i))
    ]

    offered_at : (i : ℕ) → IsWithin (offered p i (dense us i)) (offered p i (dense ts i))
    offered_at i = elim (at i) [
      | inl h ↦ gives_below (sides_at p i).lower (sides_at p i).upper i (dense ts i) (dense us i) h
      | inr z ↦ ap (λ (m : ℕ). bit_or m (offered p i (dense ts i))) (ap (offered p i) (z.1 ∙ sym z.0)) ∙ or_self (offered p i (dense ts i))
    ]

  -- a column that stands in for another asks no more, and offers no less
  pub asks_no_more : (n : ℕ) (ts us : List Term) → Ascends 0 n ts → Ascends 0 n us → all_admit p ts us ≡ true → IsWithin (bits_of (asked p) ts) (bits_of (asked p) us)
  asks_no_more n ts us a b all = bits_below (asked p) asked_none n ts us a b (asked_at ts us all)

  pub offers_no_less : (n : ℕ) (ts us : List Term) → Ascends 0 n ts → Ascends 0 n us → all_admit p ts us ≡ true → IsWithin (bits_of (offered p) us) (bits_of (offered p) ts)
  offers_no_less n ts us a b all = bits_below (offered p) offered_none n us ts b a (offered_at ts us all)

-- ---- bits of live terms, one after the other
with_live_one : (f : ℕ → Number → ℕ) (rows : List Line) (t : Term) (ts : List Term) (s : ℕ) → bit_or (bit_or s (bits_of f (live_only rows (t ∷ [])))) (bits_of f (live_only rows ts)) ≡ bit_or s (bits_of f (live_only rows (t ∷ ts)))
with_live_one f rows t ts s = by (line_at rows t.id).live
  where
    by : (b : Bool) → bit_or (bit_or s (bits_of f (if b then t ∷ [] else []))) (bits_of f (live_only rows ts)) ≡ bit_or s (bits_of f (if b then t ∷ live_only rows ts else live_only rows ts))
    by true = or_assoc s (bit_or (f t.id t.value) 0) (bits_of f (live_only rows ts)) ∙ ap (λ (x : ℕ). bit_or s (bit_or x (bits_of f (live_only rows ts)))) (or_zero_r (f t.id t.value))
    by false = ap (λ (x : ℕ). bit_or x (bits_of f (live_only rows ts))) (or_zero_r s)

pub one_counted : (f : ℕ → Number → ℕ) (s r : ℕ) (t : Term) (live : Bool) → live ≡ true → r ≡ bit_or s (f t.id t.value) → r ≡ bit_or s (bits_of f (if live then t ∷ [] else []))
one_counted f s r t true e h = h ∙ ap (bit_or s) (sym (or_zero_r (f t.id t.value)))
one_counted f s r t false e h = absurd (false≢true e)

pub none_counted : (f : ℕ → Number → ℕ) (s : ℕ) (t : Term) (live : Bool) → live ≡ false → s ≡ bit_or s (bits_of f (if live then t ∷ [] else []))
none_counted f s t false e = sym (or_zero_r s)
none_counted f s t true e = absurd (false≢true (sym e))

-- the entry at the front of what is left is counted
pub next_bits : (f : ℕ → Number → ℕ) (rows : List Line) (t : Term) (rs : List Term) (s u all : ℕ) → 1 ≤ length rs → t ≡ get_or rs 0 t → u ≡ bit_or s (bits_of f (live_only rows (t ∷ []))) → bit_or s (bits_of f (live_only rows rs)) ≡ all
    → bit_or u (bits_of f (live_only rows (take (length rs - 1) (drop 1 rs)))) ≡ all
next_bits f rows t [] s u all l e a b = absurd (omega (arith, l))
next_bits f rows t (v ∷ rs) s u all l e a b =
    let n : length rs ≡ length (v ∷ rs) - 1 = omega arith in
    let r : rs ≡ take (length (v ∷ rs) - 1) rs = sym (take-length rs) ∙ ap (λ m. take m rs) n in
    subst (λ (xs : List Term). bit_or u (bits_of f (live_only rows xs)) ≡ all) r
    (ap (λ (x : ℕ). bit_or x (bits_of f (live_only rows rs))) a ∙ with_live_one f rows t rs s ∙ subst (λ (w : Term). bit_or s (bits_of f (live_only rows (w ∷ rs))) ≡ all) (sym e) b)

pub all_bits : (f : ℕ → Number → ℕ) (rows : List Line) (rs : List Term) (s all : ℕ) → length rs < 1 → bit_or s (bits_of f (live_only rows rs)) ≡ all → s ≡ all
all_bits f rows [] s all l h = sym (or_zero_r s) ∙ h
all_bits f rows (t ∷ rs) s all l h = absurd (omega (arith, l))

pub refuted : (b : Bool) → (b ≡ true → ⊥) → b ≡ false
refuted true h = absurd (h refl)
refuted false h = refl
