-- Keys of numbers, of lines and of their multiples.
use Rattle.std.proofs.Common.{◌≡◌, ◌≢◌, ℕ, Bool, true, false, List, [], ◌∷◌, Option, Some, None, Result, Ok, Err, refl, sym, ap, ◌∙◌, subst}
use Rattle.std.specs.Prelude.{if◌then◌else◌}
use Rattle.std.specs.List.{All}
use Rattle.std.proofs.lemmas.List.Elements.{All-head}
use Rattle.fractions.specs.Number.{Number, zero_ℚ}
use Rattle.fractions.specs.Lowest.{over_of, under_of}
use Rattle.fractions.specs.declared.Past.{Past}
use Rattle.lp_model.specs.declared.terms.Term.{Term}
use Rattle.problem_model.specs.declared.line.Line.{Line}
use Rattle.problem_model.specs.Matrices.{live_only}
use Rattle.row_spans.specs.Exact.{fits, if_room}
use Rattle.line_groups.specs.Keys.{first_number, last_number, mixed, with_number, with_parts}

-- ---- a number in a key, as its quotient is made
by_room : ℕ → Number → Bool → ℕ
by_room h q b = if b then with_parts h (over_of q) (under_of q) else mixed h 0

with_number-is : (h : ℕ) (q : Number) → with_number h q ≡ by_room h q (fits q)
unfolding with_number by_room
with_number-is h q = refl

made : (h k : ℕ) (q m : Number) (b : Bool) → Ok m ≡ if_room b q → k ≡ with_parts h (over_of m) (under_of m) → k ≡ by_room h q b
unfolding by_room
made h k q m true e g = let f : m ≡ q = cc in g ∙ ap (λ (x : Number). with_parts h (over_of x) (under_of x)) f
made h k q m false e g = cc

past : (h k : ℕ) (q : Number) (p : Past) (b : Bool) → Err p ≡ if_room b q → k ≡ mixed h 0 → k ≡ by_room h q b
unfolding by_room
past h k q p true e g = cc
past h k q p false e g = g

pub number_ok : (h k : ℕ) (q m : Number) (r : Result Number Past) → r ≡ if_room (fits q) q → r ≡ Ok m → k ≡ with_parts h (over_of m) (under_of m) → k ≡ with_number h q
number_ok h k q m r e f g = made h k q m (fits q) (sym f ∙ e) g ∙ sym (with_number-is h q)

pub number_past : (h k : ℕ) (q : Number) (r : Result Number Past) (p : Past) → r ≡ if_room (fits q) q → r ≡ Err p → k ≡ mixed h 0 → k ≡ with_number h q
number_past h k q r p e f g = past h k q p (fits q) (sym f ∙ e) g ∙ sym (with_number-is h q)

-- ---- entries of lines
pub first_not_zero : (ts : List Term) (q : Number) → All (λ t. t.value ≢ zero_ℚ) ts → Some q ≡ first_number ts → q ≢ zero_ℚ
first_not_zero [] q a e = cc
first_not_zero (t ∷ ts) q a e = let f : q ≡ t.value = cc in λ z. All-head (λ (t : Term). t.value ≢ zero_ℚ) t ts a (sym f ∙ z)

-- of a live line, as they are read
pub read_none_zero : (others os : List Line) (line l : Line) (ts : List Term) → All (λ t. t.value ≢ zero_ℚ) (live_only others line.entries)
    → os ≡ others → l ≡ line → ts ≡ l.entries → All (λ t. t.value ≢ zero_ℚ) (live_only os ts)
read_none_zero others os line l ts a f g h =
    let same : ts ≡ line.entries = h ∙ ap (λ (x : Line). x.entries) g in
    subst (λ (xs : List Line). All (λ t. t.value ≢ zero_ℚ) (live_only xs ts)) (sym f) (subst (λ (us : List Term). All (λ t. t.value ≢ zero_ℚ) (live_only others us)) (sym same) a)

-- ---- the last of some terms
-- the last of these; a number that was the last so far where there are none
abbrev pub last_behind : Option Number → List Term → Option Number
last_behind o [] = o
last_behind o (t ∷ ts) = last_behind (Some t.value) ts

pub last_behind_is : (t : Term) (ts : List Term) → last_behind (Some t.value) ts ≡ last_number (t ∷ ts)
last_behind_is t [] = refl
last_behind_is t (u ∷ ts) = last_behind_is u ts

pub last_begun : (ts : List Term) → last_behind None ts ≡ last_number ts
last_begun [] = refl
last_begun (t ∷ ts) = last_behind_is t ts
