-- The rules by which a run chooses its next step.
use Rattle.std.specs.Prelude.{◌≡◌, ◌⊎◌, ℕ, ◌<◌, ◌≤◌, true, false, nat_eq, if◌then◌else◌, Option, Some, None}
use Rattle.fractions.specs.Number.{Number, zero_ℚ, one_ℚ, ◌-ℚ◌, ◌*ℚ◌, neg_ℚ}
use Rattle.fractions.specs.Order.{◌<ℚ◌}
use Rattle.fractions.specs.Compare.{lt_ℚ}
use Rattle.fractions.specs.Ends.{Between, less, over}
use Rattle.lp_model.specs.LinearProgram.{LinearProgram}
use Rattle.tableau_laws.specs.Variables.{lower_end, upper_end}
use Rattle.tableau_laws.specs.Tableaus.{Tableau}

-- a value is not at its upper end, or at its lower one
abbrev pub CanRise : Option Number → Number → Type 0
CanRise None v = Unit {0}
CanRise (Some u) v = v <ℚ u

abbrev pub CanFall : Option Number → Number → Type 0
CanFall None v = Unit {0}
CanFall (Some l) v = l <ℚ v

-- e may go up where s is positive, and down where s is negative
abbrev pub CanMove : LinearProgram → Tableau → ℕ → Number → Type 0
CanMove M t e s = ((zero_ℚ <ℚ s) × CanRise (upper_end M e) (t.values e)) ⊎ ((s <ℚ zero_ℚ) × CanFall (lower_end M e) (t.values e))

abbrev pub IsWithin : LinearProgram → Tableau → ℕ → Type 0
IsWithin M t k = Between (lower_end M k) (upper_end M k) (t.values k)

-- a value that is past the end `bound`, and which way it has to go: 1 up, -1 down
abbrev pub IsPast : Option Number → Option Number → Number → Number → Number → Type 0
IsPast l u v bound s = ((l ≡ Some bound) × (v <ℚ bound) × (s ≡ one_ℚ)) ⊎ ((u ≡ Some bound) × (bound <ℚ v) × (s ≡ neg_ℚ one_ℚ))

-- b is the least basic variable that is past an end
pub record Leaves (M : LinearProgram) (t : Tableau) (b : ℕ) (bound s : Number) : Type 0 where
  pub within : b < t.size
  pub basic : t.basic b ≡ true
  pub past : IsPast (lower_end M b) (upper_end M b) (t.values b) bound s
  pub least : (k : ℕ) → k < b → t.basic k ≡ true → IsWithin M t k

-- none is
abbrev pub NoneLeaves : LinearProgram → Tableau → Type 0
NoneLeaves M t = (k : ℕ) → k < t.size → t.basic k ≡ true → IsWithin M t k

-- e is the least variable that is not basic and may go where `to` points
pub record Enters (M : LinearProgram) (t : Tableau) (to : ℕ → Number) (e : ℕ) : Type 0 where
  pub within : e < t.size
  pub other : t.basic e ≡ false
  pub moves : CanMove M t e (to e)
  pub least : (k : ℕ) → k < e → t.basic k ≡ false → CanMove M t k (to k) → ⊥

-- none may
abbrev pub NoneEnters : LinearProgram → Tableau → (ℕ → Number) → Type 0
NoneEnters M t to = (k : ℕ) → k < t.size → t.basic k ≡ false → CanMove M t k (to k) → ⊥

-- phase 1: where b has to go by s, each variable points where it takes b there
abbrev pub towards : Tableau → ℕ → Number → ℕ → Number
towards t b s k = s *ℚ t.table b k

-- phase 2: where a variable's price is negative, up
abbrev pub downhill : Tableau → ℕ → Number
downhill t k = neg_ℚ (t.prices k)

-- the direction of e: 1 up, -1 down
abbrev pub direction : Tableau → ℕ → Number
direction t e = if lt_ℚ (t.prices e) zero_ℚ then one_ℚ else neg_ℚ one_ℚ

-- the end to which the variable m goes where e goes by f, if any
abbrev pub end_ahead : LinearProgram → Tableau → ℕ → Number → ℕ → Option Number
end_ahead M t e f m = if lt_ℚ zero_ℚ (t.table m e *ℚ f) then upper_end M m else if lt_ℚ (t.table m e *ℚ f) zero_ℚ then lower_end M m else None

abbrev pub own_width : Option Number → Option Number → Option Number
own_width None u = None
own_width (Some l) None = None
own_width (Some l) (Some u) = Some (u -ℚ l)

-- how far e can go by f until m is at an end
abbrev pub limit : LinearProgram → Tableau → ℕ → Number → ℕ → Option Number
limit M t e f m = if nat_eq m e then own_width (lower_end M e) (upper_end M e) else over (less (end_ahead M t e f m) (t.values m)) (t.table m e *ℚ f)

abbrev pub NoLimit : LinearProgram → Tableau → ℕ → Number → Type 0
NoLimit M t e f = (m : ℕ) → m < t.size → limit M t e f m ≡ None

-- the least limit is s, first at m
pub record Stops (M : LinearProgram) (t : Tableau) (e : ℕ) (f : Number) (m : ℕ) (s : Number) : Type 0 where
  pub within : m < t.size
  pub limits : limit M t e f m ≡ Some s
  pub least : (k : ℕ) (r : Number) → k < t.size → limit M t e f k ≡ Some r → (s <ℚ r) ⊎ ((s ≡ r) × (m ≤ k))
