-- What the transactions of records read.
use Rattle.std.specs.Prelude.{◌≡◌, ℕ, zero, suc, ◌<◌, ◌≤◌, List, [], ◌∷◌, ◌++◌, slice_range, ⊤}
use Rattle.problem_model.specs.declared.part.Part.{Part}
use Rattle.problem_model.specs.declared.part.Part.TheVariants.{Row, Sides, Col, Bounds}
use Rattle.transactions.specs.declared.transactions.PartRead.{PartRead}
use Rattle.transactions.specs.declared.transactions.Heading.{Heading}

-- the worker that committed a transaction, how many instances had been applied when the problem that it saw was frozen, and the parts that it read, each with its change number
pub record Transaction : Type 0 where
  pub by : ℕ
  pub version : ℕ
  pub reads : List PartRead

-- a transaction of which nothing is known
abbrev pub untold : Transaction
untold = record { by = 0; version = 0; reads = [] }

-- one more part that the last transaction read
abbrev pub with_read : List Transaction → PartRead → List Transaction
with_read [] r = []
with_read (t ∷ []) r = record t { reads = t.reads ++ r ∷ [] } ∷ []
with_read (t ∷ u ∷ ts) r = t ∷ with_read (u ∷ ts) r

-- each version is below its place; the first of the transactions has this place
abbrev pub VersionsBelow : ℕ → List Transaction → Type 0
VersionsBelow place [] = ⊤
VersionsBelow place (t ∷ ts) = (t.version < place) × VersionsBelow (suc place) ts

-- a part of a program of m rows and n columns
abbrev pub IsPartOf : ℕ → ℕ → Part → Type 0
IsPartOf m n (Row i) = i < m
IsPartOf m n (Sides i) = i < m
IsPartOf m n (Col j) = j < n
IsPartOf m n (Bounds j) = j < n

-- transactions kept flat: all that they read, cut where each of them ends
abbrev pub cut : ℕ → List Heading → List PartRead → List Transaction
cut from [] rs = []
cut from (h ∷ hs) rs = record { by = h.by; version = h.version; reads = slice_range rs from h.end } ∷ cut h.end hs rs

-- none ends before the one in front of it, and the last one at the end
abbrev pub EndsAscend : ℕ → List Heading → ℕ → Type 0
EndsAscend from [] n = from ≡ n
EndsAscend from (h ∷ hs) n = (from ≤ h.end) × EndsAscend h.end hs n

-- where the transaction at a place begins
abbrev pub start_at : ℕ → List Heading → ℕ → ℕ
start_at from hs zero = from
start_at from [] (suc k) = from
start_at from (h ∷ hs) (suc k) = start_at h.end hs k

-- the last of them ends at n
abbrev pub end_last : List Heading → ℕ → List Heading
end_last [] n = []
end_last (h ∷ []) n = record h { end = n } ∷ []
end_last (h ∷ g ∷ hs) n = h ∷ end_last (g ∷ hs) n
