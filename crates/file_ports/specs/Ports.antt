-- What files and a sink tell, and what their calls do to it.
use Rattle.std.specs.Prelude.{◌≡◌, ◌≢◌, ◌⊎◌, ℕ, ◌-◌, ◌^◌, ◌<◌, ◌≤◌, List, ◌++◌, length, take, Option, Some, None}

-- What a name holds, where it is told: its bytes, or that it is missing.
abbrev pub Told : Type 0
Told = Option (Option (List ℕ))

-- What each name tells and the counts of its faults, at one moment: of reads, of writes, and of how often it was longer than a limit.
pub record Moment : Type 0 where
  pub told : List ℕ → Told
  pub reads : List ℕ → ℕ
  pub writes : List ℕ → ℕ
  pub overlong : ℕ → List ℕ → ℕ

-- a count rose, or stands at its last value
abbrev pub Rose : ℕ → ℕ → Type 0
Rose before now = now < 2 ^ 64 - 1 → before < now

-- no count of these falls
abbrev pub NeverFall : (List ℕ → ℕ) → (List ℕ → ℕ) → Type 0
NeverFall before now = (name : List ℕ) → before name ≤ now name

-- what a read gives is what is told, and a missing name gives nothing
abbrev pub Gives : Told → List ℕ → Type 0
Gives None bytes = Unit {0}
Gives (Some None) bytes = ⊥
Gives (Some (Some held)) bytes = bytes ≡ held

-- what is told is longer than this
abbrev pub IsLonger : Told → ℕ → Type 0
IsLonger None limit = Unit {0}
IsLonger (Some None) limit = ⊥
IsLonger (Some (Some held)) limit = limit < length held

-- what is told after a write that was done: these bytes, and a name that was told is told still
abbrev pub Written : Told → Told → List ℕ → Type 0
Written None None bytes = Unit {0}
Written None (Some held) bytes = held ≡ Some bytes
Written (Some old) new bytes = new ≡ Some (Some bytes)

-- what is told after a write that failed: nothing, or what was told
abbrev pub Unsettled : Told → Told → Type 0
Unsettled old new = (new ≡ None) ⊎ (new ≡ old)

-- all other names tell what they told
abbrev pub KeepsOthers : (List ℕ → Told) → (List ℕ → Told) → List ℕ → Type 0
KeepsOthers old new name = (other : List ℕ) → other ≢ name → new other ≡ old other

-- the taken bytes after a put that was done
abbrev pub Grown : Option (List ℕ) → Option (List ℕ) → List ℕ → Type 0
Grown None new bytes = Unit {0}
Grown (Some old) new bytes = new ≡ Some (old ++ bytes)

-- the taken bytes after a put that failed: a prefix of them came in
abbrev pub GrownInPart : Option (List ℕ) → Option (List ℕ) → List ℕ → Type 0
GrownInPart old new bytes = (k : ℕ) × Grown old new (take k bytes)
