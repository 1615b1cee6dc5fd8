-- What files tell before and after a command, and what reads find.
use Rattle.std.specs.Prelude.{◌≡◌, ◌≢◌, ◌≤◌, ℕ, List, length, Option, Some, None}
use Rattle.file_ports.specs.Ports.{Moment, Told, Rose, Gives, IsLonger}

-- no name tells anything else
abbrev pub IsQuiet : Moment → Moment → Type 0
IsQuiet before now = now.told ≡ before.told

-- all names but two tell what they told
abbrev pub KeepsAllBut : (List ℕ → Told) → (List ℕ → Told) → List ℕ → List ℕ → Type 0
KeepsAllBut old new first second = (other : List ℕ) → other ≢ first → other ≢ second → new other ≡ old other

-- a name isn't told as missing
abbrev pub IsThere : Told → Type 0
IsThere None = Unit {0}
IsThere (Some None) = ⊥
IsThere (Some (Some held)) = Unit {0}

-- what a name tells, where it tells its bytes, is no longer than this and has this property; it isn't missing
abbrev pub Reads : ℕ → Told → (List ℕ → Type 0) → Type 0
Reads limit None P = Unit {0}
Reads limit (Some None) P = ⊥
Reads limit (Some (Some held)) P = (length held ≤ limit) × P held

-- the read faults of a name rose
abbrev pub FailsToRead : List ℕ → Moment → Moment → Type 0
FailsToRead name before now = Rose (before.reads name) (now.reads name)

-- the write faults of a name rose
abbrev pub FailsToWrite : List ℕ → Moment → Moment → Type 0
FailsToWrite name before now = Rose (before.writes name) (now.writes name)

-- what a name tells is longer than this, and it was found so
abbrev pub IsOverlong : ℕ → List ℕ → Moment → Moment → Type 0
IsOverlong limit name before now = IsLonger (before.told name) limit × Rose (before.overlong limit name) (now.overlong limit name)

-- bytes were found, and have this property
abbrev pub IfFound : Option (List ℕ) → (List ℕ → Type 0) → Type 0
IfFound None P = ⊥
IfFound (Some text) P = P text

-- what a read of a name finds: the bytes, no more than a limit; or none, where they are more
abbrev pub Finds : ℕ → List ℕ → Moment → Moment → Option (List ℕ) → Type 0
Finds limit name before now None = IsOverlong limit name before now
Finds limit name before now (Some bytes) = Gives (before.told name) bytes × (length bytes ≤ limit)
