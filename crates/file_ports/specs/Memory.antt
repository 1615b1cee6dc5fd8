-- What files and a sink in memory are, and what their calls do to them.
use Rattle.std.specs.Prelude.{ℕ, ◌+◌, ◌-◌, ◌^◌, ◌<◌, min, List, Option, Some, None, Result, Ok, Err, Vec, find, position}
use Rattle.std.specs.Str.{bytes_eq}
use Rattle.std.specs.declared.alloc.Global.{Global}
use Rattle.file_ports.specs.Ports.{Told}
use Rattle.file_ports.specs.declared.files.ReadErr.{ReadErr}
use Rattle.file_ports.specs.declared.files.ReadErr.TheVariants.{Failed, TooLong, NoMemory}

-- one name: what it tells, and the most bytes that may be written to it, or that it may not be written
pub record Place : Type 0 where
  pub name : List ℕ
  pub told : Told
  pub room : Option ℕ

-- files in memory: the names, the numbers of the calls that are to fail, the calls so far, and the counts of faults
pub record FilesState : Type 0 where
  pub places : List Place
  pub failing_reads : List ℕ
  pub failing_writes : List ℕ
  pub reads : ℕ
  pub writes : ℕ
  pub read_faults : ℕ
  pub write_faults : ℕ
  pub overlong : ℕ

-- a sink in memory
pub record SinkState : Type 0 where
  pub taken : List ℕ
  pub room : ℕ
  pub failing : List ℕ
  pub puts : ℕ
  pub faults : ℕ

-- the place of a name
abbrev pub place_of : List Place → List ℕ → Option Place
place_of places name = find (λ place. bytes_eq place.name name) places

-- where in the list it stands
abbrev pub index_of : List Place → List ℕ → Option ℕ
index_of places name = position (λ place. bytes_eq place.name name) places

abbrev pub told_at : Option Place → Told
told_at None = Some None
told_at (Some place) = place.told

-- what a name tells; a name that is not held is missing
abbrev pub told_in : List Place → List ℕ → Told
told_in places name = told_at (place_of places name)

abbrev pub room_at : Option Place → Option ℕ
room_at None = None
room_at (Some place) = place.room

-- a name's room; a name that is not held may not be written
abbrev pub room_in : List Place → List ℕ → Option ℕ
room_in places name = room_at (place_of places name)

-- the bytes, where they are told
abbrev pub bytes_told : Told → Option (List ℕ)
bytes_told None = None
bytes_told (Some held) = held

-- so many bytes pass this room, or nothing may be written
abbrev pub Passes : Option ℕ → ℕ → Type 0
Passes None size = Unit {0}
Passes (Some room) size = room < size

-- one more, up to the last value of a counter
abbrev pub next : ℕ → ℕ
next count = min (count + 1) (2 ^ 64 - 1)

-- the count of failed reads after a read, where it was this before
abbrev pub read_faults_after : Result (Vec ℕ Global) ReadErr → ℕ → ℕ
read_faults_after (Ok bytes) count = count
read_faults_after (Err Failed) count = next count
read_faults_after (Err TooLong) count = count
read_faults_after (Err NoMemory) count = count

-- the count of names that were found too long
abbrev pub overlong_after : Result (Vec ℕ Global) ReadErr → ℕ → ℕ
overlong_after (Ok bytes) count = count
overlong_after (Err Failed) count = count
overlong_after (Err TooLong) count = next count
overlong_after (Err NoMemory) count = count

-- the count of failed writes or puts
abbrev pub faults_after : {X E : Type 0} → Result X E → ℕ → ℕ
faults_after (Ok done) count = count
faults_after (Err error) count = next count

-- what a name that is held tells after a write of these bytes
abbrev pub told_after : {E : Type 0} → Result (Unit {0}) E → List ℕ → Told
told_after (Ok done) bytes = Some (Some bytes)
told_after (Err error) bytes = None
