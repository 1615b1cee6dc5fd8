-- Tables by number. Past its end a table has nothing.
use Rattle.std.specs.Prelude.{ℕ, Bool, false, Option, None, slice_index_or}
use Rattle.mps_tables.specs.declared.slots.Slots.{Slots}
use Rattle.mps_tables.specs.declared.slots.Flags.{Flags}

-- the value that number i has
abbrev pub held : {T : Type 0} → Slots T → ℕ → Option T
held slots i = slice_index_or slots.values.items i None

-- whether number i is marked
abbrev pub flag : Flags → ℕ → Bool
flag flags i = slice_index_or flags.marks.items i false
