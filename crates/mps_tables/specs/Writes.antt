-- What is written into the tables.
use Rattle.std.specs.Prelude.{◌≡◌, ℕ, ◌==◌, ◌&&◌, ◌||◌, Option, Some, None, if◌then◌else◌}
use Rattle.mps_profile.specs.Columns.{last_kind, lower_in, makes_semi, makes_whole, or_before, semi_upper_in, upper_in}
use Rattle.mps_profile.specs.declared.bounds.Change.{Change}
use Rattle.mps_tables.specs.Slots.{held, flag}
use Rattle.mps_tables.specs.declared.tables.Tables.{Tables}

-- a column is going on, and is whole where a run is open
pub record IsGoing (column : ℕ) (old new : Tables) : Type 0 where
  pub rest : new ≡ record old { current = Some column; wholes = new.wholes }
  pub marks : (j : ℕ) → flag new.wholes j ≡ ((old.run && column == j) || flag old.wholes j)

-- what is changed of column j
abbrev pub change_for : ℕ → Change → ℕ → Option Change
change_for column change j = if column == j then Some change else None

-- a column's bounds are changed, and whether it is whole and semi-continuous
pub record IsChanged (column : ℕ) (change : Change) (old new : Tables) : Type 0 where
  pub rest : new ≡ record old { lowers = new.lowers; uppers = new.uppers; wholes = new.wholes; semis = new.semis; semi_uppers = new.semi_uppers }
  pub lower : (j : ℕ) → held new.lowers j ≡ or_before (lower_in (change_for column change j)) (held old.lowers j)
  pub upper : (j : ℕ) → held new.uppers j ≡ or_before (upper_in (change_for column change j)) (held old.uppers j)
  pub marks : (j : ℕ) → flag new.wholes j ≡ (makes_whole (change_for column change j) || flag old.wholes j)
  pub semis : (j : ℕ) → flag new.semis j ≡ (makes_semi (change_for column change j) || flag old.semis j)
  pub kinds : (j : ℕ) → held new.semi_uppers j ≡ last_kind (semi_upper_in (change_for column change j)) (held old.semi_uppers j)
