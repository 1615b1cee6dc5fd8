-- What is marked of an instance after its turn.
use Rattle.std.specs.Prelude.{◌≡◌, Bool, true, ◌&&◌, List, [], ◌∷◌, ◌++◌, if◌then◌else◌}
use Rattle.problem_model.specs.declared.part.Part.{Part}
use Rattle.problem_model.specs.Sparse.{Sparse}
use Rattle.presolve_model.specs.declared.instance.Instance.{Instance}
use Rattle.presolve_model.specs.declared.outcome.Outcome.{Outcome}
use Rattle.presolve_model.specs.Enabled.{enabled_on}
use Rattle.presolve_model.specs.Tallies.{Open}
use Rattle.presolve_model.specs.Instances.{is_open, reach_of, rests_on_reading, rule_at}
use Rattle.place_laws.specs.Marks.{IsNoted, is_refusal, Marks}
use Rattle.round_marks.specs.Forming.{Formed, lets_by_cost, lets_in_pairs, reformed, Stirs}
use Rattle.presolve_model.specs.declared.instance.Reach.{Reach}
use Rattle.presolve_model.specs.declared.instance.Reach.TheVariants.{OwnRow, OwnColumn, RowsOfBounds, ColumnsOfSides, RowsOfBoth, SoleColumns, RowsBeside, ColumnsBeside}

-- it is refused for a number, and that rests on what it reads
abbrev pub sleeps : Instance → Outcome → Bool
sleeps e o = is_refusal o && rests_on_reading (rule_at e)

-- what rounds watch: what is marked, and the forms of ends
pub record Watched : Type 0 where
  pub marks : Marks
  pub forms : Formed

-- a part of an instance that is left over, where it counts for its rule
abbrev pub left_by : Reach → Marks → Part → Marks
left_by OwnRow m a = record m { noted = m.noted ++ a ∷ [] }
left_by OwnColumn m a = record m { noted = m.noted ++ a ∷ [] }
left_by RowsOfBounds m a = record m { noted = m.noted ++ a ∷ [] }
left_by ColumnsOfSides m a = record m { stirred = m.stirred ++ a ∷ [] }
left_by RowsOfBoth m a = record m { roused = m.roused ++ a ∷ [] }
left_by SoleColumns m a = record m { noted = m.noted ++ a ∷ [] }
left_by RowsBeside m a = record m { noted = m.noted ++ a ∷ [] }
left_by ColumnsBeside m a = record m { noted = m.noted ++ a ∷ [] }

abbrev pub left_over : Marks → Instance → Part → Marks
left_over m e a = left_by (reach_of (rule_at e)) m a

-- a part of it is kept as one of an instance that sleeps, or else it is left over
abbrev pub marked : Marks → Instance → Outcome → Part → Marks
marked m e o a = if sleeps e o then record m { asleep = m.asleep ++ a ∷ [] } else left_over m e a

-- all parts that are marked
abbrev pub all_marked : Marks → List Part
all_marked m = m.noted ++ m.stirred ++ m.roused ++ m.asleep

-- what is watched after these parts have changed
pub record Notes (p : Sparse) (changed : List Part) (w v : Watched) : Type 0 where
  pub noted : v.marks.noted ≡ w.marks.noted ++ changed
  pub stirred : Stirs lets_by_cost w.forms p changed w.marks.stirred v.marks.stirred
  pub roused : Stirs lets_in_pairs w.forms p changed w.marks.roused v.marks.roused
  pub asleep : v.marks.asleep ≡ w.marks.asleep
  pub forms : v.forms ≡ reformed w.forms p changed

-- each enabled instance that is open reads one of these parts
abbrev pub AreReached : Open → Sparse → List Part → Type 0
AreReached opens p parts = (e : Instance) → enabled_on p e ≡ true → is_open opens e ≡ true → IsNoted p parts e
