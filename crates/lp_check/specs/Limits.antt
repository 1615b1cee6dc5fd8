-- The limits of one value.
use Rattle.std.specs.Prelude.{◌≡◌, ◌≢◌, Bool, IsTrue, Option, Some, None}
use Rattle.fractions.specs.Number.{Number, zero_ℚ}
use Rattle.fractions.specs.Order.{◌<ℚ◌}
use Rattle.fractions.specs.Ends.{AtLeast, Between}
use Rattle.fractions.specs.Floor.{IsWhole}
use Rattle.lp_check.specs.declared.verdicts.Limit.{Limit}
use Rattle.lp_check.specs.declared.verdicts.Limit.TheVariants.{Below, Above, NotWhole}
use Rattle.lp_model.specs.Gaps.{Gap, Lies}
use Rattle.lp_model.specs.declared.program.ColumnDef.{ColumnDef}

-- v lies between the ends l and u, and is whole where it has to be
abbrev pub Keeps : Option Number → Option Number → Bool → Number → Type 0
Keeps l u w v = Between l u v × (IsTrue w → IsWhole v)

-- this is the first limit that v breaks: below l, else above u, else not whole
abbrev pub Breaks : Option Number → Option Number → Bool → Number → Limit → Type 0
Breaks l u w v (Below e) = (l ≡ Some e) × (v <ℚ e)
Breaks l u w v (Above e) = AtLeast l v × (u ≡ Some e) × (e <ℚ v)
Breaks l u w v NotWhole = Between l u v × IsTrue w × (IsWhole v → ⊥)

-- the same of a column: a semi-continuous one breaks the ends of its gap, and only where it is not 0
abbrev pub BreaksColumn : Option Gap → Option Number → Option Number → Bool → Number → Limit → Type 0
BreaksColumn None l u w v limit = Breaks l u w v limit
BreaksColumn (Some g) l u w v limit = Breaks g.lower g.upper w v limit × (v ≢ zero_ℚ)

-- of a column's data
abbrev pub KeepsData : ColumnDef → Number → Type 0
KeepsData c v = Lies c.semi c.lower c.upper v × (IsTrue c.whole → IsWhole v)

abbrev pub BreaksData : ColumnDef → Number → Limit → Type 0
BreaksData c v limit = Breaks c.lower c.upper c.whole v limit × (IsTrue c.semi → v ≢ zero_ℚ)
