-- What a round lists, and how its instances share what they read.
use Rattle.std.specs.Prelude.{◌≡◌, true, ◌++◌, List, drop, take}
use Rattle.std.specs.List.{Contains}
use Rattle.presolve_model.specs.declared.instance.Instance.{Instance}
use Rattle.presolve_model.specs.declared.instance.Rule.{Rule}
use Rattle.presolve_model.specs.Enabled.{enabled_on}
use Rattle.presolve_model.specs.Instances.{id_at, instances_from, rule_at, shares_reading}
use Rattle.presolve_model.specs.Ledger.{Ledger}
use Rattle.presolve_model.specs.Order.{reduction_order, verdict_order}
use Rattle.presolve_model.specs.Tallies.{open_on}

-- the rules whose instances are listed, and those whose instances are looked at in their turn: lines that are multiples of one another, and
-- what comes behind them
abbrev pub listed_order : List Rule
listed_order = verdict_order ++ take 14 reduction_order

abbrev pub turned_order : List Rule
turned_order = drop 14 reduction_order

-- an instance that was enabled as the round began, with the book a: one of those of its rule with its first id
pub record IsListed (a : Ledger) (e : Instance) : Type 0 where
  pub enabled : enabled_on a.problem e ≡ true
  pub there : Contains (instances_from (open_on a.tally) a.problem (rule_at e) (id_at e)) e

abbrev pub AreListed : Ledger → List Instance → Type 0
AreListed a es = (e : Instance) → Contains es e → IsListed a e

-- the instances of this one's rule with its first id share their reading, and x is one of them
pub record SharesRow (e x : Instance) : Type 0 where
  pub sharing : shares_reading (rule_at e) ≡ true
  pub rule : rule_at x ≡ rule_at e
  pub id : id_at x ≡ id_at e
