use Rattle.std.proofs.Common.{◌≡◌, take, map}
use Rattle.std.specs.Prelude.{All, unwrap_or}
use Rattle.fractions.specs.Number.{zero_ℚ}
use Rattle.point_text.specs.Holding.{held}
use Rattle.point_text.proofs.values.Values.point.Given as goal

abbrev pub invariant-loop-id : goal.invariant-loop-id
invariant-loop-id g l = record {
  values : map g.T.Exact.number l.values.items ≡ map (λ name. unwrap_or (held g.T.Exact.number l.self name) zero_ℚ) (take l.id (g.L.Labels.column_names l.labels));
  kept : All g.T.Exact.room.number (map g.T.Exact.number l.values.items);
}
