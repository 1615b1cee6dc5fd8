-- Forcing rows.
use Rattle.std.proofs.Common.{◌≡◌, ℕ, ap, ◌∙◌}
use Rattle.fractions.specs.Number.{zero_ℚ}
use Rattle.lp_model.specs.Sparse.{Ascends, dense}
use Rattle.lp_model.specs.Reductions.{Priced}
use Rattle.lp_rows.specs.ForcingRow.{set_for_row, greatest_ratio, least_ratio, undo_forced_at_lower_side, undo_forced_at_upper_side}
use Rattle.lp_rows.proofs.ForcingRow.{greatest_ratio_is, least_ratio_is}
use Rattle.undo_records.specs.declared.side.Side.{Side}
use Rattle.undo_records.specs.declared.side.Side.TheVariants.{Lower, Upper}
use Rattle.undo_records.specs.declared.kinds.forcing_row.ForcingRow.{ForcingRow}
use Rattle.undo_records.specs.declared.undo.Undo.TheVariants as kind
use Rattle.undo_pairs.specs.LiftPair.{furthest, undone_pair}
use Rattle.pair_laws.proofs.Furthest.{greatest_is, least_is, greatest_one, least_one}

pub forced_lower : (n : ℕ) (r : ForcingRow) (p : Priced) → r.side ≡ Lower → Ascends 0 n r.entries → undone_pair (kind.ForcingRow r) p ≡ undo_forced_at_lower_side n r.row (dense r.entries) p
forced_lower n r p e a =
    ap (λ (s : Side). set_for_row r.row (dense r.entries) (furthest s zero_ℚ r.entries p.z) p) e
    ∙ ap (λ t. set_for_row r.row (dense r.entries) t p)
    (greatest_one n p.z (dense r.entries) (furthest Lower zero_ℚ r.entries p.z) (greatest_ratio n p.z (dense r.entries)) (greatest_is n r.entries p.z a) (greatest_ratio_is n p.z (dense r.entries)))

pub forced_upper : (n : ℕ) (r : ForcingRow) (p : Priced) → r.side ≡ Upper → Ascends 0 n r.entries → undone_pair (kind.ForcingRow r) p ≡ undo_forced_at_upper_side n r.row (dense r.entries) p
forced_upper n r p e a =
    ap (λ (s : Side). set_for_row r.row (dense r.entries) (furthest s zero_ℚ r.entries p.z) p) e
    ∙ ap (λ t. set_for_row r.row (dense r.entries) t p)
    (least_one n p.z (dense r.entries) (furthest Upper zero_ℚ r.entries p.z) (least_ratio n p.z (dense r.entries)) (least_is n r.entries p.z a) (least_ratio_is n p.z (dense r.entries)))

pub ruleset forced_laws = (forced_lower, forced_upper)
