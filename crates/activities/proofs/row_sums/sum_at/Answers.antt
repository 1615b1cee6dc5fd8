use Rattle.std.proofs.Common.{◌<◌, ℕ, length, get_or, List, Result, sym, ap, ◌∙◌, subst}
use Rattle.fractions.specs.Number.{Number, zero_ℚ}
use Rattle.fractions.specs.declared.Past.{Past}
use Rattle.activities.proofs.Pieces.{sums-length, sums-at}
use Rattle.activities.proofs.row_sums.sum_at.Goals as goal

pub bounds-sums-place : goal.bounds-sums-place
bounds-sums-place c = subst (λ (n : ℕ). c.args.place < n) (sym (ap length c.requires.sums ∙ sums-length _ c.args.extreme c.args.spans.now)) c.requires.place

pub returns : goal.returns
returns c = c.index-sums-place.is ∙ ap (λ (rs : List (Result Number Past)). get_or rs c.args.place c.index-sums-place.result) c.requires.sums ∙ sums-at zero_ℚ c.args.extreme c.args.spans.now c.args.place _ c.requires.place
