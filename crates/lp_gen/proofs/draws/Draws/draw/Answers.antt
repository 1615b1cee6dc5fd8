use Rattle.std.proofs.Common.{◌∙◌, ap}
use Rattle.std.proofs.Common.{◌+◌, ◌*◌, ◌/◌, ◌%◌, ℕ}
use Rattle.lp_gen.specs.Draws.{state_after, drawn}
use Rattle.lp_gen.proofs.Drawing.{state_once, drawn_once}
use Rattle.lp_gen.proofs.draws.Draws.draw.Goals as goal

pub returns-clause-state : goal.returns-clause-state
returns-clause-state c = state_once c.self.inside.state ∙ ap (λ s. state_after s 1) c.self.view_is

pub returns-clause-value : goal.returns-clause-value
returns-clause-value c =
    ap (λ (n : ℕ). (c.self.inside.state * 6364136223846793005 % 18446744073709551616 + 1442695040888963407) % 18446744073709551616 / 8589934592 % n) c.from.ensures
    ∙ drawn_once c.self.inside.state c.args.choices ∙ ap (λ (s : ℕ). drawn s 0 c.args.choices) c.self.view_is
