use Rattle.round_laws.proofs.Rounds.{round_stuck}
use Rattle.round_laws.proofs.passes.rounds_come_to_an_end.Goals as goal

pub returns : goal.returns
returns c = round_stuck
