use Rattle.history_laws.proofs.Worlds.{world_stands}
use Rattle.history_laws.proofs.laws.worlds_stand.Goals as goal

pub returns : goal.returns
returns c = world_stands
