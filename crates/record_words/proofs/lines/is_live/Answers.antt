use Rattle.record_words.proofs.Soundness.{live_is}
use Rattle.record_words.proofs.lines.is_live.Goals as goal

pub returns : goal.returns
returns c = live_is c.args.walk.now c.args.undo.now c.takes.result c.takes.ensures
