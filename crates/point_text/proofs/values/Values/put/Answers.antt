use Rattle.std.proofs.Common.{arith}
use Rattle.point_text.proofs.Slots.{put_slot}
use Rattle.point_text.proofs.values.Values.put.Goals as goal

pub returns-clause-held : goal.returns-clause-held
returns-clause-held g c = λ other. put_slot g.T.Exact.number c.args.self.now.table c.args.self.now.numbers.items c.args.name.now other c.args.id c.args.number c.requires.named (omega arith)
