use Rattle.postsolve_command.proofs.Rooms.{room_next}
use Rattle.postsolve_command.proofs.lifted.have_room.Goals as goal

pub loop-number-preserved : goal.loop-number-preserved
loop-number-preserved g c = room_next g.T.Exact.number g.T.Exact.room.number c.args.numbers.now c.loop-number.number-index c.number-item.result c.loop-number-test.true c.number-item.is c.has_room.ensures c.loop-number.invariant
