use Rattle.written_ids.proofs.WrittenStand.{still_of, written_left}
use Rattle.written_ids.proofs.written_problems_are_what_is_left.Goals as goal

pub returns : goal.returns
returns c = λ program start p q h z s w. written_left program p q s (still_of program start p h z) w
