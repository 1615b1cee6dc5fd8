use Rattle.command_laws.proofs.Taken.{taken_words_ask}
use Rattle.command_laws.proofs.laws.taken_words_of_a_command_ask_for_something.Goals as goal

pub returns : goal.returns
returns c = taken_words_ask
