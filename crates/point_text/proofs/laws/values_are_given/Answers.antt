use Rattle.fractions.specs.declared.Numbers.TheVariants.{Fractions}
use Rattle.number_texts.specs.Read.{read_of}
use Rattle.point_text.proofs.GivenLaws.{given, missing}
use Rattle.point_text.proofs.laws.values_are_given.Goals as goal

pub returns-clause-given : goal.returns-clause-given
returns-clause-given c = given (read_of Fractions)

pub returns-clause-missing : goal.returns-clause-missing
returns-clause-missing c = missing (read_of Fractions)
