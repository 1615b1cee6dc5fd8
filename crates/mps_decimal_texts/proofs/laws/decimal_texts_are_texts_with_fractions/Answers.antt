use Rattle.mps_decimal_texts.proofs.Texts.{no_fault, one_program}
use Rattle.mps_decimal_texts.proofs.laws.decimal_texts_are_texts_with_fractions.Goals as goal

pub returns-clause-fault : goal.returns-clause-fault
returns-clause-fault c = no_fault

pub returns-clause-program : goal.returns-clause-program
returns-clause-program c = one_program
