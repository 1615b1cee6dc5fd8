use Rattle.std.proofs.Common.{refl}
use Rattle.fractions.specs.declared.Numbers.TheVariants.{Fractions}
use Rattle.number_texts.proofs.Again.{read-written}
use Rattle.exact_texts.proofs.words.FracTextual.reads_again.Goals as goal

pub returns : goal.returns
returns c = λ q fits. read-written Fractions q fits refl
