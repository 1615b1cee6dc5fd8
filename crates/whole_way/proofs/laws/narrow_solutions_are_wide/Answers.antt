use Rattle.exact_texts.specs.Kinds.{wide_texts}
use Rattle.exact_texts.specs.Texts.{frac_texts}
use Rattle.whole_way.proofs.Alike.{read_alike}
use Rattle.whole_way.proofs.laws.narrow_solutions_are_wide.Goals as goal

pub returns : goal.returns
returns c = read_alike frac_texts wide_texts c.wide_text_is_alike.ensures.read
