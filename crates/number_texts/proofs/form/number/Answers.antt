use Rattle.std.proofs.Common.{ℕ, ◌<◌, subst}
use Rattle.std.specs.Prelude.{SomeIff}
use Rattle.number_texts.proofs.ShortLaws.{all_leading}
use Rattle.number_texts.proofs.form.number.Goals as goal

pub returns-in-Some : goal.returns-in-Some
returns-in-Some c = subst (λ (k : ℕ). SomeIff c.below.result (k < c.args.limit) k) (all_leading _ _ _ c.requires.digits c.in-Some.ensures.value) c.below.ensures
