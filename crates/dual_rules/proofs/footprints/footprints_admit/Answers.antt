use Rattle.std.proofs.Common.{Option, subst, sym, ◌∙◌}
use Rattle.std.specs.Prelude.{IfSome}
use Rattle.std.proofs.lemmas.Bool.{eq-eqb, false≢true}
use Rattle.dual_rules.specs.Footprints.{IsFootprint, IsWithin}
use Rattle.dual_rules.specs.Merging.{all_admit}
use Rattle.dual_rules.specs.declared.footprints.Footprint.{Footprint}
use Rattle.dual_rules.proofs.FootprintSets.{asks_no_more, moved, offers_no_less, refuted}
use Rattle.dual_rules.proofs.footprints.footprints_admit.Goals as goal

pub returns-then-is_within : goal.returns-then-is_within
returns-then-is_within c = λ p n ts us a b is are e.
    let f : IsFootprint p ts c.in-Some-Some.better = subst (λ (o : Option Footprint). IfSome o (λ f. IsFootprint p ts f)) c.in-Some-Some.is-0 is in
    let g : IsFootprint p us c.in-Some-Some.other = subst (λ (o : Option Footprint). IfSome o (λ f. IsFootprint p us f)) c.in-Some-Some.is-1 are in
    refuted (all_admit p ts us) (λ h. let w : IsWithin c.in-Some-Some.other.offered c.in-Some-Some.better.offered = moved _ _ _ _ g.offered f.offered (offers_no_less p n ts us a b h) in
    false≢true (sym e ∙ c.is_within-then-is_within.ensures ∙ eq-eqb _ _ w))

pub returns-else-is_within : goal.returns-else-is_within
returns-else-is_within c = λ p n ts us a b is are e.
    let f : IsFootprint p ts c.in-Some-Some.better = subst (λ (o : Option Footprint). IfSome o (λ f. IsFootprint p ts f)) c.in-Some-Some.is-0 is in
    let g : IsFootprint p us c.in-Some-Some.other = subst (λ (o : Option Footprint). IfSome o (λ f. IsFootprint p us f)) c.in-Some-Some.is-1 are in
    refuted (all_admit p ts us) (λ h. let w : IsWithin c.in-Some-Some.better.asked c.in-Some-Some.other.asked = moved _ _ _ _ f.asked g.asked (asks_no_more p n ts us a b h) in
    false≢true (sym e ∙ c.is_within.ensures ∙ eq-eqb _ _ w))
