-- The first test that holds.
use Rattle.std.proofs.Common.{◌≡◌, Bool, true, false, ap, ◌∙◌}
use Rattle.std.specs.Prelude.{if◌then◌else◌}

pub fourth : {A : Type 0} (a b c d : Bool) (w x y z later : A) → a ≡ false → b ≡ false → c ≡ false → d ≡ true
    → (if a then w else if b then x else if c then y else if d then z else later) ≡ z
fourth a b c d w x y z later no_a no_b no_c holds =
    ap (λ (test : Bool). if test then w else if b then x else if c then y else if d then z else later) no_a
    ∙ ap (λ (test : Bool). if test then x else if c then y else if d then z else later) no_b
    ∙ ap (λ (test : Bool). if test then y else if d then z else later) no_c
    ∙ ap (λ (test : Bool). if test then z else later) holds
