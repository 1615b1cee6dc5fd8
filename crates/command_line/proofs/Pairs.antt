-- Two parts of what an option holds.
use Rattle.std.proofs.Common.{◌≡◌, Option, Some, None, refl}
use Rattle.std.specs.Option.{option_map}

pub paired : {A B X Y : Type 0} (r : Option A) (o : Option B) (f : A → X) (g : A → Y) (f' : B → X) (g' : B → Y)
    → option_map f r ≡ option_map f' o → option_map g r ≡ option_map {T = X × Y} (λ p. p.1) (option_map (λ b. (f' b, g' b)) o)
    → option_map {U = X × Y} (λ a. (f a, g a)) r ≡ option_map {U = X × Y} (λ b. (f' b, g' b)) o
paired None None f g f' g' e h = refl
paired None (Some b) f g f' g' e h = cc
paired (Some a) None f g f' g' e h = cc
paired (Some a) (Some b) f g f' g' e h =
    let x : f a ≡ f' b = cc in
    let y : g a ≡ g' b = cc in
    cc
