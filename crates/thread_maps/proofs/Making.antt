-- What calls on a list by threads give.
use Rattle.std.proofs.Common.{◌≡◌, List, map, refl, sym, subst}
use Rattle.std.specs.List.{AllZip}
use Rattle.std.specs.Fn.{FnReturnsAt, Shared}
use Rattle.rayon.proofs.ListFacts.{AllZip-weaken}
use Rattle.rayon.proofs.ToStd.{slice-AllZip}
use denote.Bor.{Bor}

-- each call was made with an item of the list, in its place
pub made_each : {T U F : Type 0} (g : Shared F (Bor T × Unit {0}) U) (make called : F) (items : List T) (results made : List U) (shown : List (Bor T)) → called ≡ make
    → map (λ (z : Bor T). z.now) shown ≡ items → AllZip (λ (z : Bor T) (y : U). g.post called (z, tt) y) shown results → made ≡ results
    → AllZip (λ x y. FnReturnsAt g make x y) items made
made_each g make called items results made shown same is calls e =
    subst (λ l. AllZip (λ x y. FnReturnsAt g make x y) items l) (sym e)
    (subst (λ f. AllZip (λ x y. FnReturnsAt g f x y) items results) same
    (slice-AllZip shown items is (λ x y. FnReturnsAt g called x y) results
    (AllZip-weaken _ _ (λ z y h. record { shown = z; shows = refl; says = record { met = h } }) shown results calls)))
