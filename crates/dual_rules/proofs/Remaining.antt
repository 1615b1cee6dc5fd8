-- Lists that are gone through: what is left of them.
use Rattle.std.proofs.Common.{◌≡◌, ℕ, suc, ◌+◌, ◌<◌, List, ◌∷◌, ◌++◌, length, drop, get_or, add-one, drop-cons, append_assoc, sym, ap, ◌∙◌}

-- an element, and what is left after it
pub left : {X : Type 0} (xs : List X) (i : ℕ) (x : X) → i < length xs → x ≡ get_or xs i x → drop i xs ≡ x ∷ drop (i + 1) xs
left xs i x l e = rw (add-one, drop-cons xs i x) (ap (λ y. y ∷ drop (suc i) xs) (sym e))

-- where all were z, with a still to come after x, they are z once the first part of a was added
pub one_more : {X : Type 0} (x y a b c z : List X) → x ++ a ≡ z → a ≡ b ++ c → y ≡ x ++ b → y ++ c ≡ z
one_more x y a b c z h e g = ap (λ l. l ++ c) g ∙ append_assoc x b c ∙ ap (λ l. x ++ l) (sym e) ∙ h
