-- Carriage returns at the ends of lines.
use Rattle.std.proofs.Common.{◌≡◌, ℕ, ◌==◌, List, [], ◌∷◌, ◌++◌, Bool, false, cond, refl, ap, ◌∙◌}
use Rattle.std.specs.Prelude.{All, reverse}
use Rattle.std.proofs.lemmas.List.{reverse-append, reverse-reverse}
use Rattle.std.proofs.lemmas.List.Elements.{All-nil, All-cons, All-head, All-tail, All-same, All-append}
use Rattle.text_lines.specs.Lines.{but_return, without_return}

-- what holds of each element holds of each one of the list turned round
pub all_reverse : {X : Type 0} (P : X → Type 0) (xs : List X) → All P xs → All P (reverse xs)
all_reverse P [] all = all
all_reverse P (x ∷ xs) all =
    All-same P (reverse (x ∷ xs)) (reverse xs ++ x ∷ []) (reverse-append (x ∷ []) xs)
    (All-append P (reverse xs) (x ∷ []) (all_reverse P xs (All-tail P x xs all)) (All-cons P x [] (All-head P x xs all) (All-nil P)))

kept_last : (xs : List ℕ) → All (λ b. (b == 13) ≡ false) xs → but_return xs ≡ xs
kept_last [] all = refl
kept_last (last ∷ before) all = ap (λ (b : Bool). cond b before (last ∷ before)) (All-head (λ b. (b == 13) ≡ false) last before all)

-- a line without carriage returns stays as it is
pub no_return : (line : List ℕ) → All (λ b. (b == 13) ≡ false) line → without_return line ≡ line
no_return line all = ap reverse (kept_last (reverse line) (all_reverse (λ b. (b == 13) ≡ false) line all)) ∙ reverse-reverse line
