-- Terms one after the other.
use Rattle.std.proofs.Common.{◌≡◌, ℕ, ◌+◌, List, [], ◌∷◌, ◌++◌, ◌<◌, length, get_or, map, take, Err, sym, refl, ap, ◌∙◌, subst}
use Rattle.std.specs.List.{All}
use Rattle.std.specs.Prelude.{⊤}
use Rattle.std.proofs.lemmas.List.{append_assoc, take_more, map-append}
use Rattle.std.proofs.lemmas.List.Elements.{All-push}
use Rattle.problem_model.specs.declared.refusal.Refusal.{Refusal}
use Rattle.problem_model.specs.declared.refusal.Refusal.TheVariants.{Past, NotDecimal, NoMemory}
use Rattle.rule_words.specs.Answers.{Answers}

pub taken : {X : Type 0} (xs : List X) (i : ℕ) (x : X) → i < length xs → x ≡ get_or xs i x → take (i + 1) xs ≡ take i xs ++ x ∷ []
taken xs i x l e = take_more xs i x l ∙ ap (λ y. take i xs ++ y ∷ []) (sym e)

-- one more of a list that is made one by one
pub made_more : {X Y : Type 0} (f : X → Y) (xs : List X) (i : ℕ) (x : X) (old new : List Y) → i < length xs → x ≡ get_or xs i x → old ≡ map f (take i xs) → new ≡ old ++ f x ∷ [] → new ≡ map f (take (i + 1) xs)
made_more f xs i x old new l e h n = n ∙ ap (λ ys. ys ++ f x ∷ []) h ∙ sym (map-append f (take i xs) (x ∷ [])) ∙ ap (map f) (sym (taken xs i x l e))

-- one more after those that were there
pub made_after : {X Y : Type 0} (f : X → Y) (xs : List X) (i : ℕ) (x : X) (first old new : List Y) → i < length xs → x ≡ get_or xs i x → old ≡ first ++ map f (take i xs) → new ≡ old ++ f x ∷ [] → new ≡ first ++ map f (take (i + 1) xs)
made_after f xs i x first old new l e h n = n ∙ ap (λ ys. ys ++ f x ∷ []) h ∙ append_assoc first (map f (take i xs)) (f x ∷ []) ∙ ap (λ ys. first ++ ys) (sym (map-append f (take i xs) (x ∷ [])) ∙ ap (map f) (sym (taken xs i x l e)))

pub all_more : {X : Type 0} (P : X → Type 0) (xs : List X) (i : ℕ) (x : X) → i < length xs → x ≡ get_or xs i x → All P (take i xs) → P x → All P (take (i + 1) xs)
all_more P xs i x l e h p = subst (All P) (sym (taken xs i x l e)) (All-push P (take i xs) x h p)

pub one_of : {X : Type 0} (P : X → Type 0) (xs : List X) (i : ℕ) (x : X) → i < length xs → x ≡ get_or xs i x → All P xs → P x
one_of P xs i x l e h = subst P (sym e) (h i x l)

-- an answer that what comes first was past
pub past_answer : {T : Type 0} (Is : T → Type 0) (Fit : Type 0) (r : Refusal) → (r ≡ Past → Fit → ⊥) → (r ≡ NotDecimal → ⊥) → Answers Fit ⊤ Is (Err r)
past_answer Is Fit Past h k = h refl
past_answer Is Fit NotDecimal h k = absurd (k refl)
past_answer Is Fit NoMemory h k = tt
