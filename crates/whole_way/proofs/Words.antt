-- Words are names to the reader of solutions.
use Rattle.std.proofs.Common.{◌≡◌, ℕ, ◌<◌, ◌==◌, not, Bool, true, false, List, [], ◌∷◌, length, sym, refl, arith}
use Rattle.std.specs.List.{All, list_all}
use Rattle.std.proofs.lemmas.List.Elements.{All-nil, All-cons, All-head, All-tail}
use Rattle.number_texts.proofs.Cutting.{both_true}
use Rattle.mps_written_lines.specs.Words.{ends_word, IsWord}
use Rattle.point_text.specs.PlainNames as solutions
use Rattle.whole_way.specs.Texts.{IsUnmarked}

not_true : (b : Bool) → not b ≡ true → b ≡ false
not_true true e = sym e
not_true false e = refl

-- a word that is unmarked is a name in a solution
unbroken : (word : List ℕ) → list_all (λ b. not (ends_word b)) word ≡ true → All (λ b. solutions.is_break b ≡ false) word
unbroken [] e = All-nil (λ b. solutions.is_break b ≡ false)
unbroken (x ∷ xs) e =
    let parts = both_true (not (ends_word x)) (list_all (λ b. not (ends_word b)) xs) e in
    All-cons (λ b. solutions.is_break b ≡ false) x xs (not_true (ends_word x) parts.0) (unbroken xs parts.1)

filled : (word : List ℕ) → (length word == 0) ≡ false → 0 < length word
filled [] e = absurd (let f = e in cc)
filled (x ∷ xs) e = omega arith

plain_name : (word : List ℕ) → IsWord word → IsUnmarked word → solutions.Plain word
plain_name word w u = record { filled = filled word w.some; unbroken = unbroken word w.plain; no_objective = u }

pub plain_names : (names : List (List ℕ)) → All IsWord names → All IsUnmarked names → All solutions.Plain names
plain_names [] w u = All-nil solutions.Plain
plain_names (n ∷ ns) w u = All-cons solutions.Plain n ns
    (plain_name n (All-head IsWord n ns w) (All-head IsUnmarked n ns u))
    (plain_names ns (All-tail IsWord n ns w) (All-tail IsUnmarked n ns u))
