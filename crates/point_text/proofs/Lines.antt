-- A line more of a text that is written.
use Rattle.std.proofs.Common.{◌≡◌, ℕ, ◌+◌, ◌<◌, List, [], ◌++◌, length, map, drop, get_or, sym, ap, ap₂, ◌∙◌, subst, append_assoc}
use Rattle.std.proofs.lemmas.List.{drop_more, get_or-map, length-map}
use Rattle.fractions.specs.Number.{Number, zero_ℚ}
use Rattle.exact_texts.specs.Texts.{Writing}
use Rattle.mps_profile.specs.Texts.{Text}
use Rattle.point_text.specs.SolutionText.{value_line_by, solution_text_by}

-- the name and the number at an id, and what comes after them
with_line : (w : Writing) (names : List Text) (values : List Number) (id : ℕ) (name : Text) (value : Number) → id < length names → id < length values → name ≡ get_or names id []
    → value ≡ get_or values id zero_ℚ → value_line_by w name value ++ solution_text_by w (drop (id + 1) names) (drop (id + 1) values) ≡ solution_text_by w (drop id names) (drop id values)
with_line w names values id name value few more named numbered =
    ap₂ (λ (n : Text) (q : Number). value_line_by w n q ++ solution_text_by w (drop (id + 1) names) (drop (id + 1) values)) named numbered
    ∙ sym (ap₂ (λ (ns : List Text) (qs : List Number). solution_text_by w ns qs) (drop_more names id [] few) (drop_more values id zero_ℚ more))

pub line_more : {A : Type 0} (number : A → Number) (w : Writing) (names : List Text) (xs : List A) (id : ℕ) (name : Text) (x : A) (old new whole : List ℕ) → id < length names → id < length xs
    → name ≡ get_or names id [] → x ≡ get_or xs id x → old ++ solution_text_by w (drop id names) (drop id (map number xs)) ≡ whole → new ≡ old ++ value_line_by w name (number x)
    → new ++ solution_text_by w (drop (id + 1) names) (drop (id + 1) (map number xs)) ≡ whole
line_more number w names xs id name x old new whole few more named is so pushed =
    ap (λ (bytes : List ℕ). bytes ++ rest) pushed ∙ append_assoc old (value_line_by w name (number x)) rest
    ∙ ap (λ (bytes : List ℕ). old ++ bytes) (with_line w names (map number xs) id name (number x) few (subst (λ (n : ℕ). id < n) (sym (length-map xs number)) more) named numbered) ∙ so
  where
    rest : List ℕ
    rest = solution_text_by w (drop (id + 1) names) (drop (id + 1) (map number xs))

    numbered : number x ≡ get_or (map number xs) id zero_ℚ
    numbered = ap number is ∙ sym (get_or-map number xs id x zero_ℚ more)
