-- What the lines of a written text say.
use Rattle.std.proofs.Common.{◌≡◌, ℕ, ◌<◌, ◌==◌, List, [], ◌∷◌, ◌++◌, length, Bool, true, false, cond, refl, sym, ap, ◌∙◌, arith, append_assoc, map}
use Rattle.std.specs.Prelude.{All, reverse}
use Rattle.std.proofs.lemmas.List.{length-reverse, reverse-append, reverse-reverse}
use Rattle.std.proofs.lemmas.List.Elements.{All-cons, All-head, All-tail, All-append}
use Rattle.fractions.specs.Number.{Number}
use Rattle.fractions.specs.Lowest.{Fits}
use Rattle.number_texts.specs.Written.{written}
use Rattle.lp_model.specs.Name.{IsName}
use Rattle.text_lines.specs.Lines.{but_return, without_return, lines_of, IsUnfed}
use Rattle.text_lines.proofs.LineLaws.{line_first}
use Rattle.text_lines.proofs.Returns.{all_reverse}
use Rattle.mps_profile.specs.Texts.{Text}
use Rattle.mps_profile.specs.Fields.{fields_of}
use Rattle.ray_text.specs.RayLines.{Giving, Line, line_of_four, line_with, line_of, lines_said}
use Rattle.ray_text.specs.RayText.{are_zero, weight_line, weight_lines}
use Rattle.ray_text.proofs.Fielding.{field_first, field_alone}
use Rattle.ray_text.proofs.Unbroken.{IsField, name_field, number_field, no_returns}

-- ---- lines that may have carriage returns, but not at their end
kept_last : (xs ys : List ℕ) → 0 < length xs → All (λ b. (b == 13) ≡ false) xs → but_return (xs ++ ys) ≡ xs ++ ys
kept_last [] ys some all = absurd (omega (arith, some))
kept_last (last ∷ before) ys some all = ap (λ (b : Bool). cond b (before ++ ys) (last ∷ (before ++ ys))) (All-head (λ b. (b == 13) ≡ false) last before all)

some_reversed : (xs : List ℕ) → 0 < length xs → 0 < length (reverse xs)
some_reversed xs some = omega (arith, length-reverse xs, some)

ends_plainly : (front back : List ℕ) → 0 < length back → All (λ b. (b == 13) ≡ false) back → without_return (front ++ back) ≡ front ++ back
ends_plainly front back some all =
    ap (λ (bs : List ℕ). reverse (but_return bs)) (reverse-append front back)
    ∙ ap reverse (kept_last (reverse back) (reverse front) (some_reversed back some) (all_reverse (λ b. (b == 13) ≡ false) back all))
    ∙ ap reverse (sym (reverse-append front back)) ∙ reverse-reverse (front ++ back)

-- the line of a name and two weights, without its line feed
abbrev pub bytes_of : Text → Text → Number → Number → List ℕ
bytes_of word name x y = word ++ 32 ∷ (name ++ 32 ∷ (written x ++ 32 ∷ written y))

regroup_end : (word name lower upper rest : List ℕ) → (word ++ 32 ∷ (name ++ 32 ∷ (lower ++ 32 ∷ (upper ++ 10 ∷ [])))) ++ rest ≡ (word ++ 32 ∷ (name ++ 32 ∷ (lower ++ 32 ∷ upper))) ++ 10 ∷ rest
regroup_end word name lower upper rest = simp append_assoc

regroup_last : (word name lower upper : List ℕ) → word ++ 32 ∷ (name ++ 32 ∷ (lower ++ 32 ∷ upper)) ≡ (word ++ 32 ∷ (name ++ 32 ∷ (lower ++ 32 ∷ []))) ++ upper
regroup_last word name lower upper = simp append_assoc

unfed : (word name : Text) (x y : Number) → IsField word → IsField name → IsField (written x) → IsField (written y) → IsUnfed (bytes_of word name x y)
unfed word name x y w n l u =
    join word _ w.no_feeds (join name _ n.no_feeds (join (written x) (written y) l.no_feeds u.no_feeds))
  where
    join : (front back : List ℕ) → IsUnfed front → IsUnfed back → IsUnfed (front ++ 32 ∷ back)
    join front back f b = All-append (λ c. (c == 10) ≡ false) front (32 ∷ back) f (All-cons (λ c. (c == 10) ≡ false) 32 back refl b)

-- the first line of a written text
written_line : (word name : Text) (x y : Number) (rest : List ℕ) → IsField word → IsName name → Fits x → Fits y → lines_of (weight_line word name x y ++ rest) ≡ bytes_of word name x y ∷ lines_of rest
written_line word name x y rest w n fx fy =
    ap lines_of (regroup_end word name (written x) (written y) rest)
    ∙ line_first without_return (bytes_of word name x y) rest (unfed word name x y w (name_field name n) (number_field x fx) (number_field y fy))
    ∙ ap (λ (l : List ℕ). l ∷ lines_of rest)
    (ap without_return (regroup_last word name (written x) (written y))
    ∙ ends_plainly (word ++ 32 ∷ (name ++ 32 ∷ (written x ++ 32 ∷ []))) (written y) (number_field y fy).filled (no_returns y fy)
    ∙ sym (regroup_last word name (written x) (written y)))

-- ---- what a line says
abbrev pub giving_of : Text → Number → Number → Giving
giving_of name x y = record { name = name; lower = written x; upper = written y }

four_fields : (word name : Text) (x y : Number) → IsField word → IsName name → Fits x → Fits y → fields_of (bytes_of word name x y) ≡ word ∷ name ∷ written x ∷ written y ∷ []
four_fields word name x y w n fx fy =
    let nf = name_field name n in
    let lf = number_field x fx in
    let uf = number_field y fy in
    field_first word _ w.filled w.no_blanks
    ∙ ap (λ (fs : List Text). word ∷ fs) (field_first name _ nf.filled nf.no_blanks
    ∙ ap (λ (fs : List Text). name ∷ fs) (field_first (written x) (written y) lf.filled lf.no_blanks
    ∙ ap (λ (fs : List Text). written x ∷ fs) (field_alone (written y) uf.filled uf.no_blanks)))

says : (word name : Text) (x y : Number) → IsField word → IsName name → Fits x → Fits y → line_of (bytes_of word name x y) ≡ line_of_four word (giving_of name x y)
says word name x y w n fx fy = ap line_with (four_fields word name x y w n fx fy)

-- ---- what the lines of names say
abbrev pub givings : List Text → List Number → List Number → List Giving
givings [] lower upper = []
givings (name ∷ names) [] upper = []
givings (name ∷ names) (x ∷ lower) [] = []
givings (name ∷ names) (x ∷ lower) (y ∷ upper) = cond (are_zero x y) (givings names lower upper) (giving_of name x y ∷ givings names lower upper)

-- a word, and what lines that begin with it say
pub record IsWord (word : Text) (kind : Giving → Line) : Type 0 where
  pub field : IsField word
  pub says : (g : Giving) → line_of_four word g ≡ kind g

module _ (word : Text) (kind : Giving → Line) (w : IsWord word kind) where
  line_said : (name : Text) (x y : Number) (rest : List ℕ) → IsName name → Fits x → Fits y → lines_said (weight_line word name x y ++ rest) ≡ kind (giving_of name x y) ∷ lines_said rest
  line_said name x y rest n fx fy =
      ap (map line_of) (written_line word name x y rest w.field n fx fy)
      ∙ ap (λ (l : Line). l ∷ lines_said rest) (says word name x y w.field n fx fy ∙ w.says (giving_of name x y))

  pub said_again : (names : List Text) (lower upper : List Number) (rest : List ℕ) → All IsName names → length lower ≡ length names → length upper ≡ length names → All Fits lower → All Fits upper
      → lines_said (weight_lines word names lower upper ++ rest) ≡ map kind (givings names lower upper) ++ lines_said rest
  said_again [] lower upper rest n el eu fl fu = refl
  said_again (name ∷ names) [] upper rest n el eu fl fu = absurd (omega (arith, el))
  said_again (name ∷ names) (x ∷ lower) [] rest n el eu fl fu = absurd (omega (arith, eu))
  said_again (name ∷ names) (x ∷ lower) (y ∷ upper) rest n el eu fl fu =
      by (are_zero x y)
      (said_again names lower upper rest (All-tail IsName name names n) (omega (arith, el)) (omega (arith, eu)) (All-tail Fits x lower fl) (All-tail Fits y upper fu))
    where
      by : (b : Bool) → lines_said (weight_lines word names lower upper ++ rest) ≡ map kind (givings names lower upper) ++ lines_said rest
          → lines_said ((cond b [] (weight_line word name x y) ++ weight_lines word names lower upper) ++ rest)
          ≡ map kind (cond b (givings names lower upper) (giving_of name x y ∷ givings names lower upper)) ++ lines_said rest
      by true more = more
      by false more =
          ap lines_said (append_assoc (weight_line word name x y) (weight_lines word names lower upper) rest)
          ∙ line_said name x y (weight_lines word names lower upper ++ rest) (All-head IsName name names n) (All-head Fits x lower fl) (All-head Fits y upper fu)
          ∙ ap (λ (ls : List Line). kind (giving_of name x y) ∷ ls) more
