-- What was written is read again.
use Rattle.std.proofs.Common.{◌≡◌, ◌≢◌, ℕ, suc, ◌+◌, ◌==◌, not, List, [], ◌∷◌, ◌++◌, length, get_or, Bool, true, false, cond, Option, Some, None, refl, sym, ap, ap₂, ◌∙◌, subst, arith, append_assoc}
use Rattle.std.specs.Prelude.{All, map, codes, is_some, unwrap_or}
use Rattle.std.specs.Str.{bytes_eq}
use Rattle.std.proofs.lemmas.List.Elements.{All-cons, All-head, All-tail, All-append}
use Rattle.std.proofs.lemmas.List.Folds.{list_any_at}
use Rattle.fractions.specs.Number.{Number, zero_ℚ}
use Rattle.names.specs.Names.{place}
use Rattle.exact_texts.specs.Texts.{Texts}
use Rattle.lp_model.specs.Names.{Differ}
use Rattle.text_lines.specs.Faults.{or_later}
use Rattle.text_lines.specs.Lines.{lines_of}
use Rattle.text_lines.proofs.LineLaws.{plain_line_first}
use Rattle.mps_profile.specs.Texts.{Text}
use Rattle.point_text.specs.SolutionLines.{Line, Silent, Gives, line_with, line_of}
use Rattle.point_text.specs.Values.{number_in, value_named_by, value_of_by}
use Rattle.point_text.specs.Faults.{line_fault_by, first_of, is_past, is_bad}
use Rattle.point_text.specs.Reading.{fault_from_by, first_fault_by, said_from, point_of_by}
use Rattle.point_text.specs.SolutionText.{value_line_by, solution_text_by}
use Rattle.point_text.specs.PlainNames.{Plain}
use Rattle.point_text.specs.declared.faults.SolFaultKind.{SolFaultKind}
use Rattle.point_text.specs.declared.faults.SolFaultKind.TheVariants.{UnknownName, TwiceNamed, NumberPast, BadNumber}
use Rattle.point_text.specs.PairText.{silent}
use Rattle.point_text.proofs.Silence.{silent-named}
use Rattle.point_text.proofs.Tables.{has_place}
use Rattle.point_text.proofs.Parts.{two_fields}
use Rattle.point_text.proofs.Unbroken.{Returns, number_unbroken, no_blanks, no_feeds, no_returns, number_filled, differ, same}

abbrev pub bytes_of : (t : Texts) → Text → Number → List ℕ
bytes_of t name value = name ++ 32 ∷ t.writing value

line_unbroken : (t : Texts) (P : ℕ → Type 0) (name : Text) (value : Number) → P 32 → All P name → All P (t.writing value) → All P (bytes_of t name value)
line_unbroken t P name value space first second = All-append P name (32 ∷ t.writing value) first (All-cons P 32 (t.writing value) space second)

regroup : (name word rest : List ℕ) → (name ++ 32 ∷ (word ++ 10 ∷ [])) ++ rest ≡ (name ++ 32 ∷ word) ++ 10 ∷ rest
regroup name word rest = simp append_assoc

-- the first line of a written text
pub written_line : (t : Texts) → Returns t → (name : Text) (value : Number) (rest : List ℕ) → Plain name → t.IsShort value → lines_of (value_line_by t.writing name value ++ rest) ≡ bytes_of t name value ∷ lines_of rest
written_line t k name value rest plain fits =
    ap lines_of (regroup name (t.writing value) rest)
    ∙ plain_line_first (bytes_of t name value) rest
    (line_unbroken t (λ b. (b == 10) ≡ false) name value refl (no_feeds name plain.unbroken) (no_feeds (t.writing value) (number_unbroken t k value fits)))
    (line_unbroken t (λ b. (b == 13) ≡ false) name value refl (no_returns name plain.unbroken) (no_returns (t.writing value) (number_unbroken t k value fits)))

says : (t : Texts) → Returns t → (name : Text) (value : Number) → Plain name → t.IsShort value → line_of (bytes_of t name value) ≡ Gives name (t.writing value)
says t k name value plain fits =
    ap line_with (two_fields name (t.writing value) plain.filled (number_filled t k value fits) (no_blanks name plain.unbroken) (no_blanks (t.writing value) (number_unbroken t k value fits)))
    ∙ ap (λ (b : Bool). cond b Silent (Gives name (t.writing value))) (differ name (codes "=obj=") plain.no_objective)

no_fault : (a b c d : Bool) → a ≡ false → b ≡ false → c ≡ false → d ≡ false → first_of ((a, UnknownName) ∷ (b, TwiceNamed) ∷ (c, NumberPast) ∷ (d, BadNumber) ∷ []) ≡ None
no_fault a b c d e f g h = rw (e, f, g, h) refl

sound : (t : Texts) → Returns t → (names : List Text) (before : List Line) (name : Text) (value : Number) → Plain name → t.IsShort value → is_some (place name names) ≡ true → value_named_by t.reading before name ≡ None
    → line_fault_by t.reading names before (Gives name (t.writing value)) ≡ None
sound t k names before name value plain fits known new =
    no_fault _ _ _ _ (ap not known) (ap is_some new)
    (ap is_past (k.again value fits)) (ap is_bad (k.again value fits))

-- the values that a written text gives, after lines that name none of its columns
pub record Rests (t : Texts) (names rest : List Text) (values : List Number) (before : List Line) (lines : List Text) : Type 0 where
  pub fault : fault_from_by t.reading names before lines ≡ None
  pub point : map (value_of_by t.reading (said_from before lines)) rest ≡ values
  pub others : (other : Text) → All (λ name. bytes_eq name other ≡ false) rest → value_named_by t.reading (said_from before lines) other ≡ value_named_by t.reading before other

-- what is asked of columns
pub record Suits (t : Texts) (names rest : List Text) (values : List Number) (before : List Line) : Type 0 where
  pub plain : All Plain rest
  pub differ : Differ rest
  pub len : length values ≡ length rest
  pub fits : All t.IsShort values
  pub known : All (λ name. is_some (place name names) ≡ true) rest
  pub new : All (λ name. value_named_by t.reading before name ≡ None) rest

head_differs : (name : Text) (rest : List Text) → Differ (name ∷ rest) → All (λ other. name ≢ other) rest
head_differs name rest apart k d lt = apart 0 (suc k) d (omega arith) (omega (arith, lt))

rest_differs : (name : Text) (rest : List Text) → Differ (name ∷ rest) → Differ rest
rest_differs name rest apart i j d low lt = apart (suc i) (suc j) d (omega (arith, low)) (omega (arith, lt))

next_new : (t : Texts) (name : Text) (rest : List Text) (value : Number) (before : List Line) → Differ (name ∷ rest) → All (λ other. value_named_by t.reading before other ≡ None) rest
    → All (λ other. value_named_by t.reading (Gives name (t.writing value) ∷ before) other ≡ None) rest
next_new t name rest value before apart new k d lt =
    ap (λ (b : Bool). cond b (Some (number_in (t.reading (t.writing value)))) (value_named_by t.reading before (get_or rest k d))) (differ name (get_or rest k d) (head_differs name rest apart k d lt))
    ∙ new k d lt

-- what is asked of the columns after the first one
next : (t : Texts) (names : List Text) (name : Text) (rest : List Text) (value : Number) (values : List Number) (before : List Line) → Suits t names (name ∷ rest) (value ∷ values) before
    → Suits t names rest values (Gives name (t.writing value) ∷ before)
next t names name rest value values before s = record {
  plain = All-tail Plain name rest s.plain;
  differ = rest_differs name rest s.differ;
  len = omega (arith, s.len);
  fits = All-tail t.IsShort value values s.fits;
  known = All-tail (λ other. is_some (place other names) ≡ true) name rest s.known;
  new = next_new t name rest value before s.differ (All-tail (λ other. value_named_by t.reading before other ≡ None) name rest s.new);
}

-- no column after the first one has its name
first_alone : (name : Text) (rest : List Text) → Differ (name ∷ rest) → All (λ other. bytes_eq other name ≡ false) rest
first_alone name rest apart k d lt = differ (get_or rest k d) name (λ equal. head_differs name rest apart k d lt (sym equal))

first_value : (t : Texts) → Returns t → (name : Text) (value : Number) (before lines : List Line) → t.IsShort value → value_named_by t.reading lines name ≡ value_named_by t.reading (Gives name (t.writing value) ∷ before) name
    → value_of_by t.reading lines name ≡ value
first_value t k name value before lines fits is =
    ap (λ (o : Option Number). unwrap_or o zero_ℚ) (is ∙ ap (λ (b : Bool). cond b (Some (number_in (t.reading (t.writing value)))) (value_named_by t.reading before name)) (same name))
    ∙ ap number_in (k.again value fits)

-- one column before others
one_more : (t : Texts) → Returns t → (names : List Text) (name : Text) (rest : List Text) (value : Number) (values : List Number) (before : List Line) (lines : List Text)
    → Suits t names (name ∷ rest) (value ∷ values) before → Rests t names rest values (Gives name (t.writing value) ∷ before) lines
    → Rests t names (name ∷ rest) (value ∷ values) before (bytes_of t name value ∷ lines)
one_more t k names name rest value values before lines s r =
    let plain = All-head Plain name rest s.plain in
    let fits = All-head t.IsShort value values s.fits in
    let is = says t k name value plain fits in
    let after = ap (λ (l : Line). said_from (l ∷ before) lines) is in
    record {
      fault = ap (λ (l : Line). or_later (line_fault_by t.reading names before l) (length before + 1) (fault_from_by t.reading names (l ∷ before) lines)) is
          ∙ ap (λ (o : Option SolFaultKind). or_later o (length before + 1) (fault_from_by t.reading names (Gives name (t.writing value) ∷ before) lines))
          (sound t k names before name value plain fits (All-head (λ other. is_some (place other names) ≡ true) name rest s.known) (All-head (λ other. value_named_by t.reading before other ≡ None) name rest s.new))
          ∙ r.fault;
      point = ap₂ (λ (q : Number) (qs : List Number). q ∷ qs)
          (ap (λ (ls : List Line). value_of_by t.reading ls name) after
          ∙ first_value t k name value before (said_from (Gives name (t.writing value) ∷ before) lines) fits (r.others name (first_alone name rest s.differ)))
          (ap (λ (ls : List Line). map (value_of_by t.reading ls) rest) after ∙ r.point);
      others = λ other apart. ap (λ (ls : List Line). value_named_by t.reading ls other) after
          ∙ r.others other (All-tail (λ first. bytes_eq first other ≡ false) name rest apart)
          ∙ ap (λ (b : Bool). cond b (Some (number_in (t.reading (t.writing value)))) (value_named_by t.reading before other)) (All-head (λ first. bytes_eq first other ≡ false) name rest apart);
    }

again : (t : Texts) → Returns t → (names rest : List Text) (values : List Number) (before : List Line) → Suits t names rest values before → Rests t names rest values before (lines_of (solution_text_by t.writing rest values))
again t k names [] [] before s = record { fault = refl; point = refl; others = λ other all. refl }
again t k names [] (value ∷ values) before s = absurd (omega (arith, s.len))
again t k names (name ∷ rest) [] before s = absurd (omega (arith, s.len))
again t k names (name ∷ rest) (value ∷ values) before s =
    let first = written_line t k name value (solution_text_by t.writing rest values) (All-head Plain name rest s.plain) (All-head t.IsShort value values s.fits) in
    subst (Rests t names (name ∷ rest) (value ∷ values) before) (sym first)
    (one_more t k names name rest value values before (lines_of (solution_text_by t.writing rest values)) s
    (again t k names rest values (Gives name (t.writing value) ∷ before) (next t names name rest value values before s)))

each_known : (names : List Text) → All (λ name. is_some (place name names) ≡ true) names
each_known names k d lt = has_place (get_or names k d) names ∙ list_any_at (bytes_eq (get_or names k d)) names k d lt (same (get_or names k d))

written_again_all : (t : Texts) → Returns t → (names : List Text) (values : List Number) → All Plain names → Differ names → length values ≡ length names → All t.IsShort values
    → Rests t names names values [] (lines_of (solution_text_by t.writing names values))
written_again_all t k names values plain differ len fits =
    again t k names names values [] (record { plain = plain; differ = differ; len = len; fits = fits; known = each_known names; new = λ k d lt. refl })

pub no_fault_again : (t : Texts) → Returns t → (names : List Text) (values : List Number) → All Plain names → Differ names → length values ≡ length names → All t.IsShort values
    → first_fault_by t.reading names (solution_text_by t.writing names values) ≡ None
no_fault_again t k names values plain differ len fits = (written_again_all t k names values plain differ len fits).fault

pub point_again : (t : Texts) → Returns t → (names : List Text) (values : List Number) → All Plain names → Differ names → length values ≡ length names → All t.IsShort values
    → point_of_by t.reading names (solution_text_by t.writing names values) ≡ values
point_again t k names values plain differ len fits = (written_again_all t k names values plain differ len fits).point

-- the same after lines that say nothing
pub rows_again : (t : Texts) → Returns t → (names : List Text) (values : List Number) (n : ℕ) → All Plain names → Differ names → length values ≡ length names → All t.IsShort values
    → fault_from_by t.reading names (silent n) (lines_of (solution_text_by t.writing names values)) ≡ None
rows_again t k names values n plain differ len fits =
    (again t k names names values (silent n) (record { plain = plain; differ = differ; len = len; fits = fits; known = each_known names; new = λ k d lt. silent-named t.reading n (get_or names k d) })).fault
