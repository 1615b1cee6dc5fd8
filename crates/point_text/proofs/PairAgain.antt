-- What was written of a pair is read again.
use Rattle.std.proofs.Common.{◌≡◌, ℕ, ◌+◌, List, [], ◌∷◌, ◌++◌, length, false, Option, Some, None, refl, sym, ap, ◌∙◌, subst, arith, cond, append_assoc}
use Rattle.std.specs.Prelude.{All, codes, IfSome, option_map}
use Rattle.std.proofs.lemmas.List.Elements.{All-head, All-tail}
use Rattle.fractions.specs.Number.{Number}
use Rattle.exact_texts.specs.Texts.{Texts}
use Rattle.text_lines.specs.Lines.{lines_of}
use Rattle.text_lines.proofs.LineLaws.{plain_line_first}
use Rattle.mps_profile.specs.Texts.{Text}
use Rattle.point_text.specs.Reading.{fault_from_by}
use Rattle.point_text.specs.SolutionText.{value_line_by, solution_text_by}
use Rattle.point_text.specs.PlainNames.{Plain}
use Rattle.point_text.specs.PairText.{starts_duals, is_duals_line, column_lines, row_lines, rows_fault_by, fault_after_by, or_else, pair_fault_by, pair_point_by, pair_duals_by, given_to_by, duals_line, duals_text_by, pair_text_by}
use Rattle.point_text.specs.WrittenNames.{AreNumberedBy}
use Rattle.point_text.proofs.Again.{bytes_of, written_line, rows_again, no_fault_again, point_again}
use Rattle.point_text.proofs.Parts.{two_fields}
use Rattle.point_text.proofs.Unbroken.{Unbroken, Returns, each_unbroken, number_unbroken, no_blanks, no_feeds, no_returns, number_filled}

-- a line of a name is none of the duals
no_start : (t : Texts) → Returns t → (name : Text) (value : Number) → Plain name → t.IsShort value → is_duals_line (bytes_of t name value) ≡ false
no_start t k name value plain fits =
    ap starts_duals (two_fields name (t.writing value) plain.filled (number_filled t k value fits) (no_blanks name plain.unbroken) (no_blanks (t.writing value) (number_unbroken t k value fits)))

word_unbroken : Unbroken (codes "=duals=")
word_unbroken = each_unbroken (codes "=duals=") refl

duals_first : (rest : List ℕ) → lines_of (duals_line ++ rest) ≡ codes "=duals=" ∷ lines_of rest
duals_first rest = plain_line_first (codes "=duals=") rest (no_feeds (codes "=duals=") word_unbroken) (no_returns (codes "=duals=") word_unbroken)

-- the lines of columns and of rows in a text of columns with another text after it that has rows alone
record Parted (text before : List ℕ) (after : Option (List Text)) : Type 0 where
  pub columns : column_lines (lines_of text) ≡ lines_of before
  pub rows : row_lines (lines_of text) ≡ after

with_line : (t : Texts) → Returns t → (name : Text) (value : Number) (text columns : List ℕ) (rows : Option (List Text)) → Plain name → t.IsShort value → Parted text columns rows → Parted (value_line_by t.writing name value ++ text) (value_line_by t.writing name value ++ columns) rows
with_line t k name value text columns rows plain fits p =
    let first = written_line t k name value text plain fits in
    let no = no_start t k name value plain fits in
    record {
      columns = ap column_lines first ∙ ap (λ b. cond b [] (bytes_of t name value ∷ column_lines (lines_of text))) no
          ∙ ap (λ lines. bytes_of t name value ∷ lines) p.columns ∙ sym (written_line t k name value columns plain fits);
      rows = ap row_lines first ∙ ap (λ b. cond b (Some (lines_of text)) (row_lines (lines_of text))) no ∙ p.rows;
    }

parted : (t : Texts) → Returns t → (names : List Text) (values : List Number) (tail : List ℕ) (rows : Option (List Text)) → All Plain names → length values ≡ length names → All t.IsShort values → Parted tail [] rows
    → Parted (solution_text_by t.writing names values ++ tail) (solution_text_by t.writing names values) rows
parted t k [] [] tail rows plain long fits p = p
parted t k [] (value ∷ values) tail rows plain long fits p = absurd (omega (arith, long))
parted t k (name ∷ names) [] tail rows plain long fits p = absurd (omega (arith, long))
parted t k (name ∷ names) (value ∷ values) tail rows plain long fits p =
    subst (λ text. Parted text (solution_text_by t.writing (name ∷ names) (value ∷ values)) rows) (sym (append_assoc (value_line_by t.writing name value) (solution_text_by t.writing names values) tail))
    (with_line t k name value (solution_text_by t.writing names values ++ tail) (solution_text_by t.writing names values) rows (All-head Plain name names plain) (All-head t.IsShort value values fits)
    (parted t k names values tail rows (All-tail Plain name names plain) (omega (arith, long)) (All-tail t.IsShort value values fits) p))

-- the lines of rows of written duals
abbrev lines_of_duals : (t : Texts) → List Text → Option (List Number) → Option (List Text)
lines_of_duals t rows None = None
lines_of_duals t rows (Some duals) = Some (lines_of (solution_text_by t.writing rows duals))

duals_parted : (t : Texts) (rows : List Text) (duals : Option (List Number)) → Parted (duals_text_by t.writing rows duals) [] (lines_of_duals t rows duals)
duals_parted t rows None = record { columns = refl; rows = refl }
duals_parted t rows (Some duals) = record {
  columns = ap column_lines (duals_first (solution_text_by t.writing rows duals));
  rows = ap row_lines (duals_first (solution_text_by t.writing rows duals));
}

pair_parted : (t : Texts) → Returns t → (columns rows : List Text) (point : List Number) (duals : Option (List Number)) → AreNumberedBy t.IsShort columns point
    → Parted (pair_text_by t.writing columns rows point duals) (solution_text_by t.writing columns point) (lines_of_duals t rows duals)
pair_parted t k columns rows point duals h = parted t k columns point (duals_text_by t.writing rows duals) (lines_of_duals t rows duals) h.plain h.long h.fits (duals_parted t rows duals)

rows_sound : (t : Texts) → Returns t → (rows : List Text) (n : ℕ) (duals : Option (List Number)) → IfSome duals (λ d. AreNumberedBy t.IsShort rows d) → fault_after_by t.reading rows n (lines_of_duals t rows duals) ≡ None
rows_sound t k rows n None h = refl
rows_sound t k rows n (Some duals) h = rows_again t k rows duals n h.plain h.differ h.long h.fits

pub pair_fault_again : (t : Texts) → Returns t → (columns rows : List Text) (point : List Number) (duals : Option (List Number)) → AreNumberedBy t.IsShort columns point → IfSome duals (λ d. AreNumberedBy t.IsShort rows d)
    → pair_fault_by t.reading columns rows (pair_text_by t.writing columns rows point duals) ≡ None
pair_fault_again t k columns rows point duals h o =
    let p = pair_parted t k columns rows point duals h in
    let lines = lines_of (pair_text_by t.writing columns rows point duals) in
    ap (λ o. or_else o (rows_fault_by t.reading rows lines)) (ap (fault_from_by t.reading columns []) p.columns ∙ no_fault_again t k columns point h.plain h.differ h.long h.fits)
    ∙ ap (fault_after_by t.reading rows (length (column_lines lines) + 1)) p.rows ∙ rows_sound t k rows (length (column_lines lines) + 1) duals o

pub pair_point_again : (t : Texts) → Returns t → (columns rows : List Text) (point : List Number) (duals : Option (List Number)) → AreNumberedBy t.IsShort columns point → pair_point_by t.reading columns (pair_text_by t.writing columns rows point duals) ≡ point
pair_point_again t k columns rows point duals h =
    ap (given_to_by t.reading columns) (pair_parted t k columns rows point duals h).columns ∙ point_again t k columns point h.plain h.differ h.long h.fits

given_again : (t : Texts) → Returns t → (rows : List Text) (duals : Option (List Number)) → IfSome duals (λ d. AreNumberedBy t.IsShort rows d) → option_map (given_to_by t.reading rows) (lines_of_duals t rows duals) ≡ duals
given_again t k rows None o = refl
given_again t k rows (Some duals) o = ap Some (point_again t k rows duals o.plain o.differ o.long o.fits)

pub pair_duals_again : (t : Texts) → Returns t → (columns rows : List Text) (point : List Number) (duals : Option (List Number)) → AreNumberedBy t.IsShort columns point → IfSome duals (λ d. AreNumberedBy t.IsShort rows d)
    → pair_duals_by t.reading rows (pair_text_by t.writing columns rows point duals) ≡ duals
pair_duals_again t k columns rows point duals h o = ap (option_map (given_to_by t.reading rows)) (pair_parted t k columns rows point duals h).rows ∙ given_again t k rows duals o
