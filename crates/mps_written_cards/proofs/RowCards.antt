-- What the written cards of ROWS say.
use Rattle.std.proofs.Common.{◌≡◌, ℕ, List, [], ◌∷◌, ◌++◌, map, cond, Option, Some, None, is_some, unwrap_or, refl, sym, ap, ap₂, ◌∙◌, append_assoc, subst}
use Rattle.std.specs.Prelude.{codes, is_none}
use Rattle.std.proofs.lemmas.List.{append-nil}
use Rattle.names.specs.Names.{place}
use Rattle.lp_model.specs.declared.program.RowDef.{RowDef}
use Rattle.lp_model.specs.ProgramData.{ProgramData}
use Rattle.lp_model.specs.Names.{names_of_rows}
use Rattle.mps_profile.specs.Texts.{Text}
use Rattle.mps_profile.specs.Cards.{Card, RowCard}
use Rattle.mps_profile.specs.Words.{kind_named}
use Rattle.mps_profile.specs.Rows.{row_names, row_kinds}
use Rattle.mps_profile.specs.CardFaults.{card_fault}
use Rattle.mps_profile.specs.declared.dialect.Dialect.{Dialect}
use Rattle.mps_profile.specs.declared.row_kinds.RowKind.{RowKind}
use Rattle.mps_profile.specs.declared.row_kinds.RowKind as kinds
use Rattle.mps_profile.specs.declared.faults.MpsFaultKind.TheVariants.{DuplicateName, BadRowType}
use Rattle.mps_writer.specs.declared.rows.RowType.{RowType}
use Rattle.mps_writer.specs.declared.rows.RowType.TheVariants.{Equal, AtMost, AtLeast}
use Rattle.mps_writer.specs.Sections.{type_by, type_word}
use Rattle.mps_laws.specs.Faultless.{IsFaultless}
use Rattle.mps_laws.specs.Names.{IsNumbered}
use Rattle.mps_written_lines.specs.Written.{all_rows, row_written, onto, row_cards}
use Rattle.mps_written_cards.proofs.Places.{fresh}

abbrev pub kind_by : RowType → RowKind
kind_by Equal = kinds.TheVariants.Equal
kind_by AtMost = kinds.TheVariants.AtMost
kind_by AtLeast = kinds.TheVariants.AtLeast

abbrev pub kind_of : RowDef → RowKind
kind_of row = kind_by (type_by row.lower row.upper)

word_kind : (type : RowType) → kind_named (type_word type) ≡ Some (kind_by type)
word_kind Equal = refl
word_kind AtMost = refl
word_kind AtLeast = refl

names_onto : (rows : List RowDef) (before : List Card) → row_names (onto before (map row_written rows)) ≡ row_names before ++ names_of_rows rows
names_onto [] before = sym (append-nil (row_names before))
names_onto (row ∷ rows) before = names_onto rows ((row_written row).card ∷ before) ∙ append_assoc (row_names before) (row.name ∷ []) (names_of_rows rows)

kinds_onto : (rows : List RowDef) (before : List Card) → row_kinds (onto before (map row_written rows)) ≡ row_kinds before ++ map kind_of rows
kinds_onto [] before = sym (append-nil (row_kinds before))
kinds_onto (row ∷ rows) before =
    kinds_onto rows ((row_written row).card ∷ before)
    ∙ ap (λ (o : Option RowKind). (row_kinds before ++ unwrap_or o kinds.TheVariants.Free ∷ []) ++ map kind_of rows) (word_kind (type_by row.lower row.upper))
    ∙ append_assoc (row_kinds before) (kind_of row ∷ []) (map kind_of rows)

pub names_said : (p : ProgramData) → row_names (row_cards p) ≡ names_of_rows (all_rows p)
names_said p = names_onto p.rows (RowCard (codes "N") p.objective ∷ [])

pub kinds_said : (p : ProgramData) → row_kinds (row_cards p) ≡ kinds.TheVariants.Free ∷ map kind_of p.rows
kinds_said p = kinds_onto p.rows (RowCard (codes "N") p.objective ∷ [])

row_sound : (d : Dialect) (before : List Card) (row : RowDef) → place row.name (row_names before) ≡ None → card_fault d before (row_written row).card ≡ None
row_sound d before row new =
    ap₂ (λ (o : Option ℕ) (k : Option RowKind). cond (is_some o) (Some DuplicateName) (cond (is_none k) (Some BadRowType) None)) new (word_kind (type_by row.lower row.upper))

sound_onto : (d : Dialect) (done : List Text) (rows : List RowDef) (before : List Card) → row_names before ≡ done → IsNumbered (done ++ names_of_rows rows)
    → IsFaultless d before → IsFaultless d (onto before (map row_written rows))
sound_onto d done [] before are each sound = sound
sound_onto d done (row ∷ rows) before are each sound =
    sound_onto d (done ++ row.name ∷ []) rows ((row_written row).card ∷ before) (ap (λ (names : List Text). names ++ row.name ∷ []) are)
    (subst IsNumbered (sym (append_assoc done (row.name ∷ []) (names_of_rows rows))) each)
    (row_sound d before row (ap (place row.name) are ∙ fresh done (names_of_rows rows) row.name each), sound)

pub rows_sound : (d : Dialect) (p : ProgramData) → IsNumbered (names_of_rows (all_rows p)) → IsFaultless d (row_cards p)
rows_sound d p each = sound_onto d (p.objective ∷ []) p.rows (RowCard (codes "N") p.objective ∷ []) refl each (refl, tt)
