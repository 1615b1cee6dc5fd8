-- The whole way.
use Rattle.std.proofs.Common.{◌≡◌, ℕ, Bool, true, false, List, [], length, append-nil, Option, Some, None, IfSome, sym, ap, ap₂, ◌∙◌, subst}
use Rattle.std.specs.List.{All}
use Rattle.std.proofs.lemmas.List.{length-map}
use Rattle.std.proofs.lemmas.List.Elements.{All-tail}
use Rattle.fractions.specs.Number.{Number}
use Rattle.exact_texts.specs.Kinds.{texts_of, wide_texts}
use Rattle.exact_texts.specs.Texts.{frac_texts, Texts}
use Rattle.lp_model.specs.declared.program.Sense.{Sense}
use Rattle.lp_model.specs.declared.program.ColumnDef.{ColumnDef}
use Rattle.lp_model.specs.declared.program.RowDef.{RowDef}
use Rattle.lp_model.specs.Meaning.{meaning}
use Rattle.lp_model.specs.Name.{IsName}
use Rattle.lp_model.specs.Names.{names_of_columns, names_of_rows, WellNamed}
use Rattle.lp_model.specs.Optimality.{Meets}
use Rattle.lp_model.proofs.Differing.{differ_tail}
use Rattle.lp_model.specs.ProgramData.{ProgramData}
use Rattle.lp_model.specs.Vectors.{vector_of}
use Rattle.undo_records.specs.Postsolve.{Postsolve}
use Rattle.mps_writer.specs.MpsText.{mps_text}
use Rattle.mps_round_trip.specs.Plain.{Plain}
use Rattle.mps_round_trip.proofs.Naming.{row_names_of, words_of}
use Rattle.mps_written_lines.specs.Words.{IsWord}
use Rattle.point_text.specs.PairText.{pair_duals_by, pair_fault_by, pair_point_by, pair_text_by}
use Rattle.point_text.specs.SolutionText.{solution_text_by}
use Rattle.point_text.specs.WrittenNames.{AreNumberedBy}
use Rattle.presolve_model.specs.Telling.{names_in}
use Rattle.presolve_model.specs.Conclusions.{Concluded}
use Rattle.presolve_model.specs.declared.conclusion.End.{End}
use Rattle.presolve_model.specs.declared.conclusion.Options.{Options}
use Rattle.presolve_model.specs.Workers.{Workers}
use Rattle.whole_way.specs.ComingBack.{IsBest}
use Rattle.whole_way.proofs.Back.{best_back, point_back}
use Rattle.whole_way.proofs.PairsBack.{pairs_back}
use Rattle.whole_way.specs.Texts.{IsProgramText, IsRecordText, IsSolutionText, IsUnmarked, PairsAgain, PostsolveWrites, PostsolveWritesPair, PresolveWrites, TextsFit}
use Rattle.whole_way.specs.Laws.{BestComesBackWhole, ComesBackWhole, PairsComeBackWhole}
use Rattle.whole_way.proofs.Words.{plain_names}
use Rattle.whole_way.proofs.Fitting.{texts_fit}

-- of both kinds that a command may be asked for
pub in_both_kinds : (P : Texts → Type 0) → P frac_texts → P wide_texts → (wide : Bool) → P (texts_of wide)
in_both_kinds P narrow any_width false = narrow
in_both_kinds P narrow any_width true = any_width

-- presolve concluded with what its texts are read as
concluded_with : (options : Options) (workers : Workers) (program read : ProgramData) (told : Postsolve) (out undoing : List ℕ)
    → (w : PresolveWrites options workers program out undoing) → IsProgramText out read → IsRecordText undoing told → Concluded options workers program read told w.ended
concluded_with options workers program read told out undoing w p r =
    let fit : TextsFit w.reduced w.told out undoing =
    subst (λ (text : List ℕ). TextsFit w.reduced w.told text undoing) (sym w.program_text)
    (subst (λ (text : List ℕ). TextsFit w.reduced w.told (mps_text w.reduced) text) (sym w.records_text) (texts_fit options workers program w.reduced w.told w.ended w.concluded w.plain w.range)) in
    subst (λ (q : ProgramData). Concluded options workers program q told w.ended) (sym fit.program_text.same ∙ p.same)
    (subst (λ (t : Postsolve). Concluded options workers program w.reduced t w.ended) (sym fit.records_text.same ∙ r.same) w.concluded)

-- a number for each of a program's columns, and for each of its rows
pub columns_numbered : (IsShort : Number → Type 0) (program : ProgramData) (lifted : List Number) → WellNamed program.objective program.rows program.columns → Plain program
    → All IsUnmarked (names_of_columns program.columns) → length lifted ≡ length program.columns → All IsShort lifted → AreNumberedBy IsShort (names_of_columns program.columns) lifted
columns_numbered IsShort program lifted named plain unmarked size short =
    let own : List (List ℕ) = names_of_columns program.columns in
    record {
      plain = plain_names own (words_of own named.column_names plain.columns) unmarked;
      differ = named.columns;
      long = size ∙ sym (length-map program.columns (λ (c : ColumnDef). c.name));
      fits = short;
    }

pub rows_numbered : (IsShort : Number → Type 0) (program : ProgramData) (prices : List Number) → WellNamed program.objective program.rows program.columns → Plain program
    → All IsUnmarked (names_of_rows program.rows) → length prices ≡ length program.rows → All IsShort prices → AreNumberedBy IsShort (names_of_rows program.rows) prices
rows_numbered IsShort program prices named plain unmarked size short =
    let own : List (List ℕ) = names_of_rows program.rows in
    let are : All IsName own = All-tail IsName program.objective own named.row_names in
    let words : All IsWord own = λ k d l. (row_names_of own are plain.rows k d l).word in
    record {
      plain = plain_names own words unmarked;
      differ = differ_tail program.objective own named.rows;
      long = size ∙ sym (length-map program.rows (λ (r : RowDef). r.name));
      fits = short;
    }

-- what is written by the names of a program's columns and rows is read again
pub read_again : (t : Texts) → PairsAgain t → (program : ProgramData) (columns rows : List (List ℕ)) (lifted : List Number) (prices : Option (List Number)) (result : List ℕ)
    → AreNumberedBy t.IsShort (names_of_columns program.columns) lifted → IfSome prices (λ d. AreNumberedBy t.IsShort (names_of_rows program.rows) d)
    → columns ≡ names_of_columns program.columns → rows ≡ names_of_rows program.rows
    → result ≡ pair_text_by t.writing columns rows lifted prices → IsSolutionText t program result lifted prices
read_again t again program columns rows lifted prices result numbered priced same same_rows text =
    let own : List (List ℕ) = names_of_columns program.columns in
    let own_rows : List (List ℕ) = names_of_rows program.rows in
    let written : result ≡ pair_text_by t.writing own own_rows lifted prices = text ∙ ap₂ (λ (cs rs : List (List ℕ)). pair_text_by t.writing cs rs lifted prices) same same_rows in
    record {
      sound = ap (pair_fault_by t.reading own own_rows) written ∙ again.fault own own_rows lifted prices numbered priced;
      same = ap (pair_point_by t.reading own) written ∙ again.point own own_rows lifted prices numbered;
      same_duals = ap (pair_duals_by t.reading own_rows) written ∙ again.duals own own_rows lifted prices numbered priced;
    }

pub same_sense : (options : Options) (workers : Workers) (program read : ProgramData) (told : Postsolve) (ended : End) → Concluded options workers program read told ended → read.sense ≡ program.sense
same_sense options workers program read told ended c = ap (λ (p : ProgramData). p.sense) c.walked.written

module _ (t : Texts) (again : PairsAgain t) (options : Options) (workers : Workers) (program read : ProgramData) (told : Postsolve) (point : List Number) (out undoing result : List ℕ)
    (w : PresolveWrites options workers program out undoing) (p : IsProgramText out read) (r : IsRecordText undoing told) (u : PostsolveWrites t told point result) where
  c : Concluded options workers program read told w.ended
  c = concluded_with options workers program read told out undoing w p r

  result_read : length u.lifted ≡ length program.columns → IsSolutionText t program result u.lifted None
  result_read size = read_again t again program (names_in told.columns) (names_in told.rows) u.lifted None result
      (columns_numbered t.IsShort program u.lifted c.named.given w.plain w.unmarked size u.short) tt c.names.columns c.names.rows
      (u.text ∙ sym (append-nil (solution_text_by t.writing (names_in told.columns) u.lifted)))

pub whole : (t : Texts) → PairsAgain t → ComesBackWhole t
whole t again options workers program read told point out undoing solution result w p r s f u =
    let back = point_back options workers program read told w.ended point u.lifted (c t again options workers program read told point out undoing result w p r u) f u.undone in
    (u.lifted, result_read t again options workers program read told point out undoing result w p r u back.size, back)

pub best_whole : (t : Texts) → PairsAgain t → BestComesBackWhole t
best_whole t again options workers program read told point out undoing solution result w p r s b u =
    let held = c t again options workers program read told point out undoing result w p r u in
    let back = point_back options workers program read told w.ended point u.lifted held b.feasible u.undone in
    let best = subst (λ (sense : Sense). IsBest sense (meaning read) (vector_of point)) (same_sense options workers program read told w.ended held) b in
    (u.lifted, result_read t again options workers program read told point out undoing result w p r u back.size, best_back options workers program read told w.ended point u.lifted held best u.undone)

pub pairs_whole : (t : Texts) → PairsAgain t → PairsComeBackWhole t
pairs_whole t again options workers program read told point duals out undoing solution result w taken unmarked p r s m u =
    let held : Concluded options workers program read told w.ended = concluded_with options workers program read told out undoing w p r in
    let met : Meets program.sense (meaning read) (vector_of point) (vector_of duals) =
    subst (λ (sense : Sense). Meets sense (meaning read) (vector_of point) (vector_of duals)) (same_sense options workers program read told w.ended held) m in
    let back = pairs_back options workers program read told w.ended point duals u.lifted u.prices held (taken (sym held.dual ∙ u.asked)) met u.undone in (
      u.lifted,
      u.prices,
      read_again t again program (names_in told.columns) (names_in told.rows) u.lifted (Some u.prices) result
          (columns_numbered t.IsShort program u.lifted held.named.given w.plain w.unmarked back.comes_back.size u.short)
          (rows_numbered t.IsShort program u.prices held.named.given w.plain unmarked back.rows u.prices_short) held.names.columns held.names.rows u.text,
      back,
    )
