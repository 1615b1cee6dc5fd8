-- The names of what is left are among those of the whole program.
use Rattle.std.proofs.Common.{◌≡◌, ℕ, Bool, true, false, cond, List, [], ◌∷◌, sym, subst}
use Rattle.std.specs.List.{All}
use Rattle.std.proofs.lemmas.List.Elements.{All-nil, All-cons, All-head, All-tail}
use Rattle.lp_model.specs.ProgramData.{ProgramData}
use Rattle.undo_records.specs.declared.label.Label.{Label}
use Rattle.undo_records.specs.Named.{live_names}
use Rattle.undo_records.specs.Postsolve.{Postsolve}
use Rattle.mps_round_trip.specs.Plain.{CanNameRow, HasNoReturn, Plain}
use Rattle.record_reader.specs.Matching as matching
use Rattle.presolve_model.specs.Telling.{names_in}
use Rattle.presolve_model.specs.Conclusions.{CarriesNames}

-- what holds of all names holds of those that are live
live_all : (P : List ℕ → Type 0) (labels : List Label) → All P (names_in labels) → All P (live_names labels)
live_all P [] h = All-nil P
live_all P (l ∷ ls) h = by l.live (live_all P ls (All-tail P l.name (names_in ls) h))
  where
    by : (b : Bool) → All P (live_names ls) → All P (cond b (l.name ∷ live_names ls) (live_names ls))
    by true r = All-cons P l.name (live_names ls) (All-head P l.name (names_in ls) h) r
    by false r = r

pub plain_kept : (program reduced : ProgramData) (told : Postsolve) → CarriesNames program reduced told → Plain program → Plain reduced
plain_kept program reduced told carried h = record {
  objective = subst CanNameRow (sym carried.objective) h.objective;
  rows = subst (All CanNameRow) (sym carried.live_rows) (live_all CanNameRow told.rows (subst (All CanNameRow) (sym carried.rows) h.rows));
  columns = subst (All HasNoReturn) (sym carried.live_columns) (live_all HasNoReturn told.columns (subst (All HasNoReturn) (sym carried.columns) h.columns));
}

pub names_match : (program reduced : ProgramData) (told : Postsolve) → CarriesNames program reduced told → matching.Matches told reduced
names_match program reduced told carried = record {
  columns = sym carried.live_columns;
  rows = sym carried.live_rows;
}
