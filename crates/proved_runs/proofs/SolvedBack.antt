-- What a solve wrote comes back.
use Rattle.std.proofs.Common.{◌≡◌, ℕ, Bool, true, false, cond, List, [], ◌∷◌, Option, Some, None, IfSome, refl, sym, ap, ◌∙◌, subst}
use Rattle.std.specs.List.{All}
use Rattle.std.proofs.lemmas.List.Elements.{All-nil, All-cons, All-head, All-tail}
use Rattle.fractions.specs.Lowest.{Fits}
use Rattle.fractions.specs.Number.{Number}
use Rattle.exact_texts.specs.Kinds.{texts_of}
use Rattle.exact_texts.specs.Texts.{frac_texts}
use Rattle.command_words.specs.Names.{PostsolveNames, PresolveNames, SolveNames}
use Rattle.lp_model.specs.Meaning.{meaning}
use Rattle.lp_model.specs.Names.{names_of_columns, names_of_rows}
use Rattle.lp_model.specs.Optimality.{Meets}
use Rattle.lp_model.specs.ProgramData.{ProgramData}
use Rattle.lp_model.specs.Vectors.{vector_of}
use Rattle.mps_round_trip.specs.Plain.{Plain}
use Rattle.undo_records.specs.declared.label.Label.{Label}
use Rattle.undo_records.specs.Named.{live_names}
use Rattle.undo_records.specs.Postsolve.{Postsolve}
use Rattle.presolve_model.specs.Telling.{names_in}
use Rattle.whole_way.proofs.Naming.{plain_kept}
use Rattle.whole_way.proofs.Whole.{columns_numbered, read_again, rows_numbered}
use Rattle.whole_way.specs.Laws.{NarrowIsWide}
use Rattle.whole_way.specs.Texts.{IsSolutionText, IsUnmarked, PairsAgain}
use Rattle.endings.specs.Forms.{fractions_form}
use Rattle.endings.specs.ProgramTexts.{IsProgramOf, program_in}
use Rattle.endings.specs.declared.reads.TheConstants.{INPUT_LIMIT}
use Rattle.solve_command.specs.Solving.{IsBest, solve_form}
use Rattle.two_runs.specs.ComingBack.{IsProvedBest}
use Rattle.two_runs.specs.Runs.{AreRun, CanBeWritten, duals_in, original, records_in, reduced, Way}
use Rattle.two_runs.proofs.Back.{proof_back}
use Rattle.two_runs.proofs.Joined.{held_written, Joined, joined}
use Rattle.two_runs.proofs.Layers.{read_held}
use Rattle.proved_runs.specs.Solved.{CanStand, IsSolvedBetween, SolvedComesBack}

-- what holds of all names holds of those that are live
live_all : (P : List ℕ → Type 0) (labels : List Label) → All P (names_in labels) → All P (live_names labels)
live_all P [] h = All-nil P
live_all P (l ∷ ls) h = by l.live (live_all P ls (All-tail P l.name (names_in ls) h))
  where
    by : (b : Bool) → All P (live_names ls) → All P (cond b (l.name ∷ live_names ls) (live_names ls))
    by true r = All-cons P l.name (live_names ls) (All-head P l.name (names_in ls) h) r
    by false r = r

-- what is so of all rows' names is so where there are duals
where_duals : (P : Type 0) (duals : Option (List Number)) → P → IfSome duals (λ y. P)
where_duals P None h = tt
where_duals P (Some y) h = h

-- what is read by fractions is read alike by numbers of any width
alike : NarrowIsWide → (wide : Bool) (program : ProgramData) (text : List ℕ) (point : List Number) (duals : Option (List Number))
    → IsSolutionText frac_texts program text point duals → IsSolutionText (texts_of wide) program text point duals
alike narrow false program text point duals h = h
alike narrow true program text point duals h = narrow program text point duals h

module _ (again : (wide : Bool) → PairsAgain (texts_of wide)) (narrow : NarrowIsWide) (first : PresolveNames) (between : SolveNames) (second : PostsolveNames) (way : Way) (run : AreRun first second way) (s : IsSolvedBetween between way)
    (can : CanStand (original first way)) where
  written : CanBeWritten (original first way) (duals_in second.wide (reduced way) way.solution)
  written = record {
    plain = can.plain;
    columns = can.columns;
    rows = where_duals (All IsUnmarked (names_of_rows (original first way).rows)) (duals_in second.wide (reduced way) way.solution) can.rows;
  }

  abbrev j : Joined first second.wide way
  j = joined first second way run written

  abbrev told : Postsolve
  told = records_in way

  abbrev program : ProgramData
  program = s.solved.best.0

  abbrev best : IsBest program between.pivots s.solved.text s.printed
  best = s.solved.best.3

  same : program ≡ reduced way
  same = (read_held INPUT_LIMIT (s.found.told between.input) way.output (λ text. IsProgramOf (solve_form between) text program) s.output_found s.solved.best.1).1.1
      ∙ ap (λ (fixed : Bool). program_in (fractions_form fixed) way.output) s.format

  text : s.solved.text ≡ way.solution
  text = held_written (s.found.told between.solution) (s.left.told between.solution) way.solution s.solved.text s.solution_left s.solved.text_written

  plain : Plain (reduced way)
  plain = plain_kept (original first way) (reduced way) told j.concluded.names can.plain

  columns : All IsUnmarked (names_of_columns (reduced way).columns)
  columns = subst (All IsUnmarked) (sym j.concluded.names.live_columns) (live_all IsUnmarked told.columns (subst (All IsUnmarked) (sym j.concluded.names.columns) can.columns))

  rows : All IsUnmarked (names_of_rows (reduced way).rows)
  rows = subst (All IsUnmarked) (sym j.concluded.names.live_rows) (live_all IsUnmarked told.rows (subst (All IsUnmarked) (sym j.concluded.names.rows) can.rows))

  -- the same of OUT's program
  here : IsBest (reduced way) between.pivots s.solved.text s.printed
  here = subst (λ (p : ProgramData). IsBest p between.pivots s.solved.text s.printed) same best

  is_read : IsSolutionText (texts_of second.wide) (reduced way) way.solution here.point (Some here.duals)
  is_read = alike narrow second.wide (reduced way) way.solution here.point (Some here.duals)
      (read_again frac_texts (again false) (reduced way) (names_of_columns (reduced way).columns) (names_of_rows (reduced way).rows) here.point (Some here.duals) way.solution
      (columns_numbered Fits (reduced way) here.point j.concluded.named.left plain columns here.columns here.point_fits)
      (rows_numbered Fits (reduced way) here.duals j.concluded.named.left plain rows here.rows here.duals_fit)
      refl refl (sym text ∙ here.text))

  proved : IsProvedBest second.wide (reduced way) way.solution
  proved = record {
    duals = here.duals;
    given = is_read.same_duals;
    meets = subst (λ (xs : List Number). Meets (reduced way).sense (meaning (reduced way)) (vector_of xs) (vector_of here.duals)) (sym is_read.same) here.proof;
  }

pub solved_back : ((wide : Bool) → PairsAgain (texts_of wide)) → NarrowIsWide → SolvedComesBack
solved_back again narrow first between second way run s can are =
    proof_back again first second way run (written again narrow first between second way run s can) are (proved again narrow first between second way run s can)
