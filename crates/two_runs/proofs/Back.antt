-- What SOL gives comes back.
use Rattle.std.proofs.Common.{◌≡◌, Bool, true, false, List, length, Option, Some, None, IfSome, refl, sym, ap, ◌∙◌, subst}
use Rattle.std.specs.List.{All}
use Rattle.std.proofs.lemmas.List.{length-map}
use Rattle.fractions.specs.Number.{Number}
use Rattle.fractions.specs.Room.{Room, in_frac}
use Rattle.exact_texts.specs.Kinds.{room_of, texts_of}
use Rattle.command_words.specs.Names.{PresolveNames}
use Rattle.lp_model.specs.declared.program.Sense.{Sense}
use Rattle.lp_model.specs.LinearProgram.{cost_at, Feasible}
use Rattle.lp_model.specs.Meaning.{meaning}
use Rattle.lp_model.specs.Names.{names_of_rows, WellNamed}
use Rattle.lp_model.specs.Optimality.{Meets}
use Rattle.lp_model.specs.ProgramData.{ProgramData}
use Rattle.lp_model.specs.Vectors.{vector_of}
use Rattle.mps_round_trip.specs.Plain.{Plain}
use Rattle.point_text.specs.WrittenNames.{AreNumberedBy}
use Rattle.undo_records.specs.Postsolve.{Postsolve}
use Rattle.presolve_model.specs.Telling.{names_in}
use Rattle.whole_way.specs.ComingBack.{ComesBack, IsBest, IsPairUndone, IsUndone, PairComesBack}
use Rattle.whole_way.proofs.Back.{best_back, point_back}
use Rattle.whole_way.proofs.PairsBack.{pairs_back, point_undone, rows_labelled}
use Rattle.whole_way.specs.Texts.{IsSolutionText, IsUnmarked, PairsAgain}
use Rattle.whole_way.proofs.Whole.{columns_numbered, read_again, rows_numbered, same_sense}
use Rattle.presolve_command.specs.Texts.{options_for, workers_for}
use Rattle.postsolve_command.specs.Given.{UndoesThem}
use Rattle.postsolve_command.specs.Lifted.{IsLifted, IsPairLift}
use Rattle.two_runs.specs.ComingBack.{BestComesBack, FeasibleComesBack, IsBroughtBack, IsProvedBest, ProofComesBack}
use Rattle.two_runs.specs.Runs.{AreShort, CanBeWritten, duals_in, original, point_in, records_in, reduced, Way}
use Rattle.two_runs.proofs.Joined.{Joined, joined}

-- ---- what is lifted
pair_undone : (m : Room) (told : Postsolve) (left : ProgramData) (point duals lifted prices : List Number) → IsPairLift m told left point duals lifted prices → IsPairUndone told left point duals lifted prices
pair_undone m told left point duals lifted prices l = record { columns = l.size; rows = l.prices_size; point_is = l.is; duals_are = l.prices_are }

-- the point is undone, with duals or without
undone : (m : Room) (told : Postsolve) (left : ProgramData) (point : List Number) (duals : Option (List Number)) (lifted : List Number) (prices : Option (List Number))
    → IsLifted m told left point duals lifted prices → IsUndone told point lifted
undone m told left point None lifted None l = record { size = l.size; is = l.is }
undone m told left point None lifted (Some ys) l = absurd l
undone m told left point (Some ds) lifted None l = absurd l
undone m told left point (Some ds) lifted (Some ys) l = point_undone told left point ds lifted ys (pair_undone m told left point ds lifted ys l)

room : (m : Room) (told : Postsolve) (left : ProgramData) (point : List Number) (duals : Option (List Number)) (lifted : List Number) (prices : Option (List Number))
    → IsLifted m told left point duals lifted prices → All m.number lifted × IfSome prices (All m.number)
room m told left point None lifted None l = (l.room, tt)
room m told left point None lifted (Some ys) l = absurd l
room m told left point (Some ds) lifted None l = absurd l
room m told left point (Some ds) lifted (Some ys) l = (l.room, l.prices_room)

-- it is short enough to be read again: what has room in a `Frac` always is
short : (wide : Bool) (way : Way) (lifted : List Number) (prices : Option (List Number)) → (wide ≡ true → AreShort way)
    → IsLifted (room_of wide) (records_in way) (reduced way) (point_in wide (reduced way) way.solution) (duals_in wide (reduced way) way.solution) lifted prices
    → All (texts_of wide).IsShort lifted × IfSome prices (All (texts_of wide).IsShort)
short false way lifted prices are l = room in_frac (records_in way) (reduced way) (point_in false (reduced way) way.solution) (duals_in false (reduced way) way.solution) lifted prices l
short true way lifted prices are l = are refl lifted prices l

priced : (m : Room) (IsShort : Number → Type 0) (program : ProgramData) (told : Postsolve) (left : ProgramData) (point : List Number) (duals : Option (List Number)) (lifted : List Number) (prices : Option (List Number))
    → WellNamed program.objective program.rows program.columns → Plain program → IfSome duals (λ y. All IsUnmarked (names_of_rows program.rows))
    → length told.rows ≡ length program.rows → IsLifted m told left point duals lifted prices → IfSome prices (All IsShort) → IfSome prices (λ d. AreNumberedBy IsShort (names_of_rows program.rows) d)
priced m IsShort program told left point None lifted None named plain unmarked many l few = tt
priced m IsShort program told left point None lifted (Some ys) named plain unmarked many l few = absurd l
priced m IsShort program told left point (Some ds) lifted None named plain unmarked many l few = absurd l
priced m IsShort program told left point (Some ds) lifted (Some ys) named plain unmarked many l few = rows_numbered IsShort program ys named plain unmarked (l.prices_size ∙ many) few

-- ---- of one way
module _ (wide : Bool) (again : PairsAgain (texts_of wide)) (first : PresolveNames) (way : Way) (can : CanBeWritten (original first way) (duals_in wide (reduced way) way.solution))
    (are : wide ≡ true → AreShort way) (j : Joined first wide way) where
  abbrev program : ProgramData
  program = original first way

  abbrev told : Postsolve
  told = records_in way

  abbrev point : List Number
  point = point_in wide (reduced way) way.solution

  abbrev duals : Option (List Number)
  duals = duals_in wide (reduced way) way.solution

  is_undone : IsUndone told point j.lifted
  is_undone = undone (room_of wide) told (reduced way) point duals j.lifted j.prices j.lifts

  as_many : length told.columns ≡ length program.columns
  as_many = sym (length-map told.columns (λ label. label.name)) ∙ ap length j.concluded.names.columns ∙ length-map program.columns (λ column. column.name)

  few : All (texts_of wide).IsShort j.lifted × IfSome j.prices (All (texts_of wide).IsShort)
  few = short wide way j.lifted j.prices are j.lifts

  is_read : IsSolutionText (texts_of wide) program way.result j.lifted j.prices
  is_read = read_again (texts_of wide) again program (names_in told.columns) (names_in told.rows) j.lifted j.prices way.result
      (columns_numbered (texts_of wide).IsShort program j.lifted j.concluded.named.given can.plain can.columns (is_undone.size ∙ as_many) few.0)
      (priced (room_of wide) (texts_of wide).IsShort program told (reduced way) point duals j.lifted j.prices j.concluded.named.given can.plain can.rows
      (rows_labelled program (reduced way) told j.concluded.names) j.lifts few.1)
      j.concluded.names.columns j.concluded.names.rows j.text

  sense : (reduced way).sense ≡ program.sense
  sense = same_sense (options_for first.options) (workers_for first.options) program (reduced way) told j.ended j.concluded

  brought : Feasible (meaning (reduced way)) (vector_of point) → IsBroughtBack first wide way
  brought f =
      let back : ComesBack program (reduced way) told.offset point j.lifted = point_back (options_for first.options) (workers_for first.options) program (reduced way) told j.ended point j.lifted j.concluded f is_undone in
      record {
        sound = is_read.sound;
        feasible = subst (λ (xs : List Number). Feasible (meaning program) (vector_of xs)) (sym is_read.same) back.feasible;
        offset = told.offset;
        printed = j.printed;
        cost = ap (λ (xs : List Number). cost_at (meaning program) (vector_of xs)) is_read.same ∙ back.cost;
      }

  best : IsBest (reduced way).sense (meaning (reduced way)) (vector_of point) → IsBest program.sense (meaning program) (vector_of (point_in wide program way.result))
  best b =
      let there : IsBest program.sense (meaning (reduced way)) (vector_of point) = subst (λ (s : Sense). IsBest s (meaning (reduced way)) (vector_of point)) sense b in
      subst (λ (xs : List Number). IsBest program.sense (meaning program) (vector_of xs)) (sym is_read.same)
      (best_back (options_for first.options) (workers_for first.options) program (reduced way) told j.ended point j.lifted j.concluded there is_undone)

  proved_by : (ds : List Number) (prices : Option (List Number)) → Meets (reduced way).sense (meaning (reduced way)) (vector_of point) (vector_of ds) → told.duals ≡ true
      → IsLifted (room_of wide) told (reduced way) point (Some ds) j.lifted prices → IsSolutionText (texts_of wide) program way.result j.lifted prices
      → IsProvedBest wide program way.result × IsBest program.sense (meaning program) (vector_of (point_in wide program way.result))
  proved_by ds None m asked l r = absurd l
  proved_by ds (Some ys) m asked l r =
      let met : Meets program.sense (meaning (reduced way)) (vector_of point) (vector_of ds) =
      subst (λ (s : Sense). Meets s (meaning (reduced way)) (vector_of point) (vector_of ds)) sense m in
      let back : PairComesBack program (reduced way) told.offset point j.lifted ys =
      pairs_back (options_for first.options) (workers_for first.options) program (reduced way) told j.ended point ds j.lifted ys j.concluded (j.taken (sym j.concluded.dual ∙ asked)) met (pair_undone (room_of wide) told (reduced way) point ds j.lifted ys l) in (
        record {
          duals = ys;
          given = r.same_duals;
          meets = subst (λ (xs : List Number). Meets program.sense (meaning program) (vector_of xs) (vector_of ys)) (sym r.same) back.meets;
        },
        subst (λ (xs : List Number). IsBest program.sense (meaning program) (vector_of xs)) (sym r.same) back.best,
      )

  proof : IsProvedBest wide (reduced way) way.solution → IsProvedBest wide program way.result × IsBest program.sense (meaning program) (vector_of (point_in wide program way.result))
  proof p = proved_by p.duals j.prices p.meets
      (subst (λ (o : Option (List Number)). UndoesThem told o) p.given j.undoes)
      (subst (λ (o : Option (List Number)). IsLifted (room_of wide) told (reduced way) point o j.lifted j.prices) p.given j.lifts) is_read

pub feasible_back : ((wide : Bool) → PairsAgain (texts_of wide)) → FeasibleComesBack
feasible_back again first second way run can are f = brought second.wide (again second.wide) first way can are (joined first second way run can) f

pub best_comes_back : ((wide : Bool) → PairsAgain (texts_of wide)) → BestComesBack
best_comes_back again first second way run can are b = best second.wide (again second.wide) first way can are (joined first second way run can) b

pub proof_back : ((wide : Bool) → PairsAgain (texts_of wide)) → ProofComesBack
proof_back again first second way run can are p = proof second.wide (again second.wide) first way can are (joined first second way run can) p
