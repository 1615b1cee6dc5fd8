-- K15.
use Rattle.std.proofs.Common.{◌≡◌, ◌≢◌, ℕ, Bool, true, false, not, ◌&&◌, nat_eq, List, [], ◌∷◌, Option, Some, None, refl, sym, ap, ap₂, ◌∙◌, subst}
use Rattle.std.specs.Prelude.{if◌then◌else◌}
use Rattle.std.specs.List.{All}
use Rattle.std.proofs.lemmas.Bool.{and_parts, eq-eqb}
use Rattle.std.proofs.lemmas.List.Elements.{All-cons, All-head}
use Rattle.fractions.specs.Number.{Number, zero_ℚ, ◌*ℚ◌}
use Rattle.fractions.specs.Ends.{meet_high, meet_low}
use Rattle.lp_model.specs.declared.program.Sense.TheVariants.{Min}
use Rattle.lp_model.specs.declared.terms.Term.{Term}
use Rattle.lp_model.specs.Edits.{with_sides, without_row}
use Rattle.lp_model.specs.Ends.{IsSided}
use Rattle.lp_model.specs.LinearProgram.{LinearProgram}
use Rattle.lp_model.specs.Reductions.{Reduces, ReducesPairs}
use Rattle.lp_model.specs.Sparse.{dense}
use Rattle.lp_theory.specs.MetEnds.{lower_over, upper_over}
use Rattle.lp_rows.specs.ParallelRows.{AreParallelRows, parallel_rows_joined, shared_lower, shared_upper}
use Rattle.lp_rows.proofs.ParallelRows.{parallel_rows}
use Rattle.fractions.specs.declared.Numbers.{Numbers}
use Rattle.undo_records.specs.Lift.{undone}
use Rattle.undo_records.specs.Ids.{is_on}
use Rattle.undo_records.specs.declared.undo.Undo.{Undo}
use Rattle.undo_records.specs.declared.undo.Undo.TheVariants.{ParallelRows}
use Rattle.pair_laws.specs.LiftPair.{undone_pair}
use Rattle.pair_laws.specs.Records as records
use Rattle.pair_laws.proofs.RowPairs.{parallel_rows_pair}
use Rattle.problem_model.specs.declared.edit.Edit.TheVariants.{DeleteRow, SetSides}
use Rattle.problem_model.specs.declared.part.Contents.TheVariants as holding
use Rattle.problem_model.specs.Allowed.{AreAllowed}
use Rattle.problem_model.specs.EditedPrograms.{programs_edited}
use Rattle.problem_model.specs.Offsets.{added_by}
use Rattle.problem_model.specs.Problems.{IsSparse, row_at, row_entries, sides_at}
use Rattle.problem_model.specs.Raised.{committed}
use Rattle.problem_model.specs.Showing.{coefficient_of, end_if, shown}
use Rattle.problem_model.specs.Sparse.{Sparse}
use Rattle.problem_model.specs.Writing.{KeptSides}
use Rattle.problem_laws.proofs.AtIds.{row_inside}
use Rattle.problem_laws.proofs.Entries.{row_entries-ascend}
use Rattle.edit_laws.proofs.Reducing.{by_edits, pairs_by_edits}
use Rattle.ray_step_laws.proofs.Records as ray
use Rattle.ray_step_laws.proofs.RaysBack.{rays_by_edits}
use Rattle.rule_words.specs.Ray.{StepsBack}
use Rattle.rule_words.specs.StepBack.{weighed_in}
use Rattle.rule_words.specs.Entries.{has_none}
use Rattle.rule_words.specs.Owed.{Owes}
use Rattle.rule_words.proofs.Coefficients.{coefficient_in_row, end_live}
use Rattle.rule_words.proofs.EndTestsSay.{not_true}
use Rattle.rule_words.proofs.Named.{ids_on, lives, nothing_twice, one_on, two_sided}
use Rattle.row_spans.specs.Exact.{fits}
use Rattle.rule_words.specs.Multiples.{are_times, factor_of}
use Rattle.rule_words.proofs.Multiples.{times_at, times_some}
use Rattle.parallel_laws.specs.ParallelRows.{edits, enabled, factor, is_parallel, joined_lower, joined_upper, record_of}

-- ---- what the condition says: of two live rows that differ
pub record Said (first second : Bool) (i k : ℕ) (ts us : List Term) : Type 0 where
  pub first_live : first ≡ true
  pub second_live : second ≡ true
  pub differ : i ≢ k
  pub some : not (has_none ts) ≡ true
  pub room : fits (factor_of ts us) ≡ true
  pub entries : are_times (factor_of ts us) ts us ≡ true

differ_of : (i k : ℕ) → not (nat_eq i k) ≡ true → i ≢ k
differ_of i k h e = not_true (sym (ap not (eq-eqb i k e)) ∙ h)

module _ (i k : ℕ) (ts us : List Term) where
  abbrev s : Number
  s = factor_of ts us

  parts_said : is_parallel i k (holding.Entries ts) (holding.Entries us) ≡ true → Said true true i k ts us
  parts_said e =
      let e1 = and_parts (not (nat_eq i k)) (not (has_none ts) && (fits s && are_times s ts us)) e in
      let e2 = and_parts (not (has_none ts)) (fits s && are_times s ts us) e1.1 in
      let e3 = and_parts (fits s) (are_times s ts us) e2.1 in
      record {
        first_live = refl;
        second_live = refl;
        differ = differ_of i k e1.0;
        some = e2.0;
        room = e3.0;
        entries = e3.1;
      }

  says : (a b : Bool) → is_parallel i k (if a then holding.Entries ts else holding.Gone) (if b then holding.Entries us else holding.Gone) ≡ true → Said a b i k ts us
  says true true e = parts_said e
  says true false e = absurd (not_true e)
  says false b e = absurd (not_true e)

abbrev pub SaidAt : Sparse → ℕ → ℕ → Type 0
SaidAt p i k = Said (row_at p i).live (row_at p k).live i k (row_entries p i) (row_entries p k)

pub said : (p : Sparse) (i k : ℕ) → enabled p i k ≡ true → SaidAt p i k
said p i k = says i k (row_entries p i) (row_entries p k) (row_at p i).live (row_at p k).live

-- ---- ends that meet others stay finite
met_sided : (numbers : Numbers) (l u m v : Option Number) → KeptSides numbers l u → IsSided (meet_low l m) (meet_high u v)
met_sided numbers None None m v h = absurd h
met_sided numbers None (Some u) None None h = tt
met_sided numbers None (Some u) None (Some v) h = tt
met_sided numbers None (Some u) (Some m) v h = tt
met_sided numbers (Some l) u None v h = tt
met_sided numbers (Some l) u (Some m) v h = tt

module _ (p : Sparse) (sp : IsSparse p) (i k : ℕ) (f : SaidAt p i k) where
  abbrev M : LinearProgram
  M = shown p

  abbrev ts : List Term
  ts = row_entries p i

  abbrev us : List Term
  us = row_entries p k

  abbrev q : Number
  q = factor p i k

  pub factor_some : q ≢ zero_ℚ
  factor_some = times_some q ts us 0 _ (row_entries-ascend p i sp) f.some f.entries

  -- ---- what is shown of both rows
  in_row : (r j : ℕ) → (row_at p r).live ≡ true → coefficient_of p r j ≡ dense (row_entries p r) j
  in_row r j live = coefficient_in_row p r j ∙ ap (λ (on : Bool). if on then dense (row_entries p r) j else zero_ℚ) live

  entries_are : (j : ℕ) → M.coefficient i j ≡ q *ℚ M.coefficient k j
  entries_are j = in_row i j f.first_live ∙ times_at q ts us f.entries j ∙ ap (λ (a : Number). q *ℚ a) (sym (in_row k j f.second_live))

  are_parallel : AreParallelRows M i k q
  are_parallel = record {
    row = row_inside p i f.first_live;
    other = row_inside p k f.second_live;
    apart = f.differ;
    factor = factor_some;
    times = λ j l. entries_are j;
  }

  -- ---- what the edits make of it
  lower_is : joined_lower p i k ≡ shared_lower M i k q
  lower_is t = meet_low (end_if (sym f.second_live t) (sides_at p k).lower) (lower_over q (end_if (sym f.first_live t) (sides_at p i).lower) (end_if (sym f.first_live t) (sides_at p i).upper))

  upper_is : joined_upper p i k ≡ shared_upper M i k q
  upper_is t = meet_high (end_if (sym f.second_live t) (sides_at p k).upper) (upper_over q (end_if (sym f.first_live t) (sides_at p i).lower) (end_if (sym f.first_live t) (sides_at p i).upper))

  joined : programs_edited M (edits p i k) ≡ parallel_rows_joined M i k q
  joined = ap₂ (λ (x y : Option Number). without_row (with_sides M k x y) i) lower_is upper_is

  allowed : AreAllowed p (edits p i k)
  allowed = (f.second_live, (f.first_live, tt))

  reduces : Reduces Min M (shown (committed p (edits p i k))) (undone (record_of p i k)) (added_by (edits p i k))
  reduces = by_edits p (edits p i k) (parallel_rows_joined M i k q) (λ x. x) zero_ℚ sp allowed joined nothing_twice (parallel_rows M i k q are_parallel Min)

  -- ---- the record holds what is shown
  record_is : records.parallel_rows M i k q us ≡ record_of p i k
  record_is z = ParallelRows (record {
    row = i;
    kept = k;
    factor = q;
    lower = end_live (row_at p k).live (sides_at p k).lower f.second_live z;
    upper = end_live (row_at p k).live (sides_at p k).upper f.second_live z;
    entries = us;
  })

  pairs : ReducesPairs Min M (shown (committed p (edits p i k))) (undone_pair (record_of p i k))
  pairs = pairs_by_edits p (edits p i k) (parallel_rows_joined M i k q) (undone_pair (record_of p i k)) sp allowed joined
      (subst (λ (u : Undo). ReducesPairs Min M (parallel_rows_joined M i k q) (undone_pair u)) record_is
      (parallel_rows_pair M i k q us are_parallel (row_entries-ascend p k sp) (λ z j. sym (in_row k j f.second_live) z)))

  rays : StepsBack M (shown (committed p (edits p i k))) (weighed_in (record_of p i k) (shown (committed p (edits p i k))))
  rays = rays_by_edits p (edits p i k) (parallel_rows_joined M i k q) (record_of p i k) sp allowed joined
      (subst (λ (u : Undo). StepsBack M (parallel_rows_joined M i k q) (weighed_in u (parallel_rows_joined M i k q))) record_is (ray.parallel_rows M i k q us are_parallel))

  -- ---- what the record names
  rows_on : All (λ r. is_on (lives p.matrix.rows) r ≡ true) (i ∷ k ∷ [])
  rows_on = All-cons (λ r. is_on (lives p.matrix.rows) r ≡ true) i (k ∷ [])
      (All-head (λ r. is_on (lives p.matrix.rows) r ≡ true) i [] (one_on p.matrix.rows i f.first_live)) (one_on p.matrix.rows k f.second_live)

  owes_said : Owes p (edits p i k) (record_of p i k)
  owes_said = record {
    allowed = allowed;
    ordered = tt;
    reduces = reduces;
    pairs = λ continuous. pairs;
    rays = λ continuous. rays;
    sided = λ numbers h. two_sided (SetSides k (joined_lower p i k) (joined_upper p i k)) (DeleteRow i)
        (met_sided numbers (sides_at p k).lower (sides_at p k).upper (lower_over q (sides_at p i).lower (sides_at p i).upper) (upper_over q (sides_at p i).lower (sides_at p i).upper) (h.rows k f.second_live)) tt;
    sound = ((row_inside p i f.first_live, row_inside p k f.second_live, f.differ), factor_some, row_entries-ascend p k sp);
    names = (rows_on, ids_on p.matrix.columns (row_at p k).entries);
    deletes = refl;
  }

pub owes : (p : Sparse) (i k : ℕ) → IsSparse p → enabled p i k ≡ true → Owes p (edits p i k) (record_of p i k)
owes p i k s e = owes_said p s i k (said p i k e)
