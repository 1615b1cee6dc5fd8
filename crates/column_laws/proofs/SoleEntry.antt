-- A column that leaves with its one entry.
use Rattle.std.proofs.Common.{◌≡◌, ◌≢◌, ◌⊎◌, inl, inr, ℕ, suc, arith, Bool, true, false, ◌&&◌, pos, length, List, [], ◌∷◌, ◌++◌, map, get_or, Option, Some, None, refl, sym, ap, ap₂, ◌∙◌}
use Rattle.std.specs.Prelude.{if◌then◌else◌, not, nat_eq}
use Rattle.std.specs.List.{All}
use Rattle.std.proofs.lemmas.Bool.{and_parts, cases_eq, eqb-true}
use Rattle.std.proofs.lemmas.List.Elements.{All-cons, All-filter, All-head, All-map, All-tail}
use Rattle.fractions.specs.Number.{Number, rational, zero_ℚ, ◌+ℚ◌, ◌-ℚ◌, ◌*ℚ◌}
use Rattle.fractions.specs.Ring.{ring, v, num, ◌:+◌, ◌:-◌, ◌:*◌}
use Rattle.fractions.specs.Division.{◌/ℚ◌}
use Rattle.fractions.specs.Total.{put, total}
use Rattle.fractions.specs.Comparisons.{le_ℚ-is}
use Rattle.fractions.proofs.Totals.{put-same, put-other}
use Rattle.lp_model.specs.Edits.{with_cost}
use Rattle.lp_model.specs.EndTests.{is_in_order}
use Rattle.lp_model.specs.Flags.{Flags}
use Rattle.lp_model.specs.LinearProgram.{LinearProgram}
use Rattle.lp_model.specs.Reductions.{Reduces, ReducesPairs}
use Rattle.lp_model.specs.Sparse.{Ascends, dense, has, sparse_total}
use Rattle.lp_model.specs.Vectors.{Vector}
use Rattle.lp_model.specs.declared.program.Sense.TheVariants.{Min}
use Rattle.lp_model.specs.declared.terms.Term.{Term}
use Rattle.lp_theory.specs.Elsewhere.{IsColumnSingleton, products}
use Rattle.lp_theory.specs.Nearest.{InOrder}
use Rattle.lp_theory.proofs.SparseSums.{sparse-dense}
use Rattle.undo_records.specs.Lift.{undone}
use Rattle.undo_records.specs.Ids.{AreOthers, IsEntry, ids_of, is_on}
use Rattle.undo_records.specs.Sound.{IsSound}
use Rattle.undo_records.specs.Walk.{NamesLive, after}
use Rattle.undo_records.specs.declared.undo.Undo.{Undo}
use Rattle.undo_pairs.specs.LiftPair.{undone_pair}
use Rattle.problem_model.specs.declared.edit.Edit.{Edit}
use Rattle.problem_model.specs.declared.edit.Edit.TheVariants.{AddOffset, DeleteColumn, DeleteRow}
use Rattle.problem_model.specs.Allowed.{AreAllowed, NoEntries}
use Rattle.problem_model.specs.Applied.{applied, edited}
use Rattle.problem_model.specs.EditedPrograms.{programs_edited}
use Rattle.problem_model.specs.Edits.{column_deleted, cost_set}
use Rattle.problem_model.specs.Flags.{flags_of}
use Rattle.problem_model.specs.Living.{all_flags_edited}
use Rattle.problem_model.specs.Matrices.{line_at}
use Rattle.problem_model.specs.NewNumbers.{EditIsSided}
use Rattle.problem_model.specs.Offsets.{added_by}
use Rattle.problem_model.specs.Problems.{row_at, column_at, bounds_at, cost_at, first_of, row_entries, column_entries, IsSparse}
use Rattle.problem_model.specs.Showing.{shown}
use Rattle.problem_model.specs.Sparse.{Sparse}
use Rattle.problem_laws.proofs.AtIds.{column_inside, losing-live, row_inside}
use Rattle.problem_laws.proofs.Entries.{has-live_only, live_entries_name, row_entries-ascend, row_entries-live}
use Rattle.problem_laws.proofs.Terms.{ascends-filter, dense-absent, dense-cons_other, dense-cons_same, dense-named, dense-without, has-below, has-cons_other, has-cons_same, has-without, has-without_other}
use Rattle.rule_words.specs.Owed.{Owes}
use Rattle.rule_words.proofs.Coefficients.{coefficient_in_column, coefficient_in_row}
use Rattle.rule_words.proofs.EndTestsSay.{not_true}
use Rattle.rule_words.proofs.Named.{lives, one_on}
use Rattle.edit_laws.proofs.Lists.{allowed_more, entries_first_none}
use Rattle.edit_laws.proofs.Reducing.{by_edits, pairs_by_edits}
use Rattle.ray_step_laws.proofs.RaysBack.{rays_by_edits}
use Rattle.rule_words.specs.Ray.{StepsBack}
use Rattle.rule_words.specs.StepBack.{weighed_in}
use Rattle.edit_laws.proofs.Sweeps.{added_more, programs_more}
use Rattle.column_laws.specs.SoleEntry.{cost_less, costs_less, entry_of, is_sole_at, others_of, price_of}
use Rattle.rule_words.proofs.Solid.{gap_solid}

-- ---- what conditions say
pub in_order : (l u : Option Number) → is_in_order l u ≡ true → InOrder l u
in_order None u e = tt
in_order (Some l) None e = tt
in_order (Some l) (Some u) e = (le_ℚ-is l u).0 e

pub not_whole : (w : Bool) → not w ≡ true → w ≡ false
not_whole true e = absurd (not_true e)
not_whole false e = refl

-- the terms are one, at i
pub record IsSole (i : ℕ) (es : List Term) : Type 0 where
  pub one : es ≡ first_of es ∷ []
  pub at : (first_of es).id ≡ i

pub sole : (i : ℕ) (es : List Term) → is_sole_at i es ≡ true → IsSole i es
sole i [] h = absurd (not_true h)
sole i (e ∷ []) h = record { one = refl; at = eqb-true e.id i (and_parts (nat_eq e.id i) true h).0 }
sole i (e ∷ f ∷ es) h = absurd (not_true (and_parts (nat_eq e.id i) false h).1)

-- ---- the edits of costs, column by column
module _ (p : Sparse) (t : Number) where
  abbrev pub less_on : List Term → List Edit
  less_on es = map (cost_less p t) es

  pub less_matrix : (q : Sparse) (es : List Term) → (applied q (less_on es)).matrix ≡ q.matrix
  less_matrix q [] = refl
  less_matrix q (e ∷ es) = less_matrix (cost_set q e.id (cost_at p e.id -ℚ t *ℚ e.value)) es

  pub less_allowed : (q : Sparse) (es : List Term) → All (λ e. (column_at q e.id).live ≡ true) es → AreAllowed q (less_on es)
  less_allowed q [] h = tt
  less_allowed q (e ∷ es) h = (
    All-head (λ e. (column_at q e.id).live ≡ true) e es h,
    less_allowed (cost_set q e.id (cost_at p e.id -ℚ t *ℚ e.value)) es (All-tail (λ e. (column_at q e.id).live ≡ true) e es h),
  )

  pub less_added : (es : List Term) → added_by (less_on es) ≡ zero_ℚ
  less_added [] = refl
  less_added (e ∷ es) = ap (λ k. zero_ℚ +ℚ k) (less_added es) ∙ ring rational [] (num (pos 0) :+ num (pos 0)) (num (pos 0)) refl

  pub less_flags : (es : List Term) (f : Flags) (more : List Edit) → all_flags_edited f (less_on es ++ more) ≡ all_flags_edited f more
  less_flags [] f more = refl
  less_flags (e ∷ es) f more = less_flags es f more

  pub less_no_entries : (es : List Term) (more : List Edit) → NoEntries more → NoEntries (less_on es ++ more)
  less_no_entries [] more h = h
  less_no_entries (e ∷ es) more h = less_no_entries es more h

  pub less_sided : (es : List Term) (more : List Edit) → All EditIsSided more → All EditIsSided (less_on es ++ more)
  less_sided [] more h = h
  less_sided (e ∷ es) more h = All-cons EditIsSided (cost_less p t e) (less_on es ++ more) tt (less_sided es more h)

  -- costs that are put one after the other
  abbrev pub costs_put : Vector → List Term → Vector
  costs_put f [] = f
  costs_put f (e ∷ es) = costs_put (put f e.id (cost_at p e.id -ℚ t *ℚ e.value)) es

  pub less_program : (M : LinearProgram) (es : List Term) → programs_edited M (less_on es) ≡ record M { costs = costs_put M.costs es }
  less_program M [] = refl
  less_program M (e ∷ es) = less_program (with_cost M e.id (cost_at p e.id -ℚ t *ℚ e.value)) es

  costs_put-at : (f : Vector) (es : List Term) (m n : ℕ) → Ascends m n es → (k : ℕ) → costs_put f es k ≡ (if has k es then cost_at p k -ℚ t *ℚ dense es k else f k)
  costs_put-at f [] m n a k = refl
  costs_put-at f (e ∷ es) m n a k = by (cases_eq e.id k) (costs_put-at (put f e.id (cost_at p e.id -ℚ t *ℚ e.value)) es (suc e.id) n a.3 k)
    where
      g : Vector
      g = put f e.id (cost_at p e.id -ℚ t *ℚ e.value)

      one_of : Bool → Number → Number → Number
      one_of b c d = if b then c else d

      by : (e.id ≡ k) ⊎ (e.id ≢ k) → costs_put g es k ≡ (if has k es then cost_at p k -ℚ t *ℚ dense es k else g k)
          → costs_put g es k ≡ (if has k (e ∷ es) then cost_at p k -ℚ t *ℚ dense (e ∷ es) k else f k)
      by (inl h) ih = ih
          ∙ ap (λ (b : Bool). one_of b (cost_at p k -ℚ t *ℚ dense es k) (g k)) (has-below es (suc e.id) n k a.3 (omega (arith, h)))
          ∙ ap g (sym h) ∙ put-same f e.id (cost_at p e.id -ℚ t *ℚ e.value)
          ∙ ap₂ (λ (m : ℕ) (c : Number). cost_at p m -ℚ t *ℚ c) h (sym (dense-cons_same e es k h))
          ∙ sym (ap (λ (b : Bool). one_of b (cost_at p k -ℚ t *ℚ dense (e ∷ es) k) (f k)) (has-cons_same k e es h))
      by (inr d) ih = ih
          ∙ ap₂ (one_of (has k es)) (ap (λ c. cost_at p k -ℚ t *ℚ c) (sym (dense-cons_other e es k d))) (put-other f e.id (cost_at p e.id -ℚ t *ℚ e.value) k (λ h. d (sym h)))
          ∙ sym (ap (λ (b : Bool). one_of b (cost_at p k -ℚ t *ℚ dense (e ∷ es) k) (f k)) (has-cons_other k e es d))

-- ---- a live column j, continuous, with its one entry in the live row i
pub record IsSoleEntry (p : Sparse) (j i : ℕ) : Type 0 where
  pub row : (row_at p i).live ≡ true
  pub column : (column_at p j).live ≡ true
  pub sole : IsSole i (column_entries p j)
  pub continuous : (bounds_at p j).whole ≡ false
  pub solid : (bounds_at p j).semi ≡ false

module _ (p : Sparse) (s : IsSparse p) (j i : ℕ) (f : IsSoleEntry p j i) where
  abbrev M : LinearProgram
  M = shown p

  abbrev ts : List Term
  ts = row_entries p i

  abbrev n : ℕ
  n = length p.matrix.columns

  named : has j ts ≡ true
  named = live_entries_name p i j s f.row f.column ∙ ap (has i) f.sole.one ∙ has-cons_same i (first_of (column_entries p j)) [] f.sole.at

  row_has : (k : ℕ) → M.coefficient i k ≡ dense ts k
  row_has k = coefficient_in_row p i k ∙ ap (λ (on : Bool). if on then dense ts k else zero_ℚ) f.row

  pub entry_is : M.coefficient i j ≡ entry_of p j i
  entry_is = row_has j

  entry_some : entry_of p j i ≢ zero_ℚ
  entry_some = dense-named j ts 0 n (row_entries-ascend p i s) named

  pub price_is : M.costs j /ℚ M.coefficient i j ≡ price_of p j i
  price_is = ap₂ (λ (on : Bool) (a : Number). (if on then cost_at p j else zero_ℚ) /ℚ a) f.column entry_is

  only : (m : ℕ) → m ≢ i → M.coefficient m j ≡ zero_ℚ
  only m d = coefficient_in_column p m j s.matrix
      ∙ ap (λ (on : Bool). if on then dense (column_entries p j) m else zero_ℚ) f.column
      ∙ ap (λ (es : List Term). dense es m) f.sole.one
      ∙ dense-cons_other (first_of (column_entries p j)) [] m (λ h. d (sym h ∙ f.sole.at))

  pub singleton : IsColumnSingleton M j i
  singleton = record {
    row = row_inside p i f.row;
    column = column_inside p j f.column;
    entry = λ z. entry_some (sym entry_is ∙ z);
    only = λ m l d. only m d;
    continuous = ap₂ (λ (a b : Bool). a && b) f.column f.continuous;
    solid = gap_solid (column_at p j).live (bounds_at p j) f.solid;
  }

  -- the other entries of the row
  abbrev others : List Term
  others = others_of p j i

  ascends : Ascends 0 n others
  ascends = ascends-filter (λ e. not (nat_eq e.id j)) ts 0 n (row_entries-ascend p i s)

  pub entry_sound : IsEntry (length p.matrix.rows) n i j (entry_of p j i)
  entry_sound = (row_inside p i f.row, column_inside p j f.column, entry_some)

  pub others_sound : AreOthers n j others
  others_sound = (ascends, has-without j ts)

  pub others_live : All (λ e. (column_at p e.id).live ≡ true) others
  others_live = All-filter (λ e. not (nat_eq e.id j)) (λ e. (column_at p e.id).live ≡ true) ts (row_entries-live p i)

  pub named_on : All (λ k. is_on (lives p.matrix.columns) k ≡ true) (j ∷ ids_of others)
  named_on = All-cons (λ k. is_on (lives p.matrix.columns) k ≡ true) j (ids_of others)
      (All-head (λ k. is_on (lives p.matrix.columns) k ≡ true) j [] (one_on p.matrix.columns j f.column))
      (All-map (λ k. is_on (lives p.matrix.columns) k ≡ true) (λ (e : Term). e.id) others
      (λ k d l. All-head (λ m. is_on (lives p.matrix.columns) m ≡ true) (get_or others k d).id [] (one_on p.matrix.columns (get_or others k d).id (others_live k d l))))

  pub others_have : dense others ≡ put (M.coefficient i) j zero_ℚ
  others_have w k = (dense-without j ts k ∙ (λ u. put (λ m. sym (row_has m) u) j zero_ℚ k)) w

  -- their sum is that of the row without column j
  pub sum_is : (x : Vector) → sparse_total others x ≡ products M.columns (put (M.coefficient i) j zero_ℚ) x
  sum_is x = sparse-dense others 0 n x ascends ∙ (λ u. total n (λ k. others_have u k *ℚ x k))

  -- ---- the costs
  abbrev t : Number
  t = price_of p j i

  abbrev costs_left : Vector
  costs_left = λ k. M.costs k -ℚ (M.costs j /ℚ M.coefficient i j) *ℚ M.coefficient i k

  cost_live : (k : ℕ) → has k ts ≡ true → (column_at p k).live ≡ true
  cost_live k e = (and_parts (column_at p k).live (has k (row_at p i).entries) (sym (has-live_only p.matrix.columns k (row_at p i).entries) ∙ e)).0

  cost_there : (k : ℕ) → k ≢ j → costs_put p t M.costs others k ≡ costs_left k
  cost_there k d = costs_put-at p t M.costs others 0 n ascends k
      ∙ ap₂ (λ (b : Bool) (a : Number). if b then cost_at p k -ℚ t *ℚ a else M.costs k) (has-without_other j k ts d) (dense-without j ts k ∙ put-other (dense ts) j zero_ℚ k d)
      ∙ by (has k ts) refl
      ∙ ap₂ (λ (q a : Number). M.costs k -ℚ q *ℚ a) (sym price_is) (sym (row_has k))
    where
      by : (b : Bool) → has k ts ≡ b → (if b then cost_at p k -ℚ t *ℚ dense ts k else M.costs k) ≡ M.costs k -ℚ t *ℚ dense ts k
      by true e = ap (λ (on : Bool). (if on then cost_at p k else zero_ℚ) -ℚ t *ℚ dense ts k) (sym (cost_live k e))
      by false e = ring rational (M.costs k ∷ t ∷ []) (v 0) (v 0 :- v 1 :* num (pos 0)) refl ∙ ap (λ a. M.costs k -ℚ t *ℚ a) (sym (dense-absent k ts e))

  pub costs_are : put (costs_put p t M.costs others) j zero_ℚ ≡ put costs_left j zero_ℚ
  costs_are u k = at k (cases_eq k j) u
    where
      at : (k : ℕ) → (k ≡ j) ⊎ (k ≢ j) → put (costs_put p t M.costs others) j zero_ℚ k ≡ put costs_left j zero_ℚ k
      at k (inl e) = ap (put (costs_put p t M.costs others) j zero_ℚ) e ∙ put-same (costs_put p t M.costs others) j zero_ℚ ∙ sym (ap (put costs_left j zero_ℚ) e ∙ put-same costs_left j zero_ℚ)
      at k (inr d) = put-other (costs_put p t M.costs others) j zero_ℚ k d ∙ cost_there k d ∙ sym (put-other costs_left j zero_ℚ k d)

  -- ---- the edits: the costs, the offset, and what becomes of column and row
  abbrev pub with_costs : Number → List Edit → List Edit
  with_costs gain es = costs_less p j i ++ AddOffset gain ∷ es

  abbrev pub costs_moved : LinearProgram
  costs_moved = record M { costs = costs_put p t M.costs others }

  pub row_on : (q : Sparse) → q.matrix ≡ p.matrix → (row_at q i).live ≡ true
  row_on q e = ap (λ g. (line_at g.rows i).live) e ∙ f.row

  pub column_on : (q : Sparse) → q.matrix ≡ p.matrix → (column_at q j).live ≡ true
  column_on q e = ap (λ g. (line_at g.columns j).live) e ∙ f.column

  pub out_allowed : (q : Sparse) → q.matrix ≡ p.matrix → AreAllowed q (DeleteColumn j ∷ DeleteRow i ∷ [])
  out_allowed q e = (column_on q e, (losing-live (column_deleted q j).matrix.columns q.matrix.rows j i ∙ row_on q e, tt))

  program_is : (gain : Number) (es : List Edit) → programs_edited M (with_costs gain es) ≡ programs_edited costs_moved es
  program_is gain es = programs_more (costs_less p j i) (AddOffset gain ∷ es) M ∙ ap (λ (N : LinearProgram). programs_edited N es) (less_program p t M others)

  adds : (gain : Number) (es : List Edit) → added_by es ≡ zero_ℚ → gain ≡ added_by (with_costs gain es)
  adds gain es e = ring rational (gain ∷ []) (v 0) (num (pos 0) :+ (v 0 :+ num (pos 0))) refl
      ∙ sym (added_more (costs_less p j i) (AddOffset gain ∷ es) ∙ ap₂ (λ b c. b +ℚ (gain +ℚ c)) (less_added p t others) e)

  allowed_with : (gain : Number) (es : List Edit) → ((q : Sparse) → q.matrix ≡ p.matrix → AreAllowed q es) → AreAllowed p (with_costs gain es)
  allowed_with gain es h = allowed_more p (costs_less p j i) (AddOffset gain ∷ es) (less_allowed p t p others others_live)
      (tt, h (edited (applied p (costs_less p j i)) (AddOffset gain)) (less_matrix p t p others))

  -- what is owed of edits and of a record, where what follows the costs deserves it
  pub record Ends (gain : Number) (es : List Edit) (R : LinearProgram) (u : Undo) : Type 0 where
    pub allowed : (q : Sparse) → q.matrix ≡ p.matrix → AreAllowed q es
    pub no_entries : NoEntries es
    pub nothing_added : added_by es ≡ zero_ℚ
    pub sided : All EditIsSided es
    pub program : programs_edited costs_moved es ≡ R
    pub reduces : Reduces Min M R (undone u) gain
    pub pairs : ReducesPairs Min M R (undone_pair u)
    pub rays : StepsBack M R (weighed_in u R)
    pub sound : IsSound (length p.matrix.rows) n u
    pub names : NamesLive (flags_of p) u
    pub deletes : all_flags_edited (flags_of p) es ≡ after u (flags_of p)

  pub owes_with : (gain : Number) (es : List Edit) (R : LinearProgram) (u : Undo) → Ends gain es R u → Owes p (with_costs gain es) u
  owes_with gain es R u h = record {
    allowed = allowed_with gain es h.allowed;
    ordered = entries_first_none (with_costs gain es) (less_no_entries p t others (AddOffset gain ∷ es) h.no_entries);
    reduces = by_edits p (with_costs gain es) R (undone u) gain s (allowed_with gain es h.allowed) (program_is gain es ∙ h.program) (adds gain es h.nothing_added) h.reduces;
    pairs = λ continuous. pairs_by_edits p (with_costs gain es) R (undone_pair u) s (allowed_with gain es h.allowed) (program_is gain es ∙ h.program) h.pairs;
    rays = λ continuous. rays_by_edits p (with_costs gain es) R u s (allowed_with gain es h.allowed) (program_is gain es ∙ h.program) h.rays;
    sided = λ numbers w. less_sided p t others (AddOffset gain ∷ es) (All-cons EditIsSided (AddOffset gain) es tt h.sided);
    sound = h.sound;
    names = h.names;
    deletes = less_flags p t others (flags_of p) (AddOffset gain ∷ es) ∙ h.deletes;
  }
