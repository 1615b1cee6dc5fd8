-- Lines of a group in place of all lines.
use Rattle.std.proofs.Common.{◌≡◌, ℕ, ◌<◌, true, false, List, [], ◌∷◌, length, map, refl, sym, ap, ◌∙◌, subst, arith, true≢false}
use Rattle.std.specs.List.{Contains, filter}
use Rattle.problem_model.specs.Sparse.{Sparse}
use Rattle.parallel_laws.proofs.ParallelColumns as parallel_columns
use Rattle.parallel_laws.proofs.ParallelRows as parallel_rows
use Rattle.line_groups.specs.Groups.{AreGroupsOf, LineGroups}
use Rattle.presolve_model.specs.declared.instance.Instance.{Instance}
use Rattle.presolve_model.specs.declared.instance.Rule.{Rule}
use Rattle.presolve_model.specs.declared.instance.Rule.TheVariants as rule
use Rattle.presolve_model.specs.Enabled.{enabled_on}
use Rattle.presolve_model.specs.Instances.{beside_at, goes_by_form, goes_by_groups, instances_from, reach_of}
use Rattle.presolve_model.specs.Ledger.{instance_count, Ledger}
use Rattle.presolve_model.specs.Tallies.{open_on}
use Rattle.presolve_model.proofs.Lists.{contains_filter}
use Rattle.instances.specs.Beside.{ids_beside}
use Rattle.instances.proofs.Beside.{lines_beside}
use Rattle.place_laws.proofs.Places.{from_is}
use Rattle.place_laws.proofs.ShortLists.{each_mapped, kept_is}
use Rattle.round_laws.proofs.Thinning.{passed_beside, passed_gone}
use Rattle.round_marks.specs.Marking.{Watched}
use Rattle.presolve_rounds.specs.Lines.{has_line}
use Rattle.presolve_rounds.specs.Walking.{IsGoing, IsPassed}
use Rattle.presolve_rounds.proofs.Running.{both_passed, goes_on, none_passed}
use Rattle.presolve_rounds.proofs.Sharing.{Leads}

-- an enabled one has its line
line_there : (p : Sparse) (r : Rule) (i k : ℕ) → enabled_on p (beside_at r i k) ≡ true → has_line p r i ≡ true
line_there p rule.ParallelRows i k on = (parallel_rows.said p i k on).first_live
line_there p r i k on = (parallel_columns.said p i k on).first_live

-- no rule that goes by groups goes by form
by_value : (r : Rule) → goes_by_groups r ≡ true → goes_by_form (reach_of r) ≡ false
by_value rule.ParallelRows t = refl
by_value rule.ParallelColumns t = refl
by_value r t = absurd (true≢false (sym t))

-- those at the lines of the group are those at all lines
pub passed_lines : (a : Ledger) (g : LineGroups) (r : Rule) (i : ℕ) (w v : Watched) (b c : Ledger) → AreGroupsOf g a.problem → goes_by_groups r ≡ true → IsGoing a w b → IsPassed a (map (beside_at r i) (ids_beside g r i)) w b v c → IsPassed a (instances_from (open_on a.tally) a.problem r i) w b v c
passed_lines a g r i w v b c told t going h = record {
  passed = passed_beside (open_on a.tally) a.problem (instance_count a) all some w.marks v.marks b c going.follows same among (λ x there. ap (λ (s : Rule). goes_by_form (reach_of s)) (from_is (open_on a.tally) a.problem r i x there).0 ∙ by_value r t) going.noted h.passed;
  forms = h.forms;
}
  where
    all : List Instance
    all = instances_from (open_on a.tally) a.problem r i

    some : List Instance
    some = map (beside_at r i) (ids_beside g r i)

    same : filter (enabled_on a.problem) some ≡ filter (enabled_on a.problem) all
    same = lines_beside g a.problem going.began told (open_on a.tally) r i t

    among : (x : Instance) → Contains all x → enabled_on a.problem x ≡ true → Contains some x
    among x there on = kept_is (enabled_on a.problem) some x (subst (λ (es : List Instance). Contains es x) (sym same) (contains_filter (enabled_on a.problem) all x there on))

-- ---- in turn: what comes of those that are left is what comes of all
pub record IsUnderway (a : Ledger) (all : List Instance) (w : Watched) (b : Ledger) (rest : List Instance) (v : Watched) (c : Ledger) : Type 0 where
  pub going : IsGoing a v c
  pub leads : Leads a all w b rest v c

pub underway_first : (a : Ledger) (es : List Instance) (w : Watched) (b : Ledger) → IsGoing a w b → IsUnderway a es w b es w b
underway_first a es w b going = record { going = going; leads = λ u d h. h }

pub underway_next : (a : Ledger) (all : List Instance) (w : Watched) (b : Ledger) (e : Instance) (es : List Instance) (v u : Watched) (c d : Ledger) → IsUnderway a all w b (e ∷ es) v c → IsPassed a (e ∷ []) v c u d → IsUnderway a all w b es u d
underway_next a all w b e es v u c d h passed = record {
  going = goes_on a (e ∷ []) v u c d h.going passed;
  leads = λ x y k. h.leads x y (both_passed a (e ∷ []) es v u x c d y passed k);
}

pub underway_none : (a : Ledger) (r : Rule) (i : ℕ) (all : List Instance) (w : Watched) (b : Ledger) (rest : List ℕ) (v : Watched) (c : Ledger) → length rest < 1 → IsUnderway a all w b (map (beside_at r i) rest) v c → IsPassed a all w b v c
underway_none a r i all w b [] v c l h = h.leads v c (none_passed a v c h.going)
underway_none a r i all w b (k ∷ ks) v c l h = absurd (omega (arith, l))

-- where the line is gone none of the others is enabled
pub underway_gone : (a : Ledger) (r : Rule) (i : ℕ) (all : List Instance) (w : Watched) (b : Ledger) (rest : List ℕ) (v : Watched) (c : Ledger) → has_line c.problem r i ≡ false → IsUnderway a all w b (map (beside_at r i) rest) v c → IsPassed a all w b v c
underway_gone a r i all w b rest v c off h = h.leads v c (record {
  passed = passed_gone (open_on a.tally) a.problem (instance_count a) v.marks c h.going.follows (map (beside_at r i) rest)
      (λ x there. each_mapped (λ (y : Instance). enabled_on c.problem y ≡ true → ⊥) (beside_at r i) rest x (λ k d on. true≢false (sym (line_there c.problem r i k on) ∙ off)) there);
  forms = h.going.forms;
})
