-- Instances that share their reading: met in turn up to the first one that is applied, or all left over.
use Rattle.std.proofs.Common.{◌≡◌, ℕ, suc, ◌<◌, Bool, true, false, List, [], ◌∷◌, length, get_or, ◌≤◌, sym, refl, ap, ◌∙◌, subst, arith, true≢false}
use Rattle.std.specs.List.{Contains, filter}
use Rattle.problem_model.specs.declared.part.Part.{Part}
use Rattle.problem_model.specs.Noted.{AreNoted}
use Rattle.problem_model.specs.Sparse.{Sparse}
use Rattle.presolve_model.specs.declared.instance.Instance.{Instance}
use Rattle.presolve_model.specs.declared.instance.Instance.TheVariants as at
use Rattle.presolve_model.specs.declared.instance.Rule.{Rule}
use Rattle.presolve_model.specs.declared.outcome.Outcome.{Outcome}
use Rattle.presolve_model.specs.declared.outcome.Outcome.TheVariants.{Closed, Full, Stale, Past, NotDecimal, Applied, NoMemory}
use Rattle.presolve_model.specs.Commits.{Allows, left_by}
use Rattle.presolve_model.specs.Enabled.{enabled_on}
use Rattle.presolve_model.specs.Instances.{instances_from, reach_of, rule_at, shares_reading}
use Rattle.presolve_model.specs.Ledger.{instance_count, Ledger}
use Rattle.presolve_model.specs.Scans.{proposal_of}
use Rattle.presolve_model.specs.Tables.{heads}
use Rattle.presolve_model.specs.Tallies.{Open, open_on}
use Rattle.presolve_model.proofs.Sharing.{verdicts_share_none}
use Rattle.place_laws.specs.Marks.{Marks}
use Rattle.place_laws.specs.Standing.{IsFresh}
use Rattle.place_laws.proofs.Places.{from_is}
use Rattle.place_laws.proofs.ShortLists.{kept_is, kept_passes}
use Rattle.round_laws.specs.Passing.{Follows, Passed, ReadAlike}
use Rattle.round_laws.proofs.Sharing.{fresh_alike, read_alike, row_stale, row_stopped}
use Rattle.round_marks.specs.Forming.{AreFormsOf}
use Rattle.round_marks.specs.Marking.{left_over, marked, Watched}
use Rattle.presolve_rounds.specs.Walking.{AreAlike, AreFresh, is_applied, IsGoing, IsMet, IsPassed}
use Rattle.round_laws.proofs.Tracking.{noted_count}
use Rattle.presolve_rounds.proofs.Running.{both_passed, goes_on, none_passed, over_counts, over_grows, over_noted}

behind : (e : Instance) (es : List Instance) (x : Instance) → Contains es x → Contains (e ∷ es) x
behind e es x (k, l, h) = (suc k, omega (arith, l), h)

first : (e : Instance) (es : List Instance) → Contains (e ∷ es) e
first e es = (0, omega arith, refl)

-- the first of some is there
pub first_in : (es : List Instance) (d : Instance) → 1 ≤ length es → Contains es (get_or es 0 d)
first_in [] d l = absurd (omega (arith, l))
first_in (e ∷ es) d l = first e es

-- ---- the others
others_alike : (e : Instance) (es : List Instance) (x : Instance) → ReadAlike x (e ∷ es) → ReadAlike x es
others_alike e es x h = record { parts = λ y c s. h.parts y (behind e es y c) s; by_value = λ y c. h.by_value y (behind e es y c) }

pub then_alike : (b : Ledger) (e : Instance) (es : List Instance) → AreAlike b (e ∷ es) → AreAlike b es
then_alike b e es h = record {
  enabled = λ x c. h.enabled x (behind e es x c);
  sharing = λ x c. h.sharing x (behind e es x c);
  alike = λ x c. others_alike e es x (h.alike x (behind e es x c));
}

pub then_fresh : (a b : Ledger) (e : Instance) (es : List Instance) → AreFresh a b (e ∷ es) → AreFresh a b es
then_fresh a b e es h x c = h x (behind e es x c)

-- ---- one of them is fresh, or stale
pub all_fresh : (a b : Ledger) (e : Instance) (es : List Instance) → AreAlike b es → Contains es e → IsFresh a.problem b.problem e → AreFresh a b es
all_fresh a b e es h there fresh x c = fresh_alike a.problem b.problem e x es (h.alike e there) c fresh

pub all_stale : (a : Ledger) (w v : Watched) (b : Ledger) (e : Instance) (es : List Instance) (p : Part) → IsGoing a w b → ReadAlike e es → Contains es e → (IsFresh a.problem b.problem e → ⊥) → v ≡ record { marks = left_over w.marks e p; forms = w.forms } → Contains (heads e) p
    → IsPassed a es w b v b
all_stale a w v b e es p going h there stale is own = subst (λ (x : Watched). IsPassed a es w b x b) (sym is) (record {
  passed = row_stale (open_on a.tally) a.problem (instance_count a) w.marks (left_over w.marks e p) b e es p going.follows stale h (over_grows (reach_of (rule_at e)) w.marks p) own noted;
  forms = going.forms;
})
  where
    noted : Contains (left_over w.marks e p).noted p
    noted = subst (λ (ps : List Part). Contains ps p) (noted_count (left_over w.marks e p) (reach_of (rule_at e)) (h.by_value e there)) (over_counts (reach_of (rule_at e)) w.marks p)

-- ---- what becomes of the others where one is met
not_applied : (b c : Ledger) (w : ℕ) (e : Instance) (o : Outcome) → c ≡ left_by b 0 (proposal_of b.problem w e) o → is_applied o ≡ false → c ≡ b
not_applied b c w e (Closed v) left n = left
not_applied b c w e Full left n = left
not_applied b c w e (Stale k) left n = left
not_applied b c w e Past left n = left
not_applied b c w e NotDecimal left n = left
not_applied b c w e (Applied k) left n = absurd (true≢false n)
not_applied b c w e NoMemory left n = left

module _ (opens : Open) (f : Sparse) (w : ℕ) (n k : Marks) (b c : Ledger) (p : Part) (es : List Instance) (h : Follows opens f b) (noted : AreNoted b.problem c.problem n.noted k.noted) where
  stopped_at : (e : Instance) (place : ℕ) → IsFresh f b.problem e → enabled_on b.problem e ≡ true → shares_reading (rule_at e) ≡ true → Allows b (proposal_of b.problem w e) (Applied place) → c ≡ left_by b 0 (proposal_of b.problem w e) (Applied place) → ReadAlike e es
      → Passed opens f w es (left_over k e p) c (left_over k e p) c
  stopped_at (at.Reduction r) place fresh on shares ok left alike = row_stopped opens f w n (left_over k (at.Reduction r) p) b c r es h fresh on shares ok.0.room left (over_noted b.problem c.problem n.noted (reach_of (rule_at (at.Reduction r))) k p noted) alike
  stopped_at (at.Verdict v) place fresh on shares ok left alike = absurd (verdicts_share_none v shares)

  stopped : (e : Instance) (o : Outcome) → IsFresh f b.problem e → enabled_on b.problem e ≡ true → Allows b (proposal_of b.problem w e) o → c ≡ left_by b 0 (proposal_of b.problem w e) o → is_applied o ≡ true → shares_reading (rule_at e) ≡ true → ReadAlike e es
      → Passed opens f w es (marked k e o p) c (marked k e o p) c
  stopped e (Applied place) fresh on ok left t shares alike = stopped_at e place fresh on shares ok left alike
  stopped e o fresh on ok left t shares alike = absurd (true≢false (sym t))

pub met_alike : (a : Ledger) (w : ℕ) (n k : Marks) (v : Watched) (b c : Ledger) (e : Instance) (o : Outcome) (p : Part) → Follows (open_on a.tally) a.problem b → IsFresh a.problem b.problem e → enabled_on b.problem e ≡ true → Allows b (proposal_of b.problem w e) o
    → c ≡ left_by b 0 (proposal_of b.problem w e) o → AreNoted b.problem c.problem n.noted k.noted → v.marks ≡ marked k e o p → AreFormsOf v.forms c.problem → w ≡ instance_count a → IsMet a e v b c (is_applied o)
met_alike a w n k v b c e o p h fresh on ok left noted is forms began = record {
  still = not_applied b c w e o left;
  stopped = λ t es shares alike. record {
    passed = subst (λ (x : ℕ). Passed (open_on a.tally) a.problem x es v.marks c v.marks c) began
        (subst (λ (m : Marks). Passed (open_on a.tally) a.problem w es m c m c) (sym is) (stopped (open_on a.tally) a.problem w n k b c p es h noted e o fresh on ok left t shares alike));
    forms = forms;
  };
}

-- ---- in turn: what comes of those that are left is what comes of all
abbrev pub Leads : Ledger → List Instance → Watched → Ledger → List Instance → Watched → Ledger → Type 0
Leads a es w b rest v c = (u : Watched) (d : Ledger) → IsPassed a rest v c u d → IsPassed a es w b u d

-- none was applied so far
pub record IsLeft (a : Ledger) (all : List Instance) (w : Watched) (b : Ledger) (rest : List Instance) (v : Watched) (c : Ledger) : Type 0 where
  pub same : c ≡ b
  pub going : IsGoing a v c
  pub alike : AreAlike c rest
  pub fresh : AreFresh a c rest
  pub leads : Leads a all w b rest v c

pub left_first : (a : Ledger) (es : List Instance) (w : Watched) (b : Ledger) → IsGoing a w b → AreAlike b es → AreFresh a b es → IsLeft a es w b es w b
left_first a es w b going alike fresh = record { same = refl; going = going; alike = alike; fresh = fresh; leads = λ u d h. h }

module _ (a : Ledger) (all : List Instance) (w : Watched) (b : Ledger) (e : Instance) (es : List Instance) (v u : Watched) (c d : Ledger) (h : IsLeft a all w b (e ∷ es) v c) (passed : IsPassed a (e ∷ []) v c u d) (applied : Bool) (met : IsMet a e u c d applied) where
  then_leads : Leads a all w b es u d
  then_leads x y k = h.leads x y (both_passed a (e ∷ []) es v u x c d y passed k)

  pub left_next : applied ≡ false → IsLeft a all w b es u d
  left_next f = let stays : c ≡ d = sym (met.still f) in record {
    same = sym stays ∙ h.same;
    going = goes_on a (e ∷ []) v u c d h.going passed;
    alike = subst (λ (x : Ledger). AreAlike x es) stays (then_alike c e es h.alike);
    fresh = subst (λ (x : Ledger). AreFresh a x es) stays (then_fresh a c e es h.fresh);
    leads = then_leads;
  }

  pub left_stopped : applied ≡ true → IsPassed a all w b u d
  left_stopped t = then_leads u d (met.stopped t es (h.alike.sharing e (first e es)) (others_alike e es e (h.alike.alike e (first e es))))

pub left_none : (a : Ledger) (all : List Instance) (w : Watched) (b : Ledger) (rest : List Instance) (v : Watched) (c : Ledger) → length rest < 1 → IsLeft a all w b rest v c → IsPassed a all w b v c
left_none a all w b [] v c l h = h.leads v c (none_passed a v c h.going)
left_none a all w b (e ∷ es) v c l h = absurd (omega (arith, l))

-- ---- the instances of a rule with a first id that are enabled and open
pub found_alike : (b : Ledger) (r : Rule) (k : ℕ) → shares_reading r ≡ true → AreAlike b (filter (enabled_on b.problem) (instances_from (open_on b.tally) b.problem r k))
found_alike b r k shares = record {
  enabled = λ x c. kept_passes (enabled_on b.problem) all x c;
  sharing = λ x c. ap shares_reading (from_is (open_on b.tally) b.problem r k x (there x c)).0 ∙ shares;
  alike = λ x c. read_alike (open_on b.tally) b.problem r k x (filter (enabled_on b.problem) all) shares (there x c) there;
}
  where
    all : List Instance
    all = instances_from (open_on b.tally) b.problem r k

    there : (x : Instance) → Contains (filter (enabled_on b.problem) all) x → Contains all x
    there x c = kept_is (enabled_on b.problem) all x c

-- there are none
pub none_found : (a : Ledger) (es : List Instance) (w : Watched) (b : Ledger) → length es < 1 → IsGoing a w b → IsPassed a es w b w b
none_found a [] w b l going = none_passed a w b going
none_found a (e ∷ es) w b l going = absurd (omega (arith, l))
