-- What was found as the round began, in turn.
use Rattle.std.proofs.Common.{◌≡◌, ◌⊎◌, inl, inr, ◌<◌, ◌≤◌, ◌+◌, ℕ, zero, suc, true, List, [], ◌∷◌, ◌++◌, length, take, drop, get_or, refl, sym, ap, ◌∙◌, subst, arith, append_assoc}
use Rattle.std.specs.List.{Contains, filter}
use Rattle.std.proofs.lemmas.List.Elements.{Contains-append_right}
use Rattle.problem_model.specs.Sparse.{Sparse}
use Rattle.presolve_model.specs.declared.instance.Instance.{Instance}
use Rattle.presolve_model.specs.declared.instance.Rule.{Rule}
use Rattle.presolve_model.specs.Enabled.{enabled_on}
use Rattle.presolve_model.specs.Instances.{id_at, instances_from, rule_at, shares_reading}
use Rattle.presolve_model.specs.Ledger.{instance_count, Ledger}
use Rattle.presolve_model.specs.Order.{reduction_order, verdict_order}
use Rattle.presolve_model.specs.Scans.{instances_at}
use Rattle.presolve_model.specs.Tallies.{Open, open_on}
use Rattle.place_laws.specs.Choosing.{Around, ids_of, instances_of, visited}
use Rattle.place_laws.specs.Standing.{IsFresh}
use Rattle.place_laws.proofs.Places.{from_is}
use Rattle.place_laws.proofs.ShortLists.{comes_from, kept_is, kept_passes}
use Rattle.round_laws.specs.Passing.{ReadAlike}
use Rattle.round_laws.proofs.Committing.{fresh_enables}
use Rattle.round_laws.proofs.Sharing.{fresh_alike, read_alike}
use Rattle.round_laws.proofs.Thinning.{passed_listed}
use Rattle.presolve_rounds.specs.Marking.{Watched}
use Rattle.presolve_rounds.specs.Walking.{AreAlike, AreFresh, IsGoing, IsPassed}
use Rattle.presolve_rounds.proofs.Running.{both_passed, goes_on, none_passed}
use Rattle.presolve_rounds.proofs.Sharing.{Leads}
use Rattle.threaded_passes.specs.Listing.{AreListed, IsListed, listed_order, SharesRow, turned_order}
use Rattle.threaded_passes.proofs.Cutting.{halves}
use Rattle.threaded_passes.proofs.InOrder.{flat_append}

-- what was found is listed
pub found_listed : (a : Ledger) (n : Around) (rules : List Rule) → AreListed a (filter (enabled_on a.problem) (instances_of (open_on a.tally) a.problem n rules))
found_listed a n rules e c =
    let r = comes_from (λ (rule : Rule). instances_at (open_on a.tally) a.problem rule (ids_of n rule)) rules e (kept_is (enabled_on a.problem) (instances_of (open_on a.tally) a.problem n rules) e c) in
    let k = comes_from (instances_from (open_on a.tally) a.problem r.0) (ids_of n r.0) e r.2 in
    let is = from_is (open_on a.tally) a.problem r.0 k.0 e k.2 in
    record {
      enabled = kept_passes (enabled_on a.problem) (instances_of (open_on a.tally) a.problem n rules) e c;
      there = subst (λ (i : ℕ). Contains (instances_from (open_on a.tally) a.problem (rule_at e) i) e) (sym is.1)
          (subst (λ (rule : Rule). Contains (instances_from (open_on a.tally) a.problem rule k.0) e) (sym is.0) k.2);
    }

-- what is listed and fresh is enabled
pub listed_enabled : (a b : Ledger) (e : Instance) → IsListed a e → IsFresh a.problem b.problem e → enabled_on b.problem e ≡ true
listed_enabled a b e h fresh = fresh_enables a.problem b.problem e fresh ∙ h.enabled

-- ---- instances of one row that share their reading
module _ (a : Ledger) (e : Instance) (es : List Instance) (listed : AreListed a es) (there : Contains es e) (sharing : (x : Instance) → Contains es x → SharesRow e x) where
  -- each is among those of the first one's rule and first id
  among : (x : Instance) → Contains es x → Contains (instances_from (open_on a.tally) a.problem (rule_at e) (id_at e)) x
  among x c = let s = sharing x c in
      subst (λ (i : ℕ). Contains (instances_from (open_on a.tally) a.problem (rule_at e) i) x) s.id
      (subst (λ (r : Rule). Contains (instances_from (open_on a.tally) a.problem r (id_at x)) x) s.rule (listed x c).there)

  pub row_alike : (x : Instance) → Contains es x → ReadAlike x es
  row_alike x c = read_alike (open_on a.tally) a.problem (rule_at e) (id_at e) x es (sharing x c).sharing (among x c) among

  pub row_fresh : (b : Ledger) → IsFresh a.problem b.problem e → AreFresh a b es
  row_fresh b fresh x c = fresh_alike a.problem b.problem e x es (row_alike e there) c fresh

  pub row_enabled : (b : Ledger) → IsFresh a.problem b.problem e → AreAlike b es
  row_enabled b fresh = record {
    enabled = λ x c. listed_enabled a b x (listed x c) (row_fresh b fresh x c);
    sharing = λ x c. subst (λ (r : Rule). shares_reading r ≡ true) (sym (sharing x c).rule) (sharing x c).sharing;
    alike = row_alike;
  }

-- ---- in turn
-- what comes of those that are left is what comes of all
pub record IsOn (a : Ledger) (all : List Instance) (w : Watched) (b : Ledger) (rest : List Instance) (v : Watched) (c : Ledger) : Type 0 where
  pub going : IsGoing a v c
  pub listed : AreListed a rest
  pub leads : Leads a all w b rest v c

pub on_first : (a : Ledger) (all : List Instance) (w : Watched) (b : Ledger) → IsGoing a w b → AreListed a all → IsOn a all w b all w b
on_first a all w b going listed = record { going = going; listed = listed; leads = λ u d h. h }

pub on_next : (a : Ledger) (all : List Instance) (w : Watched) (b : Ledger) (row others rest : List Instance) (v u : Watched) (c d : Ledger) → row ++ others ≡ rest → IsOn a all w b rest v c → IsPassed a row v c u d → IsOn a all w b others u d
on_next a all w b row others rest v u c d split h passed = record {
  going = goes_on a row v u c d h.going passed;
  listed = λ e k. h.listed e (subst (λ (es : List Instance). Contains es e) split (Contains-append_right row others e k));
  leads = λ x y k. h.leads x y (subst (λ (es : List Instance). IsPassed a es v c x y) split (both_passed a row others v u x c d y passed k));
}

-- the first so many of those that are left
pub on_some : (a : Ledger) (all : List Instance) (w : Watched) (b : Ledger) (k : ℕ) (rest row others : List Instance) (v u : Watched) (c d : Ledger) → row ≡ take k rest → others ≡ drop k rest → IsOn a all w b rest v c → IsPassed a row v c u d → IsOn a all w b others u d
on_some a all w b k rest row others v u c d er eo h passed =
    on_next a all w b row others rest v u c d (ap (λ (es : List Instance). es ++ others) er ∙ ap (λ (es : List Instance). take k rest ++ es) eo ∙ halves k rest) h passed

-- ---- the first so many
-- one more of them is among those before, or is the next one
pub next_in : {X : Type 0} (k : ℕ) (xs : List X) (x d : X) → k < length xs → Contains (take (suc k) xs) x → Contains (take k xs) x ⊎ (get_or xs k d ≡ x)
next_in k [] x d l c = absurd (omega (arith, l))
next_in zero (y ∷ ys) x d l (zero, m, e) = inr e
next_in zero (y ∷ ys) x d l (suc i, m, e) = absurd (omega (arith, m))
next_in (suc k) (y ∷ ys) x d l (zero, m, e) = inl (0, omega arith, e)
next_in (suc k) (y ∷ ys) x d l (suc i, m, e) = by (next_in k ys x d (omega (arith, l)) (i, omega (arith, m), e))
  where
    by : Contains (take k ys) x ⊎ (get_or ys k d ≡ x) → Contains (y ∷ take k ys) x ⊎ (get_or ys k d ≡ x)
    by (inl (j, n, f)) = inl (suc j, omega (arith, n), f)
    by (inr f) = inr f

pub one_shares : (e : Instance) (k : ℕ) (xs : List Instance) (d : Instance) → k < length xs → ((x : Instance) → Contains (take k xs) x → SharesRow e x) → SharesRow e (get_or xs k d) → (x : Instance) → Contains (take (k + 1) xs) x → SharesRow e x
one_shares e k xs d l before here x c = by (next_in k xs x d l (subst (λ (n : ℕ). Contains (take n xs) x) more c))
  where
    more : k + 1 ≡ suc k
    more = omega arith

    by : Contains (take k xs) x ⊎ (get_or xs k d ≡ x) → SharesRow e x
    by (inl m) = before x m
    by (inr same) = subst (SharesRow e) same here

-- the first of some is among the first so many
pub first_among : {X : Type 0} (k : ℕ) (xs : List X) (d : X) → 0 < k → 1 ≤ length xs → Contains (take k xs) (get_or xs 0 d)
first_among zero xs d l m = absurd (omega (arith, l))
first_among (suc k) [] d l m = absurd (omega (arith, m))
first_among (suc k) (x ∷ xs) d l m = (0, omega arith, refl)

-- the first so many of those that are listed are
pub some_listed : (a : Ledger) (k : ℕ) (es row : List Instance) → row ≡ take k es → AreListed a es → AreListed a row
some_listed a k es row is h e c = h e (taken k es (subst (λ (xs : List Instance). Contains xs e) is c))
  where
    taken : (k : ℕ) (es : List Instance) → Contains (take k es) e → Contains es e
    taken zero es c = absurd (omega (arith, c.1))
    taken (suc k) [] c = c
    taken (suc k) (y ∷ ys) (zero, l, f) = (0, omega arith, f)
    taken (suc k) (y ∷ ys) (suc i, l, f) = let r = taken k ys (i, omega (arith, l), f) in (suc r.0, (let m = r.1 in omega (arith, m)), r.2)

pub first_listed : (a : Ledger) (es : List Instance) (d : Instance) → 1 ≤ length es → AreListed a es → IsListed a (get_or es 0 d)
first_listed a [] d l h = absurd (omega (arith, l))
first_listed a (e ∷ es) d l h = h e (0, omega arith, refl)

pub one_taken : {X : Type 0} (xs : List X) (d : X) → 1 ≤ length xs → get_or xs 0 d ∷ [] ≡ take 1 xs
one_taken [] d l = absurd (omega (arith, l))
one_taken (x ∷ xs) d l = refl

-- none is left
pub none_left : (a : Ledger) (all : List Instance) (w : Watched) (b : Ledger) (rest : List Instance) (v : Watched) (c : Ledger) → length rest < 1 → IsOn a all w b rest v c → IsPassed a all w b v c
none_left a all w b [] v c l h = h.leads v c (none_passed a v c h.going)
none_left a all w b (e ∷ es) v c l h = absurd (omega (arith, l))

-- ---- the whole pass
pub listed_passed : (a : Ledger) (es : List Instance) (w v : Watched) (b c : Ledger) → b.problem ≡ a.problem → IsPassed a (filter (enabled_on a.problem) es) w b v c → IsPassed a es w b v c
listed_passed a es w v b c here h = record { passed = passed_listed (open_on a.tally) a.problem (instance_count a) es w.marks v.marks b c here h.passed; forms = h.forms }

pub all_visited : (opens : Open) (p : Sparse) (n : Around) → instances_of opens p n listed_order ++ instances_of opens p n turned_order ≡ visited opens p n
all_visited opens p n =
    let at : Rule → List Instance = λ rule. instances_at opens p rule (ids_of n rule) in
    ap (λ (es : List Instance). es ++ instances_of opens p n turned_order) (flat_append at verdict_order (take 14 reduction_order))
    ∙ append_assoc (instances_of opens p n verdict_order) (instances_of opens p n (take 14 reduction_order)) (instances_of opens p n turned_order)
    ∙ ap (λ (es : List Instance). instances_of opens p n verdict_order ++ es) (sym (flat_append at (take 14 reduction_order) (drop 14 reduction_order)) ∙ ap (instances_of opens p n) (halves 14 reduction_order))
