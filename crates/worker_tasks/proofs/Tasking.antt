-- The ids of a task, one after the other.
use Rattle.std.proofs.Common.{◌≡◌, ◌+◌, ℕ, zero, suc, true, List, [], ◌∷◌, ◌++◌, length, map, take, drop, refl, sym, ap, ap₂, ◌∙◌, subst, arith, append_assoc, length-append}
use Rattle.std.specs.List.{Contains, filter, flat_map}
use Rattle.std.proofs.lemmas.List.Elements.{filter-append}
use Rattle.std.proofs.lemmas.List.{append-nil, map-append}
use Rattle.shared_book.specs.History.{Known, Shared}
use Rattle.problem_model.specs.Sparse.{Sparse}
use Rattle.presolve_model.specs.declared.instance.Instance.{Instance}
use Rattle.presolve_model.specs.declared.instance.Rule.{Rule}
use Rattle.presolve_model.specs.Enabled.{enabled_on}
use Rattle.presolve_model.specs.Given.{Proposed}
use Rattle.presolve_model.specs.Instances.{instances_from, is_open}
use Rattle.presolve_model.specs.Ledger.{Ledger}
use Rattle.presolve_model.specs.Scans.{found_at, instances_at, proposal_of}
use Rattle.presolve_model.specs.Tallies.{Open}
use Rattle.place_laws.proofs.Places.{from_is}
use Rattle.place_laws.proofs.ShortLists.{comes_from}
use Rattle.book_turns.specs.Turns.{Turn}
use Rattle.worker_tasks.specs.Tasks.{AreCommitted}
use Rattle.worker_tasks.specs.Work.{instances_in}

-- instances at ids are open
pub open_there : (opens : Open) (p : Sparse) (r : Rule) (ids : List ℕ) (e : Instance) → Contains (instances_at opens p r ids) e → is_open opens e ≡ true
open_there opens p r ids e c = let k = comes_from (instances_from opens p r) ids e c in (from_is opens p r k.0 e k.2).2

-- ---- what is found at some ids and behind them
flat_parts : {X Y : Type 0} (f : X → List Y) (xs ys : List X) → flat_map f (xs ++ ys) ≡ flat_map f xs ++ flat_map f ys
flat_parts f [] ys = refl
flat_parts f (x ∷ xs) ys = ap (λ (zs : List _). f x ++ zs) (flat_parts f xs ys) ∙ sym (append_assoc (f x) (flat_map f xs) (flat_map f ys))

halves : {X : Type 0} (k : ℕ) (xs : List X) → take k xs ++ drop k xs ≡ xs
halves zero xs = refl
halves (suc k) [] = refl
halves (suc k) (x ∷ xs) = ap (λ ys. x ∷ ys) (halves k xs)

found_parts : (opens : Open) (p : Sparse) (version : ℕ) (r : Rule) (xs ys : List ℕ) → found_at opens p version r (xs ++ ys) ≡ found_at opens p version r xs ++ found_at opens p version r ys
found_parts opens p version r xs ys =
    ap (λ (es : List Instance). map (proposal_of p version) (filter (enabled_on p) es)) (flat_parts (instances_from opens p r) xs ys)
    ∙ ap (map (proposal_of p version)) (filter-append (enabled_on p) (instances_at opens p r xs) (instances_at opens p r ys))
    ∙ map-append (proposal_of p version) (filter (enabled_on p) (instances_at opens p r xs)) (filter (enabled_on p) (instances_at opens p r ys))

committed_parts : (s : Shared Ledger) (p q r : Known Ledger Turn) (xs ys : List Proposed) → AreCommitted s p xs q → AreCommitted s q ys r → AreCommitted s p (xs ++ ys) r
committed_parts s p q r [] ys e h = subst (λ (k : Known Ledger Turn). AreCommitted s k ys r) e h
committed_parts s p q r (x ∷ xs) ys (o, k, c, rest) h = (o, k, c, committed_parts s k q r xs ys rest h)

-- ---- how far the ids of a task are gone through: what is left leads to all
module _ (opens : Open) (problem : Sparse) (version : ℕ) (rule : Rule) (s : Shared Ledger) where
  abbrev found : List ℕ → List Proposed
  found ids = found_at opens problem version rule ids

  pub record IsGone (ids rest : List ℕ) (p q : Known Ledger Turn) (before after : List Instance) (count : ℕ) : Type 0 where
    pub ends : (r : Known Ledger Turn) → AreCommitted s q (found rest) r → AreCommitted s p (found ids) r
    pub counts : count + length (found rest) ≡ length (found ids)
    pub turns : length q.mine ≡ length p.mine + count
    pub finds : after ++ instances_in (found rest) ≡ before ++ instances_in (found ids)

  pub gone_none : (ids : List ℕ) (p : Known Ledger Turn) (es : List Instance) → IsGone ids ids p p es es 0
  gone_none ids p es = record { ends = λ r h. h; counts = omega arith; turns = omega arith; finds = refl }

  pub gone_more : (ids rest front behind : List ℕ) (p q r : Known Ledger Turn) (es fs gs : List Instance) (count more all : ℕ) → front ≡ take 1 rest → behind ≡ drop 1 rest → all ≡ count + more
      → IsGone ids rest p q es fs count → AreCommitted s q (found front) r → more ≡ length (found front) → length r.mine ≡ length q.mine + more → gs ≡ fs ++ instances_in (found front) → IsGone ids behind p r es gs all
  gone_more ids rest front behind p q r es fs gs count more all ef eb ea h done long turns finds = record {
    ends = λ k c. h.ends k (subst (λ (ps : List Proposed). AreCommitted s q ps k) (sym split) (committed_parts s q r k (found front) (found behind) done c));
    counts = let l = ap length split in omega (arith, ea, long, h.counts, l, length-append (found front) (found behind));
    turns = omega (arith, turns, h.turns, ea);
    finds = ap (λ (xs : List Instance). xs ++ instances_in (found behind)) finds ∙ append_assoc fs (instances_in (found front)) (instances_in (found behind))
        ∙ ap (λ (xs : List Instance). fs ++ xs) (sym (map-append (λ (x : Proposed). x.instance) (found front) (found behind)) ∙ ap instances_in (sym split)) ∙ h.finds;
  }
    where
      split : found rest ≡ found front ++ found behind
      split = ap found (sym (halves 1 rest) ∙ ap₂ (λ (xs ys : List ℕ). xs ++ ys) (sym ef) (sym eb)) ∙ found_parts opens problem version rule front behind

  -- all of them are
  none_left : (rest : List ℕ) → length rest ≡ 0 → found rest ≡ []
  none_left [] e = refl
  none_left (k ∷ ks) e = absurd (omega (arith, e))

  module _ (ids rest : List ℕ) (p q : Known Ledger Turn) (es fs : List Instance) (count : ℕ) (h : IsGone ids rest p q es fs count) (none : length rest ≡ 0) where
    pub all_counted : count ≡ length (found ids)
    all_counted = let l = ap length (none_left rest none) in omega (arith, l, h.counts)

    pub all_committed : AreCommitted s p (found ids) q
    all_committed = h.ends q (subst (λ (ps : List Proposed). AreCommitted s q ps q) (sym (none_left rest none)) refl)

    pub all_found : fs ≡ es ++ instances_in (found ids)
    all_found = sym (append-nil fs) ∙ ap (λ (ps : List Proposed). fs ++ instances_in ps) (sym (none_left rest none)) ∙ h.finds
