-- Instances that read the same parts: stale where one of them is, and once one of them is applied.
use Rattle.std.proofs.Common.{◌≡◌, ◌⊎◌, inl, inr, suc, ℕ, ◌^◌, ◌<◌, ◌≤◌, true, List, [], ◌∷◌, length, map, refl, sym, ap, subst, arith}
use Rattle.std.specs.List.{Contains}
use Rattle.std.proofs.lemmas.List.Elements.{Contains-append_left}
use Rattle.problem_model.specs.declared.part.Part.{Part}
use Rattle.problem_model.specs.declared.part.Read.{Read}
use Rattle.problem_model.specs.Noted.{AreNoted}
use Rattle.problem_model.specs.Parts.{changes_of}
use Rattle.problem_model.specs.Raised.{risen}
use Rattle.problem_model.specs.Reading.{Agrees, read_of}
use Rattle.problem_model.specs.Sparse.{Sparse}
use Rattle.presolve_model.specs.declared.instance.Instance.{Instance}
use Rattle.presolve_model.specs.declared.instance.Instance.TheVariants as at
use Rattle.presolve_model.specs.declared.instance.Reduction.{Reduction}
use Rattle.presolve_model.specs.declared.instance.Rule.{Rule}
use Rattle.presolve_model.specs.Changes.{changed}
use Rattle.presolve_model.specs.Commits.{with_instance}
use Rattle.presolve_model.specs.Enabled.{enabled_on, reads}
use Rattle.presolve_model.specs.Instances.{instances_from, reach_of, rule_at, rule_of, shares_reading}
use Rattle.presolve_model.specs.Ledger.{Ledger}
use Rattle.presolve_model.specs.Tables.{heads, more}
use Rattle.presolve_model.specs.Tallies.{Open}
use Rattle.presolve_model.proofs.Readings.{parts_same}
use Rattle.presolve_model.proofs.Sharing as sharing
use Rattle.place_laws.specs.Marks.{Grows, IsNoted, Marks, parts_for}
use Rattle.place_laws.specs.Standing.{IsFresh, IsLaterAt}
use Rattle.round_laws.specs.Passing.{Follows, Passed, ReadAlike}
use Rattle.round_laws.proofs.Committing.{fresh_parts, passed_over}
use Rattle.round_laws.proofs.Thinning.{HasMoved, moved_differs, moved_stale}
use Rattle.round_laws.proofs.Tracking.{grows_none, noted_count, parts_kept, passed_none, passed_on, ReadsNoted, tracks_more}
use Rattle.round_laws.proofs.Turns.{follows_applied, met_still}

-- ---- each of some instances is stale and noted: they are passed over
abbrev IsLeft : Sparse → Ledger → Marks → Instance → Type 0
IsLeft f b m x = (IsFresh f b.problem x → ⊥) × IsNoted b.problem (parts_for m (reach_of (rule_at x))) x

all_left : (opens : Open) (f : Sparse) (v : ℕ) (m : Marks) (b : Ledger) (es : List Instance) → Follows opens f b → ((x : Instance) → Contains es x → IsLeft f b m x) → Passed opens f v es m b m b
all_left opens f v m b [] h left = passed_none opens f v m b h
all_left opens f v m b (x ∷ es) h left =
    let first : IsLeft f b m x = left x (0, omega arith, refl) in
    passed_on opens f v (x ∷ []) es m m m b b b (met_still opens f v m m b h (grows_none m) x (inl first.1) (passed_over f b v x h.later (λ on fresh. first.0 fresh)))
    (all_left opens f v m b es h (λ y (k, l, e). left y (suc k, omega (arith, l), e)))

-- more is marked
marked : (opens : Open) (f : Sparse) (v : ℕ) (n m : Marks) (b : Ledger) → Follows opens f b → Grows n m → Passed opens f v [] n b m b
marked opens f v n m b h kept = record { book = record { start = refl; numbers = refl; limit = refl }; before = h; committed = refl; follows = h; tracks = λ rest t. tracks_more n m rest b kept t; moved = λ a. inl refl; grows = kept }

-- ---- what reads the same is fresh alike
pub fresh_alike : (f p : Sparse) (e x : Instance) (es : List Instance) → ReadAlike e es → Contains es x → IsFresh f p e → IsFresh f p x
fresh_alike f p e x es alike c fresh = subst (λ (ps : List Part). Agrees p (map (read_of f) ps)) (sym (alike.parts x c f)) fresh

stale_alike : (f p : Sparse) (e x : Instance) (es : List Instance) → ReadAlike e es → Contains es x → (IsFresh f p e → ⊥) → IsFresh f p x → ⊥
stale_alike f p e x es alike c stale fresh = stale (subst (λ (ps : List Part). Agrees p (map (read_of f) ps)) (alike.parts x c f) fresh)

-- a part that one of them reads is noted
noted_alike : (p : Sparse) (m : Marks) (e x : Instance) (es : List Instance) → ReadAlike e es → Contains es x → ReadsNoted m.noted (reads p e) → IsNoted p (parts_for m (reach_of (rule_at x))) x
noted_alike p m e x es alike c (a, r, k) = (
  a,
  subst (λ (ps : List Part). Contains ps a) (sym (alike.parts x c p)) r,
  subst (λ (ps : List Part). Contains ps a) (sym (noted_count m (reach_of (rule_at x)) (alike.by_value x c))) k,
)

-- one of them is stale, and reads a part that is noted
pub row_noted : (opens : Open) (f : Sparse) (v : ℕ) (m : Marks) (b : Ledger) (e : Instance) (es : List Instance) → Follows opens f b → (IsFresh f b.problem e → ⊥) → ReadAlike e es → IsNoted b.problem m.noted e → Passed opens f v es m b m b
row_noted opens f v m b e es h stale alike noted = all_left opens f v m b es h (λ x c. (stale_alike f b.problem e x es alike c stale, noted_alike b.problem m e x es alike c noted))

pub row_stale : (opens : Open) (f : Sparse) (v : ℕ) (n m : Marks) (b : Ledger) (e : Instance) (es : List Instance) (a : Part) → Follows opens f b → (IsFresh f b.problem e → ⊥) → ReadAlike e es → Grows n m → Contains (heads e) a → Contains m.noted a → Passed opens f v es n b m b
row_stale opens f v n m b e es a h stale alike kept own there = passed_on opens f v [] es n m m b b b (marked opens f v n m b h kept)
    (row_noted opens f v m b e es h stale alike (a, Contains-append_left (heads e) (more e _) a own, there))

-- ---- one of them is applied: a part that it reads has changed
module _ (opens : Open) (f : Sparse) (v : ℕ) (n m : Marks) (b : Ledger) (r : Reduction) (es : List Instance) (h : Follows opens f b) (fresh : IsFresh f b.problem (at.Reduction r)) (on : enabled_on b.problem (at.Reduction r) ≡ true)
    (shares : shares_reading (rule_of r) ≡ true) (room : length b.history < b.limit) (noted : AreNoted b.problem (changed r b.problem) n.noted m.noted) where
  rises : (a : Part) → changes_of (changed r b.problem) a ≡ risen (changes_of b.problem a) → changes_of b.problem a < changes_of (changed r b.problem) a
  rises a g = let few : changes_of b.problem a ≤ length b.history = h.counted a in let short : b.limit < 2 ^ 64 = h.short in omega (arith, g, few, room, short)

  has_changed : HasMoved b.problem (changed r b.problem) (reads b.problem (at.Reduction r))
  has_changed = let (a, c, g) = sharing.one_rises b.problem r h.sparse shares on in (a, c, rises a g)

  above : (a : Part) → IsLaterAt f b.problem a → changes_of b.problem a < changes_of (changed r b.problem) a → changes_of f a < changes_of (changed r b.problem) a
  above a (inl e) l = let m : changes_of b.problem a ≡ changes_of f a = ap (λ (x : Read). x.changes) e in omega (arith, m, l)
  above a (inr k) l = omega (arith, k, l)

  stale_then : IsFresh f (changed r b.problem) (at.Reduction r) → ⊥
  stale_then = let (a, c, l) = has_changed in
      moved_stale f (changed r b.problem) (at.Reduction r) (a, subst (λ (ps : List Part). Contains ps a) (parts_same f b.problem (at.Reduction r) (fresh_parts f b.problem (at.Reduction r) fresh)) c, above a (h.later a) l)

  -- it reads a part that is noted, or would read what it read
  noted_then : ReadsNoted m.noted (reads (changed r b.problem) (at.Reduction r))
  noted_then = by (parts_kept b.problem (changed r b.problem) n.noted m.noted noted (reads (changed r b.problem) (at.Reduction r)))
    where
      by : ReadsNoted m.noted (reads (changed r b.problem) (at.Reduction r)) ⊎ (map (read_of b.problem) (reads (changed r b.problem) (at.Reduction r)) ≡ map (read_of (changed r b.problem)) (reads (changed r b.problem) (at.Reduction r)))
          → ReadsNoted m.noted (reads (changed r b.problem) (at.Reduction r))
      by (inl k) = k
      by (inr same) = let (a, c, l) = has_changed in
          absurd (moved_differs b.problem (changed r b.problem) (reads (changed r b.problem) (at.Reduction r)) (a, subst (λ (ps : List Part). Contains ps a) (parts_same (changed r b.problem) b.problem (at.Reduction r) same) c, l) (sym same))

  stopped : ReadAlike (at.Reduction r) es → Passed opens f v es m (with_instance b 0 v (at.Reduction r)) m (with_instance b 0 v (at.Reduction r))
  stopped alike = all_left opens f v m (with_instance b 0 v (at.Reduction r)) es (follows_applied opens f b v r h on room)
      (λ x c. (stale_alike f (changed r b.problem) (at.Reduction r) x es alike c stale_then, noted_alike (changed r b.problem) m (at.Reduction r) x es alike c noted_then))

pub row_stopped : (opens : Open) (f : Sparse) (v : ℕ) (n m : Marks) (b c : Ledger) (r : Reduction) (es : List Instance) → Follows opens f b → IsFresh f b.problem (at.Reduction r) → enabled_on b.problem (at.Reduction r) ≡ true → shares_reading (rule_of r) ≡ true → length b.history < b.limit
    → c ≡ with_instance b 0 v (at.Reduction r) → AreNoted b.problem c.problem n.noted m.noted → ReadAlike (at.Reduction r) es → Passed opens f v es m c m c
row_stopped opens f v n m b c r es h fresh on shares room is noted alike =
    subst (λ (x : Ledger). Passed opens f v es m x m x) (sym is) (stopped opens f v n m b r es h fresh on shares room (subst (λ (x : Ledger). AreNoted b.problem x.problem n.noted m.noted) is noted) alike)

-- ---- the instances of a rule with a first id
pub read_alike : (opens : Open) (p : Sparse) (r : Rule) (k : ℕ) (e : Instance) (es : List Instance) → shares_reading r ≡ true → Contains (instances_from opens p r k) e → ((x : Instance) → Contains es x → Contains (instances_from opens p r k) x) → ReadAlike e es
read_alike opens p r k e es shares first each = record {
  parts = λ x c s. sharing.read_alike opens p s r k x e shares (each x c) first;
  by_value = λ x c. sharing.read_by_value opens p r k x shares (each x c);
}
