-- The sides of the rows of two columns.
use Rattle.std.proofs.Common.{◌≡◌, ◌≢◌, ◌⊎◌, inl, inr, ℕ, suc, ◌+◌, ◌<◌, Bool, true, false, not, ◌&&◌, cond, List, [], ◌∷◌, ◌++◌, length, map, drop, get_or, refl, sym, ap, ap₂, ◌∙◌, append_assoc, arith}
use Rattle.std.specs.List.{filter}
use Rattle.std.proofs.lemmas.Bool.{cases_eq, or_cases}
use Rattle.std.proofs.lemmas.List.{map-append}
use Rattle.lp_model.specs.declared.terms.Term.{Term}
use Rattle.lp_model.specs.Sparse.{Ascends, has}
use Rattle.undo_records.specs.Ids.{ids_of}
use Rattle.problem_model.specs.declared.part.Part.{Part}
use Rattle.problem_model.specs.declared.part.Part.TheVariants as part
use Rattle.problem_model.specs.Matrices.{live_only}
use Rattle.problem_model.specs.Problems.{row_at}
use Rattle.problem_model.specs.Sparse.{Sparse}
use Rattle.problem_laws.proofs.Entries.{ascends-live_only, has-live_only}
use Rattle.problem_laws.proofs.Terms.{ascends-wider, has-below, not_both}
use Rattle.dual_laws.specs.DominatedColumn.{rows_of_both}
use Rattle.dual_rules.specs.Merging.{is_besides, past, sides_besides, sides_if, sides_named, starts}
use Rattle.dual_rules.proofs.Merging.{has_past, has_there, past_other, past_same, IsFirst}
use Rattle.dual_rules.proofs.Remaining.{left, one_more}

-- ---- one column
named_step : (p : Sparse) (t : Term) (ts : List Term) → sides_named p (t ∷ ts) ≡ sides_if (row_at p t.id).live t.id ++ sides_named p ts
named_step p t ts = by (row_at p t.id).live
  where
    by : (b : Bool) → map part.Sides (ids_of (cond b (t ∷ live_only p.matrix.rows ts) (live_only p.matrix.rows ts))) ≡ sides_if b t.id ++ sides_named p ts
    by true = refl
    by false = refl

-- one more
named_more : (p : Sparse) (t : Term) (ts : List Term) (x y z : List Part) (b : Bool) → b ≡ (row_at p t.id).live → x ++ sides_named p (t ∷ ts) ≡ z → y ≡ x ++ sides_if b t.id → y ++ sides_named p ts ≡ z
named_more p t ts x y z b e h g = one_more x y (sides_named p (t ∷ ts)) (sides_if b t.id) (sides_named p ts) z h (named_step p t ts ∙ ap (λ (c : Bool). sides_if c t.id ++ sides_named p ts) (sym e)) g

pub named_more_at : (p : Sparse) (ts : List Term) (i : ℕ) (t : Term) (x y z : List Part) (b : Bool) → i < length ts → t ≡ get_or ts i t → b ≡ (row_at p t.id).live → x ++ sides_named p (drop i ts) ≡ z → y ≡ x ++ sides_if b t.id
    → y ++ sides_named p (drop (i + 1) ts) ≡ z
named_more_at p ts i t x y z b l e f h g = named_more p t (drop (i + 1) ts) x y z b f (ap (λ (us : List Term). x ++ sides_named p us) (sym (left ts i t l e)) ∙ h) g

-- ---- those of the second beside the first's
abbrev Absent : Sparse → List Term → Term → Bool
Absent p ts u = not (has u.id (live_only p.matrix.rows ts))

absent_past : (p : Sparse) (r : ℕ) (ts : List Term) (u : Term) → u.id ≢ r → Absent p ts u ≡ Absent p (past r ts) u
absent_past p r ts u d = ap not (has-live_only p.matrix.rows u.id ts ∙ ap (λ (b : Bool). (row_at p u.id).live && b) (sym (has_past u.id r ts d)) ∙ sym (has-live_only p.matrix.rows u.id (past r ts)))

beyond : (p : Sparse) (n r : ℕ) (ts us : List Term) → Ascends (suc r) n us → filter (Absent p ts) us ≡ filter (Absent p (past r ts)) us
beyond p n r ts [] a = refl
beyond p n r ts (u ∷ us) a = let d : u.id ≢ r = omega (arith, a.0) in
    ap₂ (λ (b : Bool) (l : List Term). cond b (u ∷ l) l) (absent_past p r ts u d) (beyond p n r ts us (ascends-wider us (suc u.id) (suc r) n (omega (arith, a.0)) a.3))

beyond_live : (p : Sparse) (n r : ℕ) (ts us : List Term) → Ascends (suc r) n us → sides_besides p ts us ≡ sides_besides p (past r ts) us
beyond_live p n r ts us a = ap (λ (l : List Term). map part.Sides (ids_of l)) (beyond p n r ts (live_only p.matrix.rows us) (ascends-live_only p.matrix.rows us (suc r) n a))

-- the second has no entry in the first row, so that the first has one
not_second : (n r : ℕ) (ts us : List Term) → IsFirst n r ts us → has r us ≡ false → starts r ts ≡ true
not_second n r ts us f e = sym (has_there r n ts f.first) ∙ by (or_cases (has r ts) (has r us) f.some)
  where
    by : (has r ts ≡ true) ⊎ (has r us ≡ true) → has r ts ≡ true
    by (inl g) = g
    by (inr g) = absurd (not_both g e)

none_besides : (p : Sparse) (r : ℕ) (ts : List Term) → starts r ts ≡ true → is_besides p r ts ≡ false
none_besides p r ts e = ap (λ (b : Bool). (row_at p r).live && not b) e ∙ by (row_at p r).live
  where
    by : (b : Bool) → (b && false) ≡ false
    by true = refl
    by false = refl

module _ (p : Sparse) (n r : ℕ) (ts : List Term) where
  -- no entry in the first row
  skipped : (us : List Term) → IsFirst n r ts us → Ascends (suc r) n us → past r us ≡ us → sides_besides p ts us ≡ sides_if (is_besides p r ts) r ++ sides_besides p (past r ts) (past r us)
  skipped us f a e = beyond_live p n r ts us a ∙ ap (sides_besides p (past r ts)) (sym e)
      ∙ ap (λ (b : Bool). sides_if b r ++ sides_besides p (past r ts) (past r us)) (sym (none_besides p r ts (not_second n r ts us f (has-below us (suc r) n r a (omega arith)))))

  -- an entry in it
  taken : (u : Term) (us : List Term) → u.id ≡ r → Ascends r n ts → Ascends (suc r) n us → sides_besides p ts (u ∷ us) ≡ sides_if (is_besides p r ts) r ++ sides_besides p (past r ts) us
  taken u us e a b = by (row_at p u.id).live refl ∙ ap (λ (l : List Part). sides_if (is_besides p r ts) r ++ l) (beyond_live p n r ts us b)
    where
      at : (c : Bool) → map part.Sides (ids_of (cond c (u ∷ filter (Absent p ts) (live_only p.matrix.rows us)) (filter (Absent p ts) (live_only p.matrix.rows us)))) ≡ sides_if c u.id ++ sides_besides p ts us
      at true = refl
      at false = refl

      absent : (row_at p u.id).live ≡ true → Absent p ts u ≡ is_besides p r ts
      absent l = ap not (has-live_only p.matrix.rows u.id ts ∙ ap (λ (b : Bool). b && has u.id ts) l ∙ ap (λ (m : ℕ). has m ts) e ∙ has_there r n ts a)
          ∙ sym (ap (λ (b : Bool). b && not (starts r ts)) (ap (λ (m : ℕ). (row_at p m).live) (sym e) ∙ l))

      by : (c : Bool) → (row_at p u.id).live ≡ c
          → map part.Sides (ids_of (filter (Absent p ts) (cond c (u ∷ live_only p.matrix.rows us) (live_only p.matrix.rows us)))) ≡ sides_if (is_besides p r ts) r ++ sides_besides p ts us
      by true l = at (Absent p ts u) ∙ ap₂ (λ (b : Bool) (m : ℕ). sides_if b m ++ sides_besides p ts us) (absent l) e
      by false l = sym (ap (λ (b : Bool). sides_if (b && not (starts r ts)) r ++ sides_besides p ts us) (ap (λ (m : ℕ). (row_at p m).live) (sym e) ∙ l))

  besides_step : (us : List Term) → IsFirst n r ts us → sides_besides p ts us ≡ sides_if (is_besides p r ts) r ++ sides_besides p (past r ts) (past r us)
  besides_step [] f = skipped [] f tt refl
  besides_step (u ∷ us) f = by (cases_eq u.id r)
    where
      by : (u.id ≡ r) ⊎ (u.id ≢ r) → sides_besides p ts (u ∷ us) ≡ sides_if (is_besides p r ts) r ++ sides_besides p (past r ts) (past r (u ∷ us))
      by (inl e) = taken u us e f.first (ascends-wider us (suc u.id) (suc r) n (omega (arith, e)) f.second.3)
          ∙ ap (λ (l : List Term). sides_if (is_besides p r ts) r ++ sides_besides p (past r ts) l) (sym (past_same r u us e))
      by (inr d) = skipped (u ∷ us) f (omega (arith, f.second.0), f.second.1, f.second.2, f.second.3) (past_other r u us d)

-- one more
pub besides_more : (p : Sparse) (n r : ℕ) (ts us vs ws : List Term) (x y z : List Part) (b : Bool) → IsFirst n r ts us → b ≡ is_besides p r ts → vs ≡ past r ts → ws ≡ past r us
    → x ++ sides_besides p ts us ≡ z → y ≡ x ++ sides_if b r → y ++ sides_besides p vs ws ≡ z
besides_more p n r ts us vs ws x y z b f e k l h m = one_more x y (sides_besides p ts us) (sides_if b r) (sides_besides p vs ws) z h
    (besides_step p n r ts us f ∙ ap₂ (λ (q : Bool) (o : List Part). sides_if q r ++ o) (sym e) (ap₂ (sides_besides p) (sym k) (sym l))) m

-- both
both_named : (ts us : List Term) → map part.Sides (ids_of (ts ++ us)) ≡ map part.Sides (ids_of ts) ++ map part.Sides (ids_of us)
both_named ts us = ap (map part.Sides) (map-append (λ (t : Term). t.id) ts us) ∙ map-append part.Sides (ids_of ts) (ids_of us)

pub sides_of_both_named : (p : Sparse) (ts us vs ws : List Term) (x y z : List Part) → live_only p.matrix.rows ts ≡ vs → live_only p.matrix.rows us ≡ ws → y ≡ x ++ sides_named p ts → z ≡ y ++ sides_besides p ts us
    → z ≡ x ++ map part.Sides (rows_of_both vs ws)
sides_of_both_named p ts us vs ws x y z e f g h = h ∙ ap (λ (l : List Part). l ++ sides_besides p ts us) g ∙ append_assoc x (sides_named p ts) (sides_besides p ts us)
    ∙ ap (λ (l : List Part). x ++ l) (sym (both_named (live_only p.matrix.rows ts) (filter (Absent p ts) (live_only p.matrix.rows us))) ∙ ap₂ (λ (v w : List Term). map part.Sides (rows_of_both v w)) e f)
