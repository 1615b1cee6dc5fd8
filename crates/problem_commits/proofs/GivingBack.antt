-- Entries set, and given back.
use Rattle.std.proofs.Common.{◌≡◌, ◌≢◌, ℕ, suc, ◌<◌, ◌≤◌, arith, true, List, [], ◌∷◌, ◌++◌, length, refl, sym, ap, ◌∙◌, subst, append_assoc}
use Rattle.std.specs.List.{All}
use Rattle.std.proofs.lemmas.List.{map-append}
use Rattle.std.proofs.lemmas.List.Elements.{All-nil, All-cons, All-head, All-tail, All-push, All-weaker}
use Rattle.lp_model.specs.declared.terms.Term.{Term}
use Rattle.problem_model.specs.declared.edit.Edit.{Edit}
use Rattle.problem_model.specs.declared.edit.Edit.TheVariants.{SetEntry}
use Rattle.problem_model.specs.Allowed.{AreAllowed, EntriesFirst}
use Rattle.problem_model.specs.Applied.{applied}
use Rattle.problem_model.specs.Edits.{entry_set}
use Rattle.problem_model.specs.Offsets.{OffsetFits}
use Rattle.problem_model.specs.Problems.{row_at, IsSparse}
use Rattle.problem_model.specs.Sparse.{Sparse}
use Rattle.problem_laws.proofs.EntriesKept.{put_row_live}
use Rattle.entry_lines.specs.declared.entries.Replaced.{Replaced}
use Rattle.entry_lines.specs.Putting.{entries_given, entries_set, GivesBack, IdsAscend}
use Rattle.problem_commits.specs.Restoring.{restored, run_of, IsRun, NoneBehind, CanGive, CanRestore, IsTrail, MayGoOn}

-- ---- one more at the end
restored_last : (rs : List Replaced) (r : Replaced) (q : Sparse) → restored (rs ++ r ∷ []) q ≡ restored rs (entries_given q r)
restored_last [] r q = refl
restored_last (x ∷ rs) r q = ap (λ (o : Sparse). entries_given o x) (restored_last rs r q)

can_last : (rs : List Replaced) (r : Replaced) (q : Sparse) → CanGive q r → CanRestore rs (entries_given q r) → CanRestore (rs ++ r ∷ []) q
can_last [] r q g c = (g, tt)
can_last (x ∷ rs) r q g c = (subst (λ (o : Sparse). CanGive o x) (sym (restored_last rs r q)) c.0, can_last rs r q g c.1)

last_can : (rs : List Replaced) (r : Replaced) (q : Sparse) → CanRestore (rs ++ r ∷ []) q → CanGive q r × CanRestore rs (entries_given q r)
last_can [] r q c = (c.0, tt)
last_can (x ∷ rs) r q c = let d = last_can rs r q c.1 in (d.0, (subst (λ (o : Sparse). CanGive o x) (restored_last rs r q) c.0, d.1))

-- what was replaced since leads back to q, and from there the others to p
pub trail_more : (all rs : List Replaced) (p q r : Sparse) (b : Replaced) → all ≡ rs ++ b ∷ [] → IsSparse q → GivesBack b r q → IsTrail rs p q → IsTrail all p r
trail_more all rs p q r b made s g t = subst (λ (ls : List Replaced). IsTrail ls p r) (sym made) (record {
  back = restored_last rs b r ∙ ap (restored rs) g.back ∙ t.back;
  can = can_last rs b r (record { rows = g.rows; column = g.column; sound = subst IsSparse (sym g.back) s }) (subst (CanRestore rs) (sym g.back) t.can);
})

pub give_last : (all rs : List Replaced) (r : Replaced) (q : Sparse) → all ≡ rs ++ r ∷ [] → CanRestore all q → CanGive q r × CanRestore rs (entries_given q r)
give_last all rs r q e c = last_can rs r q (subst (λ (ls : List Replaced). CanRestore ls q) e c)

pub restore_step : (all rs : List Replaced) (r : Replaced) (q o : Sparse) → all ≡ rs ++ r ∷ [] → o ≡ entries_given q r → restored rs o ≡ restored all q
restore_step all rs r q o e f = ap (restored rs) f ∙ sym (restored_last rs r q) ∙ ap (λ (ls : List Replaced). restored ls q) (sym e)

-- ---- runs of entries of one column
-- terms are put at the end
pub ascend_push : (m k : ℕ) (ts : List Term) (t : Term) → IdsAscend m ts → All (λ (u : Term). u.id ≤ k) ts → m ≤ t.id → k < t.id → IdsAscend m (ts ++ t ∷ [])
ascend_push m k [] t a b l h = (l, tt)
ascend_push m k (u ∷ us) t a b l h = (a.0, ascend_push (suc u.id) k us t a.1 (All-tail (λ (u : Term). u.id ≤ k) u us b) (let c : u.id ≤ k = All-head (λ (u : Term). u.id ≤ k) u us b in omega (arith, c, h)) h)

ascend_last : (m : ℕ) (ts : List Term) (t u : Term) → IdsAscend m ((ts ++ t ∷ []) ++ u ∷ []) → t.id < u.id
ascend_last m [] t u h = let l : suc t.id ≤ u.id = h.1.0 in omega (arith, l)
ascend_last m (x ∷ xs) t u h = ascend_last (suc x.id) xs t u h.1

pub top_first : (ts : List Term) (s t : Term) → ts ≡ s ∷ [] → IdsAscend 0 (ts ++ t ∷ []) → s.id < t.id
top_first ts s t e h = ascend_last 0 [] s t (subst (λ (xs : List Term). IdsAscend 0 (xs ++ t ∷ [])) e h)

-- where the terms of a run are taken: those taken ascend to the last one, and the edits left are behind them
pub record Taking (j : ℕ) (before : List Term) (es : List Edit) (ts : List Term) (last : ℕ) (fs : List Edit) : Type 0 where
  pub run : run_of j before ++ es ≡ run_of j ts ++ fs
  pub ascends : IdsAscend 0 ts
  pub most : All (λ (t : Term). t.id ≤ last) ts
  pub top : (t : Term) → IdsAscend 0 (ts ++ t ∷ []) → last < t.id
  pub shorter : length fs ≤ length es

pub taking_step : (j : ℕ) (before : List Term) (es : List Edit) (ts us : List Term) (last : ℕ) (fs gs : List Edit) (t : Term) → Taking j before es ts last fs → fs ≡ SetEntry t.id j t.value ∷ gs → last < t.id → us ≡ ts ++ t ∷ [] → Taking j before es us t.id gs
taking_step j before es ts us last fs gs t k e h f =
    let more : run_of j (ts ++ t ∷ []) ≡ run_of j ts ++ run_of j (t ∷ []) = map-append (λ (u : Term). SetEntry u.id j u.value) ts (t ∷ []) in
    let joined : (run_of j ts ++ run_of j (t ∷ [])) ++ gs ≡ run_of j ts ++ (SetEntry t.id j t.value ∷ gs) = simp append_assoc in
    record {
      run = k.run ∙ ap (λ (xs : List Edit). run_of j ts ++ xs) e ∙ sym (ap (λ (xs : List Term). run_of j xs ++ gs) f ∙ ap (λ (xs : List Edit). xs ++ gs) more ∙ joined);
      ascends = subst (IdsAscend 0) (sym f) (ascend_push 0 last ts t k.ascends k.most (omega arith) h);
      most = subst (All (λ (u : Term). u.id ≤ t.id)) (sym f) (All-push (λ (u : Term). u.id ≤ t.id) ts t (All-weaker (λ (u : Term). u.id ≤ last) (λ (u : Term). u.id ≤ t.id) (λ u l. omega (arith, l, h)) ts k.most) (omega arith));
      top = λ u a. ascend_last 0 ts t u (subst (λ (xs : List Term). IdsAscend 0 (xs ++ u ∷ [])) f a);
      shorter = let n : length fs ≡ suc (length gs) = ap length e in omega (arith, n, k.shorter);
    }

none_goes_on : (j i : ℕ) (fs : List Edit) → NoneBehind j i fs → (t : Term) → i < t.id → (gs : List Edit) → fs ≢ SetEntry t.id j t.value ∷ gs
none_goes_on j i fs n t l gs e = let c : t.id ≤ i = subst (NoneBehind j i) e n refl in omega (arith, c, l)

-- and where no more are taken
pub run_taken : (j : ℕ) (before : List Term) (es : List Edit) (ts : List Term) (last : ℕ) (fs : List Edit) → Taking j before es ts last fs → NoneBehind j last fs → IsRun j ts (run_of j before ++ es) fs
run_taken j before es ts last fs k n = record { whole = k.run; ascends = k.ascends; longest = λ t a gs. none_goes_on j last fs n t (k.top t a) gs }

-- a run may be made where its edits may
pub run_rows : (p : Sparse) (j : ℕ) (ts : List Term) (fs : List Edit) → AreAllowed p (run_of j ts ++ fs) → All (λ (t : Term). (row_at p t.id).live ≡ true) ts
run_rows p j [] fs h = All-nil (λ (t : Term). (row_at p t.id).live ≡ true)
run_rows p j (t ∷ ts) fs h = All-cons (λ (u : Term). (row_at p u.id).live ≡ true) t ts h.0.0
    (All-weaker (λ (u : Term). (row_at (entry_set p t.id j t.value) u.id).live ≡ true) (λ (u : Term). (row_at p u.id).live ≡ true) (λ u e. sym (put_row_live p t.id j t.value h.0.0 u.id) ∙ e) ts
    (run_rows (entry_set p t.id j t.value) j ts fs h.1))

run_made : (p : Sparse) (j : ℕ) (ts : List Term) (fs : List Edit) → applied p (run_of j ts ++ fs) ≡ applied (entries_set p j ts) fs
run_made p j [] fs = refl
run_made p j (t ∷ ts) fs = run_made (entry_set p t.id j t.value) j ts fs

run_allowed : (p : Sparse) (j : ℕ) (ts : List Term) (fs : List Edit) → AreAllowed p (run_of j ts ++ fs) → AreAllowed (entries_set p j ts) fs
run_allowed p j [] fs h = h
run_allowed p j (t ∷ ts) fs h = run_allowed (entry_set p t.id j t.value) j ts fs h.1

run_fits : (p : Sparse) (j : ℕ) (ts : List Term) (fs : List Edit) → OffsetFits p.offset (run_of j ts ++ fs) → OffsetFits (entries_set p j ts).offset fs
run_fits p j [] fs h = h
run_fits p j (t ∷ ts) fs h = run_fits (entry_set p t.id j t.value) j ts fs h

run_first : (j : ℕ) (ts : List Term) (fs : List Edit) → EntriesFirst (run_of j ts ++ fs) → EntriesFirst fs
run_first j [] fs h = h
run_first j (t ∷ ts) fs h = run_first j ts fs h

pub run_same : (p q : Sparse) (j : ℕ) (ts : List Term) (es fs : List Edit) → es ≡ run_of j ts ++ fs → q ≡ entries_set p j ts → applied q fs ≡ applied p es
run_same p q j ts es fs e f = ap (λ (x : Sparse). applied x fs) f ∙ sym (ap (applied p) e ∙ run_made p j ts fs)

pub run_goes_on : (p q : Sparse) (j : ℕ) (ts : List Term) (es fs : List Edit) → es ≡ run_of j ts ++ fs → q ≡ entries_set p j ts → MayGoOn p es → MayGoOn q fs
run_goes_on p q j ts es fs e f m = subst (λ (x : Sparse). MayGoOn x fs) (sym f) (record {
  allowed = run_allowed p j ts fs (subst (AreAllowed p) e m.allowed);
  fits = run_fits p j ts fs (subst (OffsetFits p.offset) e m.fits);
  first = run_first j ts fs (subst EntriesFirst e m.first);
})

pub run_live : (p : Sparse) (j : ℕ) (ts : List Term) (es fs : List Edit) → es ≡ run_of j ts ++ fs → MayGoOn p es → All (λ (t : Term). (row_at p t.id).live ≡ true) ts
run_live p j ts es fs e m = run_rows p j ts fs (subst (AreAllowed p) e m.allowed)

-- where edits stand before one that sets an entry, and behind those that are made with it
pub record Standing (p : Sparse) (es : List Edit) (rs : List Replaced) (q : Sparse) (fs : List Edit) : Type 0 where
  pub same : applied q fs ≡ applied p es
  pub may : MayGoOn q fs
  pub trail : IsTrail rs p q
