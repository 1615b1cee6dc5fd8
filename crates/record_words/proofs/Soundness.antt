-- The words of a record without a fault are a sound record.
use Rattle.std.proofs.Common.{◌≡◌, ◌≢◌, ◌↔◌, ℕ, zero, suc, ◌<◌, ◌≤◌, Bool, true, false, IsTrue, List, [], ◌∷◌, length, map, Option, Some, None, Result, Ok, Err, refl, sym, ap, ◌∙◌, subst, arith}
use Rattle.std.specs.Prelude.{◌&&◌, not, nat_eq, if◌then◌else◌}
use Rattle.std.specs.List.{list_all, list_any}
use Rattle.std.proofs.lemmas.Slice.Eq.{bytes_eq-Decides}
use Rattle.std.proofs.lemmas.Bool.Decides.{nat_tests, Decides-eqb}
use Rattle.std.proofs.lemmas.List.Sums.{AllPass-from_list_all, list_all-from_AllPass}
use Rattle.fractions.specs.Number.{Number, zero_ℚ}
use Rattle.fractions.specs.Compare.{eq_ℚ}
use Rattle.fractions.specs.Comparisons.{eq_ℚ-is}
use Rattle.lp_model.specs.Sparse.{Ascends, has}
use Rattle.number_texts.specs.Form.{number}
use Rattle.number_texts.specs.declared.reading.ReadNumber.{ReadNumber}
use Rattle.number_texts.specs.declared.reading.ReadNumber.TheVariants as why
use Rattle.number_texts.proofs.Cutting.{both_true}
use Rattle.lp_model.specs.Flags.{Flags}
use Rattle.undo_records.specs.Ids.{is_on, ids_of}
use Rattle.undo_records.specs.Walk.{NamesLive, rows_named, columns_named}
use Rattle.undo_records.specs.Sound.{IsSound}
use Rattle.undo_records.specs.declared.undo.Undo.{Undo}
use Rattle.record_fields.specs.Words.{others, is_empty, skip, is_plain, is_far, id_of, id_fault, same_id, comes_after}
use Rattle.record_fields.specs.Faults.{unless, lower}
use Rattle.record_fields.specs.Ratios.{ratio_read, number_in, entry_fault}
use Rattle.record_fields.specs.Lists.{pairs_of, pair_fault, pairs_fault, list_fault, term_of, list_of, is_listed}
use Rattle.record_fields.specs.Fields.{behind, field_fault, fields_fault}
use Rattle.record_words.specs.Rules.{fields_of}
use Rattle.record_words.specs.Undos.{word, undo_of, agree, names_live, form_fault, rule_fault, rule_undo}
use Rattle.record_fields.specs.declared.faults.LineFault.{LineFault}
use Rattle.record_fields.specs.declared.faults.LineFault.TheVariants.{BadLine, BadId, NumberPast}
use Rattle.record_values.specs.declared.rule.Rule.{Rule}
use Rattle.record_values.specs.declared.rule.Rule.TheVariants.{K1, K2, K3, K4, K5, K6, K7, K8, K9, K10, K11, K12, K13, K14, K15, K16, K17}
use Rattle.record_fields.specs.declared.fields.Field.{Field}
use Rattle.record_fields.proofs.IdOrder.{same_word}

-- ---- no fault in either
pub lower_none : (a b : Option LineFault) → lower a b ≡ None → (a ≡ None) × (b ≡ None)
lower_none None b h = (refl, h)
lower_none (Some BadLine) b h = cc
lower_none (Some BadId) None h = cc
lower_none (Some BadId) (Some BadLine) h = cc
lower_none (Some BadId) (Some BadId) h = cc
lower_none (Some BadId) (Some NumberPast) h = cc
lower_none (Some NumberPast) None h = cc
lower_none (Some NumberPast) (Some c) h = cc

pub unless_none : (b : Bool) (k : LineFault) → unless b k ≡ None → b ≡ true
unless_none true k h = refl
unless_none false k h = cc

abbrev AllFine : List Field → List (List ℕ) → Type 0
AllFine [] ws = unless (is_empty ws) BadLine ≡ None
AllFine (f ∷ fs) ws = (field_fault f ws ≡ None) × AllFine fs (behind f ws)

all_fine : (fs : List Field) (ws : List (List ℕ)) → fields_fault fs ws ≡ None → AllFine fs ws
all_fine [] ws h = h
all_fine (f ∷ fs) ws h = let q = lower_none (field_fault f ws) (fields_fault fs (behind f ws)) h in (q.0, all_fine fs (behind f ws) q.1)

-- ---- ids
id_by : (p f : Bool) (n : ℕ) → (if p then (if f then Some BadId else None) else Some BadLine) ≡ None → (p ≡ true) × (f ≡ false) × ((if p && not f then n else 0) ≡ n)
id_by true true n h = cc
id_by true false n h = (refl, refl, refl)
id_by false f n h = cc

id_fine : (w : List ℕ) → id_fault w ≡ None → (is_plain w ≡ true) × (is_far w ≡ false) × (id_of w ≡ number w)
id_fine w h = id_by (is_plain w) (is_far w) (number w) h

ids_same : (v w : List ℕ) → id_fault v ≡ None → id_fault w ≡ None → id_of v ≡ id_of w → same_id v w ≡ true
ids_same v w h k e =
    let p = id_fine v h in let q = id_fine w k in
    (bytes_eq-Decides v w).1 (same_word v w p.0 q.0 (sym p.2 ∙ e ∙ q.2))

not_both : (b : Bool) → b ≡ true → not b ≡ true → false ≡ true
not_both true e f = f
not_both false e f = e

ids_differ : (v w : List ℕ) → id_fault v ≡ None → id_fault w ≡ None → not (same_id v w) ≡ true → id_of v ≢ id_of w
ids_differ v w h k n = λ e. absurd (let z = not_both (same_id v w) (ids_same v w h k e) n in cc)

same-is : (v w : List ℕ) → id_fault v ≡ None → id_fault w ≡ None → same_id v w ≡ nat_eq (id_of v) (id_of w)
same-is v w h k = by (same_id v w) (nat_eq (id_of v) (id_of w)) refl refl
  where
    by : (a b : Bool) → same_id v w ≡ a → nat_eq (id_of v) (id_of w) ≡ b → a ≡ b
    by true true e f = refl
    by false false e f = refl
    by true false e f = sym ((Decides-eqb (id_of v) (id_of w)).1 (ap id_of ((bytes_eq-Decides v w).0 e))) ∙ f
    by false true e f = sym e ∙ ids_same v w h k ((Decides-eqb (id_of v) (id_of w)).0 f)

-- ---- numbers
entry_fine : (r : Result Number ReadNumber) → entry_fault r ≡ None → number_in r ≢ zero_ℚ
entry_fine (Ok q) h = λ e. by (eq_ℚ q zero_ℚ) ((eq_ℚ-is q zero_ℚ).1 e) h
  where
    by : (b : Bool) → b ≡ true → (if b then Some BadLine else None) ≡ None → ⊥
    by true t h = absurd cc
    by false t h = absurd cc
entry_fine (Err why.NotNumber) h = cc
entry_fine (Err why.NumberPast) h = cc

-- ---- lists
abbrev next_of : Option (List ℕ) → ℕ
next_of None = 0
next_of (Some v) = suc (number v)

after_is : (before : Option (List ℕ)) (w : List ℕ) → comes_after before w ≡ true → next_of before ≤ number w
after_is None w h = omega arith
after_is (Some v) w h = grind (arith, nat_tests)

pub record FinePair (before : Option (List ℕ)) (pair : List ℕ × List ℕ) : Type 0 where
  pub id : id_fault pair.0 ≡ None
  pub entry : entry_fault (ratio_read pair.1) ≡ None
  pub after : comes_after before pair.0 ≡ true

fine_pair : (before : Option (List ℕ)) (pair : List ℕ × List ℕ) → pair_fault before pair ≡ None → FinePair before pair
fine_pair before pair h =
    let q = lower_none (lower (id_fault pair.0) (entry_fault (ratio_read pair.1))) (unless (comes_after before pair.0) BadLine) h in
    let r = lower_none (id_fault pair.0) (entry_fault (ratio_read pair.1)) q.0 in
    record { id = r.0; entry = r.1; after = unless_none (comes_after before pair.0) BadLine q.1 }

on_below : (flags : List Bool) (k : ℕ) → is_on flags k ≡ true → k < length flags
on_below [] k h = cc
on_below (f ∷ fs) zero h = omega arith
on_below (f ∷ fs) (suc k) h = let r = on_below fs k h in omega (arith, r)

pairs_ascend : (flags : List Bool) (before : Option (List ℕ)) (pairs : List (List ℕ × List ℕ)) → pairs_fault before pairs ≡ None → list_all (is_on flags) (ids_of (map term_of pairs)) ≡ true
    → Ascends (next_of before) (length flags) (map term_of pairs)
pairs_ascend flags before [] h n = tt
pairs_ascend flags before (pair ∷ pairs) h n =
    let q = lower_none (pair_fault before pair) (pairs_fault (Some pair.0) pairs) h in
    let p = fine_pair before pair q.0 in
    let i = id_fine pair.0 p.id in
    let o = both_true (is_on flags (id_of pair.0)) (list_all (is_on flags) (ids_of (map term_of pairs))) n in (
      subst (λ (k : ℕ). next_of before ≤ k) (sym i.2) (after_is before pair.0 p.after),
      on_below flags (id_of pair.0) o.0,
      entry_fine (ratio_read pair.1) p.entry,
      subst (λ (k : ℕ). Ascends (suc k) (length flags) (map term_of pairs)) (sym i.2) (pairs_ascend flags (Some pair.0) pairs q.1 o.1),
    )

pairs_listed : (w : List ℕ) (before : Option (List ℕ)) (pairs : List (List ℕ × List ℕ)) → id_fault w ≡ None → pairs_fault before pairs ≡ None
    → list_any (λ pair. same_id pair.0 w) pairs ≡ has (id_of w) (map term_of pairs)
pairs_listed w before [] k h = refl
pairs_listed w before (pair ∷ pairs) k h =
    let q = lower_none (pair_fault before pair) (pairs_fault (Some pair.0) pairs) h in
    let p = fine_pair before pair q.0 in
    let r = pairs_listed w (Some pair.0) pairs k q.1 in
    rw (same-is pair.0 w p.id k, r) refl

list_pairs : (ws : List (List ℕ)) → list_fault ws ≡ None → pairs_fault None (pairs_of (others ws)) ≡ None
list_pairs ws h = (lower_none _ (pairs_fault None (pairs_of (others ws))) h).1

list_ascends : (flags : List Bool) (ws : List (List ℕ)) → list_fault ws ≡ None → list_all (is_on flags) (ids_of (list_of ws)) ≡ true → Ascends 0 (length flags) (list_of ws)
list_ascends flags ws h n = pairs_ascend flags None (pairs_of (others ws)) (list_pairs ws h) n

list_has : (w : List ℕ) (ws : List (List ℕ)) → id_fault w ≡ None → list_fault ws ≡ None → is_listed w ws ≡ true → has (id_of w) (list_of ws) ≡ true
list_has w ws k h e = sym (pairs_listed w None (pairs_of (others ws)) k (list_pairs ws h)) ∙ e

not_true : (b : Bool) → not b ≡ true → b ≡ false
not_true true h = cc
not_true false h = refl

list_lacks : (w : List ℕ) (ws : List (List ℕ)) → id_fault w ≡ None → list_fault ws ≡ None → not (is_listed w ws) ≡ true → has (id_of w) (list_of ws) ≡ false
list_lacks w ws k h e = sym (pairs_listed w None (pairs_of (others ws)) k (list_pairs ws h)) ∙ not_true (is_listed w ws) e

-- ---- what is named is live
pub record Named (flags : List Bool) (k : ℕ) (ks : List ℕ) : Type 0 where
  pub below : k < length flags
  pub more : list_all (is_on flags) ks ≡ true

named : (flags : List Bool) (k : ℕ) (ks : List ℕ) → list_all (is_on flags) (k ∷ ks) ≡ true → Named flags k ks
named flags k ks h = let o = both_true (is_on flags k) (list_all (is_on flags) ks) h in record { below = on_below flags k o.0; more = o.1 }

-- ---- the kinds
sound_fields : (f : Flags) (rule : Rule) (ws : List (List ℕ)) → AllFine (fields_of rule) ws → agree rule ws ≡ true
    → list_all (is_on f.rows) (rows_named (undo_of rule ws)) ≡ true → list_all (is_on f.columns) (columns_named (undo_of rule ws)) ≡ true
    → IsSound (length f.rows) (length f.columns) (undo_of rule ws)
sound_fields f K1 ws x a r c = (named f.rows (id_of (word 0 ws)) [] r).below
sound_fields f K2 ws x a r c = ((named f.rows (id_of (word 0 ws)) [] r).below, (named f.columns (id_of (word 1 ws)) [] c).below, entry_fine (ratio_read (word 2 ws)) x.1.1.0)
sound_fields f K3 ws x a r c = ((named f.columns (id_of (word 0 ws)) [] c).below, list_ascends f.rows (skip 3 ws) x.1.1.1.0 r)
sound_fields f K4 ws x a r c = (named f.columns (id_of (word 0 ws)) [] c).below
sound_fields f K5 ws x a r c = (named f.rows (id_of (word 0 ws)) [] r).below
sound_fields f K6 ws x a r c = (named f.rows (id_of (word 0 ws)) [] r).below
sound_fields f K7 ws x a r c = ((named f.rows (id_of (word 0 ws)) [] r).below, list_ascends f.columns (skip 2 ws) x.1.1.0 c)
sound_fields f K8 ws x a r c =
    let j = named f.columns (id_of (word 1 ws)) (ids_of (list_of (skip 4 ws))) c in
    ((named f.rows (id_of (word 0 ws)) [] r).below, j.below, list_ascends f.columns (skip 4 ws) x.1.1.1.0 j.more, list_has (word 1 ws) (skip 4 ws) x.1.0 x.1.1.1.0 a)
sound_fields f K9 ws x a r c = ((named f.rows (id_of (word 0 ws)) [] r).below, (named f.columns (id_of (word 1 ws)) [] c).below)
sound_fields f K10 ws x a r c = (named f.columns (id_of (word 0 ws)) [] c).below
sound_fields f K11 ws x a r c =
    let j = named f.columns (id_of (word 1 ws)) (id_of (word 2 ws) ∷ []) c in
    let k = named f.columns (id_of (word 2 ws)) [] j.more in
    ((named f.rows (id_of (word 0 ws)) [] r).below, (j.below, k.below, ids_differ (word 1 ws) (word 2 ws) x.1.0 x.1.1.0 a))
sound_fields f K12 ws x a r c =
    let i = named f.rows (id_of (word 0 ws)) (ids_of (list_of (skip 9 ws))) r in
    let j = named f.columns (id_of (word 1 ws)) (id_of (word 2 ws) ∷ []) c in
    let k = named f.columns (id_of (word 2 ws)) [] j.more in
    let b = both_true (not (same_id (word 1 ws) (word 2 ws))) (not (is_listed (word 0 ws) (skip 9 ws))) a in
    let ys = x.1.1.1.1.1.1.1.1.1.0 in (
      (i.below, j.below, entry_fine (ratio_read (word 3 ws)) x.1.1.1.0),
      (j.below, k.below, ids_differ (word 1 ws) (word 2 ws) x.1.0 x.1.1.0 b.0),
      entry_fine (ratio_read (word 4 ws)) x.1.1.1.1.0,
      (list_ascends f.rows (skip 9 ws) ys i.more, list_lacks (word 0 ws) (skip 9 ws) x.0 ys b.1),
    )
sound_fields f K13 ws x a r c =
    let j = named f.columns (id_of (word 0 ws)) (ids_of (list_of (skip 5 ws))) c in
    let ys = x.1.1.1.1.1.0 in (
      ((named f.rows (id_of (word 1 ws)) [] r).below, j.below, entry_fine (ratio_read (word 2 ws)) x.1.1.0),
      (list_ascends f.columns (skip 5 ws) ys j.more, list_lacks (word 0 ws) (skip 5 ws) x.0 ys a),
    )
sound_fields f K14 ws x a r c =
    let j = named f.columns (id_of (word 0 ws)) (ids_of (list_of (skip 9 ws))) c in
    let ys = x.1.1.1.1.1.1.1.1.1.0 in (
      ((named f.rows (id_of (word 1 ws)) [] r).below, j.below, entry_fine (ratio_read (word 2 ws)) x.1.1.0),
      (list_ascends f.columns (skip 9 ws) ys j.more, list_lacks (word 0 ws) (skip 9 ws) x.0 ys a),
    )
sound_fields f K15 ws x a r c =
    let i = named f.rows (id_of (word 0 ws)) (id_of (word 1 ws) ∷ []) r in
    let k = named f.rows (id_of (word 1 ws)) [] i.more in (
      (i.below, k.below, ids_differ (word 0 ws) (word 1 ws) x.0 x.1.0 a),
      entry_fine (ratio_read (word 2 ws)) x.1.1.0,
      list_ascends f.columns (skip 5 ws) x.1.1.1.1.1.0 c,
    )
sound_fields f K16 ws x a r c =
    let j = named f.columns (id_of (word 0 ws)) (id_of (word 1 ws) ∷ []) c in
    let k = named f.columns (id_of (word 1 ws)) [] j.more in
    ((j.below, k.below, ids_differ (word 0 ws) (word 1 ws) x.0 x.1.0 a), entry_fine (ratio_read (word 2 ws)) x.1.1.0)
sound_fields f K17 ws x a r c = (named f.columns (id_of (word 0 ws)) [] c).below

pub sound_rule : (f : Flags) (rule : Rule) (ws : List (List ℕ)) → form_fault rule ws ≡ None → names_live f (undo_of rule ws) ≡ true → IsSound (length f.rows) (length f.columns) (undo_of rule ws)
unfolding form_fault
sound_rule f rule ws h n =
    let q = lower_none (fields_fault (fields_of rule) ws) (unless (agree rule ws) BadLine) h in
    let l = both_true (list_all (is_on f.rows) (rows_named (undo_of rule ws))) (list_all (is_on f.columns) (columns_named (undo_of rule ws))) n in
    sound_fields f rule ws (all_fine (fields_of rule) ws q.0) (unless_none (agree rule ws) BadLine q.1) l.0 l.1

and-is : (a b : Bool) → a ≡ true → b ≡ true → (a && b) ≡ true
and-is true b e h = h
and-is false b e h = e

-- ---- the line
pub sound_by : (f : Flags) (rule : Option Rule) (ws : List (List ℕ)) → rule_fault f rule ws ≡ None → IsSound (length f.rows) (length f.columns) (rule_undo rule ws) × NamesLive f (rule_undo rule ws)
sound_by f None ws h = cc
sound_by f (Some rule) ws h =
    let q = lower_none (form_fault rule ws) (unless (names_live f (undo_of rule ws)) BadId) h in
    let n = unless_none (names_live f (undo_of rule ws)) BadId q.1 in
    let l = both_true (list_all (is_on f.rows) (rows_named (undo_of rule ws))) (list_all (is_on f.columns) (columns_named (undo_of rule ws))) n in
    (sound_rule f rule ws q.0 n, (AllPass-from_list_all (is_on f.rows) (rows_named (undo_of rule ws)) l.0, AllPass-from_list_all (is_on f.columns) (columns_named (undo_of rule ws)) l.1))

-- a test of what is live
pub live_is : (f : Flags) (u : Undo) (b : Bool) → IsTrue b ↔ NamesLive f u → b ≡ names_live f u
live_is f u b h = by b (names_live f u) refl refl
  where
    by : (a c : Bool) → b ≡ a → names_live f u ≡ c → a ≡ c
    by true true e k = refl
    by false false e k = refl
    by true false e k =
        let n = h.0 e in
        let r = list_all-from_AllPass (is_on f.rows) (rows_named u) n.0 in
        let s = list_all-from_AllPass (is_on f.columns) (columns_named u) n.1 in
        sym (and-is (list_all (is_on f.rows) (rows_named u)) (list_all (is_on f.columns) (columns_named u)) r s) ∙ k
    by false true e k =
        let l = both_true (list_all (is_on f.rows) (rows_named u)) (list_all (is_on f.columns) (columns_named u)) k in
        sym e ∙ h.1 (AllPass-from_list_all (is_on f.rows) (rows_named u) l.0, AllPass-from_list_all (is_on f.columns) (columns_named u) l.1)
