-- Flags, and the walks over them.
use Rattle.std.proofs.Common.{◌≡◌, ◌↔◌, ℕ, zero, suc, ◌≤◌, Bool, true, false, ◌&&◌, IsTrue, List, [], ◌∷◌, ◌++◌, length, slice_set, All, refl, sym, ap, ap₂, ◌∙◌, subst, arith}
use Rattle.std.specs.List.{list_all}
use Rattle.std.proofs.lemmas.List.Elements.{All-nil, All-cons, All-head, All-tail}
use Rattle.undo_records.specs.declared.undo.Undo.{Undo}
use Rattle.fractions.specs.Number.{Number}
use Rattle.lp_model.specs.declared.program.Sense.{Sense}
use Rattle.undo_records.specs.declared.label.Label.{Label}
use Rattle.lp_model.specs.Flags.{Flags}
use Rattle.undo_records.specs.Ids.{is_on}
use Rattle.transactions.specs.Transactions.{Transaction}
use Rattle.undo_records.specs.Walk.{rows_named, columns_named, AreSound, NamesLive, Walks, after}

-- past the last there is nothing to set
pub set_past : (xs : List Bool) (k : ℕ) (b : Bool) → length xs ≤ k → slice_set xs k b ≡ xs
set_past [] k b l = refl
set_past (x ∷ xs) zero b l = absurd (omega (arith, l))
set_past (x ∷ xs) (suc k) b l = ap (λ ys. x ∷ ys) (set_past xs k b (omega (arith, l)))

pub and_true : (b : Bool) → b ≡ (b && true)
and_true true = refl
and_true false = refl

both : (a b : Bool) → IsTrue (a && b) → IsTrue a × IsTrue b
both true b h = (refl, h)
both false b h = absurd (let e : false ≡ true = h in cc)

and : (a b : Bool) → IsTrue a → IsTrue b → IsTrue (a && b)
and true b h k = k
and false b h k = h

all_true : (p : ℕ → Bool) (ks : List ℕ) → IsTrue (list_all p ks) → All (λ k. p k ≡ true) ks
all_true p [] h = All-nil (λ k. p k ≡ true)
all_true p (k ∷ ks) h = let q = both (p k) (list_all p ks) h in All-cons (λ i. p i ≡ true) k ks q.0 (all_true p ks q.1)

true_all : (p : ℕ → Bool) (ks : List ℕ) → All (λ k. p k ≡ true) ks → IsTrue (list_all p ks)
true_all p [] h = refl
true_all p (k ∷ ks) h = and (p k) (list_all p ks) (All-head (λ i. p i ≡ true) k ks h) (true_all p ks (All-tail (λ i. p i ≡ true) k ks h))

pub names_live : (f : Flags) (u : Undo) (rs cs : List Bool) (b : Bool) → rs ≡ f.rows → cs ≡ f.columns → b ≡ (list_all (is_on rs) (rows_named u) && list_all (is_on cs) (columns_named u)) → IsTrue b ↔ NamesLive f u
names_live f u rs cs b er ec e = subst (λ t. IsTrue t ↔ NamesLive f u) (sym (e ∙ ap₂ (λ ps qs. list_all (is_on ps) (rows_named u) && list_all (is_on qs) (columns_named u)) er ec)) here
  where
    here : IsTrue (list_all (is_on f.rows) (rows_named u) && list_all (is_on f.columns) (columns_named u)) ↔ NamesLive f u
    here = (
      λ h. let q = both _ _ h in (all_true (is_on f.rows) (rows_named u) q.0, all_true (is_on f.columns) (columns_named u) q.1),
      λ h. and _ _ (true_all (is_on f.rows) (rows_named u) h.0) (true_all (is_on f.columns) (columns_named u) h.1),
    )

-- one record more at the end
pub walks_on : (f g : Flags) (us : List Undo) (u : Undo) → Walks f us g → NamesLive g u → Walks f (us ++ u ∷ []) (after u g)
walks_on f g [] u w n = (subst (λ h. NamesLive h u) w n, ap (after u) w)
walks_on f g (v ∷ us) u w n = (w.0, walks_on (after v f) g us u w.1 n)

-- a test of parts is a test of the same parts
pub judged : (s : Sense) (d : Bool) (o : Number) (ts : List Transaction) (cs rs ds qs : List Label) (us vs : List Undo) (b : Bool) → ds ≡ cs → qs ≡ rs → vs ≡ us
    → ((t : Sense) (e : Bool) (p : Number) (hs : List Transaction) → IsTrue b ↔ AreSound (record { sense = t; duals = e; columns = ds; rows = qs; offset = p; undos = vs; transactions = hs }))
    → IsTrue b ↔ AreSound (record { sense = s; duals = d; columns = cs; rows = rs; offset = o; undos = us; transactions = ts })
judged s d o ts cs rs ds qs us vs b ec er eu h =
    subst (λ ws. IsTrue b ↔ AreSound (record { sense = s; duals = d; columns = cs; rows = rs; offset = o; undos = ws; transactions = ts })) eu
    (subst (λ ps. IsTrue b ↔ AreSound (record { sense = s; duals = d; columns = cs; rows = ps; offset = o; undos = vs; transactions = ts })) er
    (subst (λ ps. IsTrue b ↔ AreSound (record { sense = s; duals = d; columns = ps; rows = qs; offset = o; undos = vs; transactions = ts })) ec (h s d o ts)))
