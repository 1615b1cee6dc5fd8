-- There is one verdict on a point.
use Rattle.std.proofs.Common.{◌≡◌, ◌≢◌, ◌⊎◌, inl, inr, ℕ, ◌<◌, ◌≤◌, refl, sym, ap, ◌∙◌, subst, arith}
use Rattle.std.proofs.lemmas.Bool.{cases_eq, cases_lt}
use Rattle.std.specs.Prelude.{⊤}
use Rattle.fractions.specs.Number.{Number}
use Rattle.fractions.specs.Room.{Room}
use Rattle.lp_model.specs.Vectors.{Vector}
use Rattle.lp_model.specs.LinearProgram.{LinearProgram}
use Rattle.lp_check.specs.declared.verdicts.Item.{Item}
use Rattle.lp_check.specs.declared.verdicts.Item.TheVariants.{Column, Row, Cost}
use Rattle.lp_check.specs.declared.verdicts.Limit.{Limit}
use Rattle.lp_check.specs.declared.verdicts.Verdict.{Verdict}
use Rattle.lp_check.specs.declared.verdicts.Verdict.TheVariants.{Yes, No, Past}
use Rattle.lp_check.specs.Deciding.{PassesIn, FailsIn, HasNoRoomIn, EarlierPassIn, DecidesIn}
use Rattle.lp_check.proofs.Breaking.{one_limit, limit_not, one_break, breaks_not}

less : (i k : ℕ) → i ≢ k → (i < k) ⊎ (k < i)
less i k n = by (cases_lt i k)
  where
    by : (i < k) ⊎ (k ≤ i) → (i < k) ⊎ (k < i)
    by (inl l) = inl l
    by (inr g) = inr (omega (arith, g, n))

-- the program has the item
abbrev Has : LinearProgram → Item → Type 0
Has M (Column j) = j < M.columns
Has M (Row i) = i < M.rows
Has M Cost = ⊤

fails_has : (r : Room) (M : LinearProgram) (x : Vector) (a : Item) (v : Number) (l : Limit) → FailsIn r M x a v l → Has M a
fails_has r M x (Column j) v l h = h.0
fails_has r M x (Row i) v l h = h.0
fails_has r M x Cost v l h = absurd h

fails_not : (r : Room) (M : LinearProgram) (x : Vector) (a : Item) (v : Number) (l : Limit) → FailsIn r M x a v l → PassesIn r M x a → ⊥
fails_not r M x (Column j) v l (b, e, h) k = breaks_not (M.gap j) _ _ _ v l h (rw e k)
fails_not r M x (Row i) v l (b, f, e, h) k = limit_not _ _ _ v l h (rw e k.1)
fails_not r M x Cost v l h k = h

fails_alike : (r : Room) (M : LinearProgram) (x : Vector) (a : Item) (v w : Number) (l m : Limit) → FailsIn r M x a v l → FailsIn r M x a w m → No a v l ≡ No a w m
fails_alike r M x (Column j) v w l m (b, e, h) (d, f, k) =
    let same : v ≡ w = e ∙ sym f in
    let limit : l ≡ m = one_break (M.gap j) _ _ _ w l m (rw (← same) h) k in
    cc
fails_alike r M x (Row i) v w l m (b, t, e, h) (d, s, f, k) =
    let same : v ≡ w = e ∙ sym f in
    let limit : l ≡ m = one_limit _ _ _ w l m (rw (← same) h) k in
    cc
fails_alike r M x Cost v w l m h k = absurd h

past_has : (r : Room) (M : LinearProgram) (x : Vector) (a : Item) → HasNoRoomIn r M x a → Has M a
past_has r M x (Column j) h = absurd h
past_has r M x (Row i) h = h.0
past_has r M x Cost h = tt

past_not : (r : Room) (M : LinearProgram) (x : Vector) (a : Item) → HasNoRoomIn r M x a → PassesIn r M x a → ⊥
past_not r M x (Column j) h k = h
past_not r M x (Row i) h k = h.1 k.0
past_not r M x Cost h k = h k

past_fails : (r : Room) (M : LinearProgram) (x : Vector) (a : Item) (v : Number) (l : Limit) → HasNoRoomIn r M x a → FailsIn r M x a v l → ⊥
past_fails r M x (Column j) v l h k = h
past_fails r M x (Row i) v l h k = h.1 k.1
past_fails r M x Cost v l h k = k

-- two items up to which all pass are one, or one of them passes
meet : (r : Room) (M : LinearProgram) (x : Vector) (a b : Item) → Has M a → Has M b → EarlierPassIn r M x a → EarlierPassIn r M x b → (a ≡ b) ⊎ (PassesIn r M x a ⊎ PassesIn r M x b)
meet r M x (Column j) (Column k) ha hb ea eb = by (cases_eq j k)
  where
    by : (j ≡ k) ⊎ (j ≢ k) → (Column j ≡ Column k) ⊎ (PassesIn r M x (Column j) ⊎ PassesIn r M x (Column k))
    by (inl e) = inl (ap Column e)
    by (inr n) = inr (order (less j k n))
      where
        order : (j < k) ⊎ (k < j) → PassesIn r M x (Column j) ⊎ PassesIn r M x (Column k)
        order (inl l) = inl (eb j l)
        order (inr l) = inr (ea k l)
meet r M x (Column j) (Row i) ha hb ea eb = inr (inl (eb.0 j ha))
meet r M x (Column j) Cost ha hb ea eb = inr (inl (eb.0 j ha))
meet r M x (Row i) (Column j) ha hb ea eb = inr (inr (ea.0 j hb))
meet r M x (Row i) (Row k) ha hb ea eb = by (cases_eq i k)
  where
    by : (i ≡ k) ⊎ (i ≢ k) → (Row i ≡ Row k) ⊎ (PassesIn r M x (Row i) ⊎ PassesIn r M x (Row k))
    by (inl e) = inl (ap Row e)
    by (inr n) = inr (order (less i k n))
      where
        order : (i < k) ⊎ (k < i) → PassesIn r M x (Row i) ⊎ PassesIn r M x (Row k)
        order (inl l) = inl (eb.1 i l)
        order (inr l) = inr (ea.1 k l)
meet r M x (Row i) Cost ha hb ea eb = inr (inl (eb.1 i ha))
meet r M x Cost (Column j) ha hb ea eb = inr (inr (ea.0 j hb))
meet r M x Cost (Row i) ha hb ea eb = inr (inr (ea.1 i hb))
meet r M x Cost Cost ha hb ea eb = inl refl

-- an item that fails or has no room stops the others
stops : (r : Room) (M : LinearProgram) (x : Vector) (a b : Item) → Has M a → Has M b → EarlierPassIn r M x a → EarlierPassIn r M x b → (PassesIn r M x a → ⊥) → (PassesIn r M x b → ⊥) → a ≡ b
stops r M x a b ha hb ea eb na nb = by (meet r M x a b ha hb ea eb)
  where
    by : (a ≡ b) ⊎ (PassesIn r M x a ⊎ PassesIn r M x b) → a ≡ b
    by (inl e) = e
    by (inr (inl p)) = absurd (na p)
    by (inr (inr p)) = absurd (nb p)

no_yes : (r : Room) (M : LinearProgram) (x : Vector) (a : Item) → Has M a → EarlierPassIn r M x a → (PassesIn r M x a → ⊥) → EarlierPassIn r M x Cost → PassesIn r M x Cost → ⊥
no_yes r M x a ha ea na ec pc = by (meet r M x a Cost ha tt ea ec)
  where
    by : (a ≡ Cost) ⊎ (PassesIn r M x a ⊎ PassesIn r M x Cost) → ⊥
    by (inl e) = na (subst (PassesIn r M x) (sym e) pc)
    by (inr (inl p)) = na p
    by (inr (inr p)) = na (costs a ha ec pc)
      where
        costs : (b : Item) → Has M b → EarlierPassIn r M x Cost → PassesIn r M x Cost → PassesIn r M x b
        costs (Column j) hb e p = e.0 j hb
        costs (Row i) hb e p = e.1 i hb
        costs Cost hb e p = p

pub one_verdict : (r : Room) (M : LinearProgram) (x : Vector) (one other : Verdict Number) → DecidesIn r M x one → DecidesIn r M x other → one ≡ other
one_verdict r M x (Yes c) (Yes d) h k = ap Yes (h.2 ∙ sym k.2)
one_verdict r M x (Yes c) (No b w m) h k = absurd (no_yes r M x b (fails_has r M x b w m k.1) k.0 (fails_not r M x b w m k.1) h.0 h.1)
one_verdict r M x (Yes c) (Past b) h k = absurd (no_yes r M x b (past_has r M x b k.1) k.0 (past_not r M x b k.1) h.0 h.1)
one_verdict r M x (No a v l) (Yes d) h k = absurd (no_yes r M x a (fails_has r M x a v l h.1) h.0 (fails_not r M x a v l h.1) k.0 k.1)
one_verdict r M x (No a v l) (No b w m) h k =
    let same : a ≡ b = stops r M x a b (fails_has r M x a v l h.1) (fails_has r M x b w m k.1) h.0 k.0 (fails_not r M x a v l h.1) (fails_not r M x b w m k.1) in
    subst (λ i. No a v l ≡ No i w m) same (fails_alike r M x a v w l m h.1 (subst (λ i. FailsIn r M x i w m) (sym same) k.1))
one_verdict r M x (No a v l) (Past b) h k =
    let same : a ≡ b = stops r M x a b (fails_has r M x a v l h.1) (past_has r M x b k.1) h.0 k.0 (fails_not r M x a v l h.1) (past_not r M x b k.1) in
    absurd (past_fails r M x b v l k.1 (subst (λ i. FailsIn r M x i v l) same h.1))
one_verdict r M x (Past a) (Yes d) h k = absurd (no_yes r M x a (past_has r M x a h.1) h.0 (past_not r M x a h.1) k.0 k.1)
one_verdict r M x (Past a) (No b w m) h k =
    let same : a ≡ b = stops r M x a b (past_has r M x a h.1) (fails_has r M x b w m k.1) h.0 k.0 (past_not r M x a h.1) (fails_not r M x b w m k.1) in
    absurd (past_fails r M x a w m h.1 (subst (λ i. FailsIn r M x i w m) (sym same) k.1))
one_verdict r M x (Past a) (Past b) h k = ap Past (stops r M x a b (past_has r M x a h.1) (past_has r M x b k.1) h.0 k.0 (past_not r M x a h.1) (past_not r M x b k.1))
