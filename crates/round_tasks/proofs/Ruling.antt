-- The tasks of rules, each rule's in turn.
use Rattle.std.proofs.Common.{◌≡◌, ◌⊎◌, inl, inr, ℕ, Bool, true, List, [], ◌∷◌, length, sym, subst, arith}
use Rattle.std.specs.List.{All, Contains}
use Rattle.std.proofs.lemmas.List.Elements.{Contains-append_cases}
use Rattle.sorted_ids.specs.Ascending.{AscendsFrom}
use Rattle.presolve_model.specs.declared.instance.Reach.{Reach}
use Rattle.presolve_model.specs.declared.instance.Reach.TheVariants.{OwnRow, OwnColumn, RowsOfBounds, ColumnsOfSides, RowsOfBoth, SoleColumns, RowsBeside, ColumnsBeside}
use Rattle.presolve_model.specs.declared.instance.Rule.{Rule}
use Rattle.presolve_model.specs.Instances.{id_at, reach_of}
use Rattle.presolve_model.specs.Order.{reduction_order, verdict_order}
use Rattle.presolve_model.specs.Tallies.{open_on}
use Rattle.presolve_model.specs.Worlds.{Version}
use Rattle.place_laws.specs.Choosing.{AreSorted, Around, HasEach, ids_of, within}
use Rattle.place_laws.proofs.ShortLists.{first_or_behind}
use Rattle.worker_tasks.specs.Tasks.{HoldsChunk, TaskData}
use Rattle.round_tasks.specs.Cutting.{AddsAllTasks, AddsTasks, AreTasksOf, HasEachOf, IsGivenOut}

-- the ids of each rule ascend, and hold each instance of it that is enabled and open
pub ids_ascend : (n : Around) → AreSorted n → (r : Rule) → AscendsFrom 0 (ids_of n r)
ids_ascend n sorted r = by (reach_of r)
  where
    by : (h : Reach) → AscendsFrom 0 (within n h)
    by OwnRow = sorted.own.rows
    by OwnColumn = sorted.own.columns
    by RowsOfBounds = sorted.rows_of_bounds
    by ColumnsOfSides = sorted.columns_of_sides
    by RowsOfBoth = sorted.rows_of_both
    by SoleColumns = sorted.sole_columns
    by RowsBeside = sorted.rows_beside
    by ColumnsBeside = sorted.columns_beside

pub ids_have : (v : Version) (n : Around) → HasEach (open_on v.tally) v.problem n → (r : Rule) → HasEachOf v r (ids_of n r)
ids_have v n each r e on free is = subst (λ (s : Rule). Contains (ids_of n s) (id_at e)) is (each e on free)

-- ---- how far the rules are gone through
pub record AreRuled (v : Version) (n : Around) (rules rest : List Rule) (before after : List TaskData) (whole : Bool) : Type 0 where
  pub hold : All (HoldsChunk v) before → All (HoldsChunk v) after
  pub kept : (s : Rule) (k : ℕ) → IsGivenOut before s k → IsGivenOut after s k
  pub given : whole ≡ true → (r : Rule) (k : ℕ) → Contains rules r → Contains (ids_of n r) k → Contains rest r ⊎ IsGivenOut after r k

pub ruled_none : (v : Version) (n : Around) (rules : List Rule) (ts : List TaskData) → AreRuled v n rules rules ts ts true
ruled_none v n rules ts = record { hold = λ x. x; kept = λ s k g. g; given = λ e r k c i. inl c }

pub ruled_all : (v : Version) (n : Around) (rules rest : List Rule) (before after : List TaskData) (whole : Bool) → AreRuled v n rules rest before after whole → length rest ≡ 0 → AddsAllTasks v n rules before after whole
ruled_all v n rules rest before after whole h none = record { hold = h.hold; kept = h.kept; given = λ e r k c i. by r k (h.given e r k c i) }
  where
    by : (r : Rule) (k : ℕ) → Contains rest r ⊎ IsGivenOut after r k → IsGivenOut after r k
    by r k (inl c) = absurd (omega (arith, none, c.1))
    by r k (inr g) = g

-- one rule more: the flag stays up where none of its chunks was left out either
pub ruled_more : (v : Version) (n : Around) (rules rest behind : List Rule) (r : Rule) (before after then : List TaskData) (whole flag all : Bool) → r ∷ behind ≡ rest → (all ≡ true → (whole ≡ true) × (flag ≡ true))
    → AreRuled v n rules rest before after whole → AddsTasks v r (ids_of n r) after then flag → AreRuled v n rules behind before then all
ruled_more v n rules rest behind r before after then whole flag all split flags h more = record {
  hold = λ x. more.hold (h.hold x);
  kept = λ s k g. more.kept s k (h.kept s k g);
  given = λ e s k c i. by e s k i (h.given (flags e).0 s k c i);
}
  where
    first : all ≡ true → (s : Rule) (k : ℕ) → Contains (ids_of n s) k → (r ≡ s) ⊎ Contains behind s → Contains behind s ⊎ IsGivenOut then s k
    first e s k i (inl same) = inr (subst (λ (t : Rule). IsGivenOut then t k) same (more.given (flags e).1 k (subst (λ (t : Rule). Contains (ids_of n t) k) (sym same) i)))
    first e s k i (inr later) = inl later

    by : all ≡ true → (s : Rule) (k : ℕ) → Contains (ids_of n s) k → Contains rest s ⊎ IsGivenOut after s k → Contains behind s ⊎ IsGivenOut then s k
    by e s k i (inl c) = first e s k i (first_or_behind r behind s (subst (λ (rs : List Rule). Contains rs s) (sym split) c))
    by e s k i (inr g) = inr (more.kept s k g)

-- ---- all rules
pub tasks_made : (v : Version) (n : Around) (ts us : List TaskData) (one other : Bool) → AddsAllTasks v n verdict_order [] ts one → AddsAllTasks v n reduction_order ts us other → (all : Bool) → (all ≡ true → (one ≡ true) × (other ≡ true))
    → AreTasksOf v n (record { tasks = us; whole = all })
tasks_made v n ts us one other h k all flags = record {
  hold = k.hold (h.hold (λ j d l. absurd (omega (arith, l))));
  given = λ e r j c i. by e r j i (Contains-append_cases verdict_order reduction_order r c);
}
  where
    by : all ≡ true → (r : Rule) (j : ℕ) → Contains (ids_of n r) j → Contains verdict_order r ⊎ Contains reduction_order r → IsGivenOut us r j
    by e r j i (inl c) = k.kept r j (h.given (flags e).0 r j c i)
    by e r j i (inr c) = k.given (flags e).1 r j c i
