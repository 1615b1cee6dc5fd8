-- A book that has grown stands.
use Rattle.std.proofs.Common.{◌≡◌, inl, ◌<◌, ℕ, zero, suc, take, refl, arith, true, List, [], ◌∷◌, ◌++◌, length, None, sym, ap, ◌∙◌, subst}
use Rattle.fractions.specs.declared.Numbers.{Numbers}
use Rattle.transactions.specs.Transactions.{Transaction}
use Rattle.undo_records.specs.declared.undo.Undo.{Undo}
use Rattle.presolve_model.specs.declared.instance.Instance.TheVariants as at
use Rattle.presolve_model.specs.declared.instance.Reduction.{Reduction}
use Rattle.problem_model.specs.declared.part.Part.{Part}
use Rattle.problem_model.specs.declared.refusal.Refusal.{Refusal}
use Rattle.problem_model.specs.Noted.{AreNoted}
use Rattle.problem_model.specs.Parts.{changes_of}
use Rattle.problem_model.specs.Reading.{read_of}
use Rattle.problem_model.specs.declared.refusal.Refusal.TheVariants.{Past, NotDecimal, NoMemory}
use Rattle.std.specs.Prelude.{Err}
use Rattle.presolve_model.specs.After.{AfterAllows}
use Rattle.txn_book.specs.Applying.{Applies}
use Rattle.presolve_model.specs.Changes.{changed}
use Rattle.presolve_model.specs.Commits.{transaction_of, with_instance}
use Rattle.presolve_model.specs.Enabled.{enabled_on}
use Rattle.presolve_model.specs.Changes.{ChangeFits, ChangeIsWritten}
use Rattle.presolve_model.specs.Ledger.{Ledger, Stands}
use Rattle.presolve_model.specs.Instances.{tallied}
use Rattle.presolve_model.specs.Tables.{record_of}
use Rattle.presolve_model.specs.Tallies.{Counts, no_counts}
use Rattle.presolve_model.proofs.Tallying.{none_long, none_tallied}
use Rattle.problem_model.specs.Problems.{IsSparse}
use Rattle.problem_model.specs.Writing.{IsWritable}
use Rattle.problem_model.specs.Sparse.{Sparse}
use Rattle.history_laws.proofs.Books.{stands_reduction}
use Rattle.history_laws.proofs.Telling.{told_long}

-- one reduction more
pub grown : (b : Ledger) (w version : ℕ) (r : Reduction) (q : Sparse) (h : List Reduction) (us : List Undo) (ts : List Transaction) (c : Counts) → q ≡ changed r b.problem → h ≡ b.history ++ r ∷ [] → us ≡ b.records ++ record_of r b.problem ∷ []
    → ts ≡ b.transactions ++ transaction_of b w version (at.Reduction r) ∷ [] → c ≡ tallied r b.tally
    → record b { problem = q; history = h; records = us; transactions = ts; tally = c } ≡ with_instance b w version (at.Reduction r)
grown b w version r q h us ts c eq eh eu et ec =
    λ i. record b { problem = eq i; history = eh i; records = eu i; transactions = et i; tally = ec i }

pub stands_grown : (b : Ledger) (w version : ℕ) (r : Reduction) (q : Sparse) (h : List Reduction) (us : List Undo) (ts : List Transaction) (c : Counts) → Stands b → b.verdict ≡ None → length b.history < b.limit → enabled_on b.problem (at.Reduction r) ≡ true
    → ChangeFits r b.problem → ChangeIsWritten b.numbers r b.problem → q ≡ changed r b.problem → h ≡ b.history ++ r ∷ [] → us ≡ b.records ++ record_of r b.problem ∷ []
    → ts ≡ b.transactions ++ transaction_of b w version (at.Reduction r) ∷ [] → c ≡ tallied r b.tally
    → Stands (record b { problem = q; history = h; records = us; transactions = ts; tally = c })
stands_grown b w version r q h us ts c s undecided room on fits written eq eh eu et ec =
    subst Stands (sym (grown b w version r q h us ts c eq eh eu et ec)) (stands_reduction b w version r s undecided room (record { enabled = on; fits = fits; written = written }))

-- a book to which nothing was done
fresh : (p : Sparse) (numbers : Numbers) (limit : ℕ) → IsSparse p → IsWritable numbers p → ((a : Part) → changes_of p a ≡ 0)
    → Stands (record { start = p; problem = p; history = []; verdict = None; records = []; transactions = []; tally = no_counts (length p.matrix.columns); numbers = numbers; limit = limit })
fresh p numbers limit s w none = record {
  sound = s;
  writable = w;
  unchanged = none;
  replays = tt;
  problem = refl;
  records = refl;
  transactions = record { reads = refl; versions = tt };
  counts = none_long (length p.matrix.columns);
  tally = none_tallied (length p.matrix.columns);
  verdict = tt;
  within = omega arith;
}

pub stands_fresh : (p q : Sparse) (h : List Reduction) (us : List Undo) (ts : List Transaction) (c : Counts) (numbers : Numbers) (limit : ℕ) → IsSparse p → IsWritable numbers p → ((a : Part) → changes_of p a ≡ 0) → q ≡ p → h ≡ [] → us ≡ [] → ts ≡ [] → c ≡ no_counts (length p.matrix.columns)
    → Stands (record { start = q; problem = p; history = h; verdict = None; records = us; transactions = ts; tally = c; numbers = numbers; limit = limit })
stands_fresh p q h us ts c numbers limit s w none eq eh eu et ec =
    subst Stands (λ i. record { start = sym eq i; problem = p; history = sym eh i; verdict = None; records = sym eu i; transactions = sym et i; tally = sym ec i; numbers = numbers; limit = limit }) (fresh p numbers limit s w none)

-- the transactions as they were before a reduction that was refused
kept_front : {X : Type 0} (n : ℕ) (xs : List X) (y : X) → length xs ≡ n → take n (xs ++ y ∷ []) ≡ xs
kept_front zero [] y e = refl
kept_front zero (x ∷ xs) y e = absurd (omega (arith, e))
kept_front (suc n) [] y e = absurd (omega (arith, e))
kept_front (suc n) (x ∷ xs) y e = ap (λ zs. x ∷ zs) (kept_front n xs y (omega (arith, e)))

pub taken_back : (b : Ledger) (n : ℕ) (ts us : List Transaction) (t : Transaction) → Stands b → n ≡ length b.history → ts ≡ b.transactions ++ t ∷ [] → us ≡ take n ts → us ≡ b.transactions
taken_back b n ts us t s en et eu =
    eu ∙ ap (take n) et ∙ kept_front n b.transactions t (told_long b.start b.history b.transactions s.transactions ∙ sym en)

-- a refusal leaves the book as it was
pub refused : (b c : Ledger) (w version : ℕ) (r : Reduction) (x : Refusal) (q : Sparse) → AfterAllows b.numbers r b.problem (Err x) q → (q ≡ b.problem → c ≡ b) → Applies b w version r (Err x) c
refused b c w version r Past q a same = (a.0, same a.1)
refused b c w version r NotDecimal q a same = (a.0, a.1, same a.2)
refused b c w version r NoMemory q a same = same a

pub stays_by : (numbers : Numbers) (r : Reduction) (p q : Sparse) (x : Refusal) → AfterAllows numbers r p (Err x) q → q ≡ p
stays_by numbers r p q Past a = a.1
stays_by numbers r p q NotDecimal a = a.2
stays_by numbers r p q NoMemory a = a

-- where the problem stays, nothing is to be noted
pub none_noted : (p q : Sparse) (ps : List Part) → q ≡ p → AreNoted p q ps ps
none_noted p q ps e = record { kept = λ a c. c; changed = λ a. inl (ap (λ (x : Sparse). read_of x a) e) }
