-- The transactions of a history, with one more.
use Rattle.std.proofs.Common.{◌≡◌, ℕ, suc, ◌+◌, ◌<◌, List, [], ◌∷◌, ◌++◌, length, min, refl, sym, ap, ap₂, ◌∙◌, subst, arith}
use Rattle.std.proofs.lemmas.List.{length-map, map-append}
use Rattle.problem_model.specs.Sparse.{Sparse}
use Rattle.transactions.specs.declared.transactions.PartRead.{PartRead}
use Rattle.transactions.specs.Transactions.{Transaction, VersionsBelow}
use Rattle.presolve_model.specs.declared.instance.Instance.TheVariants as at
use Rattle.presolve_model.specs.declared.instance.Reduction.{Reduction}
use Rattle.presolve_model.specs.Changes.{changed}
use Rattle.presolve_model.specs.Commits.{transaction_of}
use Rattle.presolve_model.specs.Ledger.{Ledger, Stands}
use Rattle.presolve_model.specs.Transactions.{numbers_along, numbers_read, TellReadings}
use Rattle.history_laws.proofs.Histories.{numbers_grow}

-- there is one for each reduction
along_long : (p : Sparse) (rs : List Reduction) → length (numbers_along p rs) ≡ length rs
along_long p [] = refl
along_long p (r ∷ rs) = ap suc (along_long (changed r p) rs)

pub told_long : (p : Sparse) (rs : List Reduction) (ts : List Transaction) → TellReadings p rs ts → length ts ≡ length rs
told_long p rs ts t = sym (length-map ts (λ (u : Transaction). u.reads)) ∙ ap length t.reads ∙ along_long p rs

versions_grow : (place : ℕ) (ts : List Transaction) (t : Transaction) → VersionsBelow place ts → t.version < place + length ts → VersionsBelow place (ts ++ t ∷ [])
versions_grow place [] t v l = (omega (arith, l), tt)
versions_grow place (u ∷ ts) t v l = (v.0, versions_grow (suc place) ts t v.1 (omega (arith, l)))

lowered : (version n : ℕ) → min version n < 1 + n
lowered version n = omega arith

pub tells_grow : (b : Ledger) (w version : ℕ) (r : Reduction) → Stands b → TellReadings b.start (b.history ++ r ∷ []) (b.transactions ++ transaction_of b w version (at.Reduction r) ∷ [])
tells_grow b w version r s = record {
  reads = map-append (λ (t : Transaction). t.reads) b.transactions (transaction_of b w version (at.Reduction r) ∷ [])
      ∙ ap₂ (λ (ns : List (List PartRead)) (q : Sparse). ns ++ numbers_read q (at.Reduction r) ∷ []) s.transactions.reads s.problem
      ∙ sym (numbers_grow b.start b.history r);
  versions = versions_grow 1 b.transactions (transaction_of b w version (at.Reduction r)) s.transactions.versions
      (subst (λ (n : ℕ). min version (length b.history) < 1 + n) (sym (told_long b.start b.history b.transactions s.transactions)) (lowered version (length b.history)));
}
