-- Commits of a pass in turn.
use Rattle.std.proofs.Common.{◌≡◌, ◌+◌, ◌-◌, ◌≤◌, List, [], ◌∷◌, ◌++◌, length, take, drop, get_or, sym, ap, ◌∙◌, subst, arith, le_refl, take_all, length-append, append_assoc}
use Rattle.std.specs.List.{All}
use Rattle.std.proofs.lemmas.List.Elements.{All-cons, All-head, All-nil, All-tail}
use Rattle.shared_book.specs.declared.call.Call.TheVariants.{Commit}
use Rattle.shared_book.specs.History.{Known, Shared, StartsWith}
use Rattle.shared_book.proofs.Made.{still_takes}
use Rattle.presolve_model.specs.declared.outcome.Outcome.{Outcome}
use Rattle.presolve_model.specs.Given.{Proposed}
use Rattle.presolve_model.specs.Ledger.{Ledger}
use Rattle.book_turns.specs.Sharing.{after_call, allows_call, IsFrom, takes_later}
use Rattle.book_turns.specs.Turns.{IsCalled, IsPass, left_of, Turn}
use Rattle.worker_tasks.specs.Tasks.{AreCommitted}

-- a call begins with what was seen before
pub call_begins : (s : Shared Ledger) (p q : Known Ledger Turn) (c : Turn) → IsCalled s p c q → StartsWith q.seen p.seen
call_begins s p q c k = (k.seen.0 ++ c ∷ [], k.seen.1 ∙ append_assoc p.seen k.seen.0 (c ∷ []))

-- what may be committed may be committed later
pub taken_on : (s : Shared Ledger) (p q : Known Ledger Turn) (xs : List Proposed) → StartsWith q.seen p.seen → IsPass s q → All (IsFrom (left_of s.start p.seen)) xs → All (IsFrom (left_of s.start q.seen)) xs
taken_on s p q [] begins pass t = All-nil (IsFrom (left_of s.start q.seen))
taken_on s p q (x ∷ xs) begins pass t = All-cons (IsFrom (left_of s.start q.seen)) x xs
    (still_takes IsFrom allows_call after_call takes_later s.start p.seen q.seen x begins pass.legal (All-head (IsFrom (left_of s.start p.seen)) x xs t))
    (taken_on s p q xs begins pass (All-tail (IsFrom (left_of s.start p.seen)) x xs t))

-- one more of the proposals is committed
module _ (s : Shared Ledger) (a p q : Known Ledger Turn) (ps xs ys : List Proposed) (x : Proposed) (o : Outcome) (split : x ∷ ys ≡ xs) (c : IsCalled s p (Commit p.number x o) q) where
  pub called_taken : All (IsFrom (left_of s.start p.seen)) xs → All (IsFrom (left_of s.start q.seen)) ys
  called_taken t = taken_on s p q ys (call_begins s p q (Commit p.number x o) c) c.pass (All-tail (IsFrom (left_of s.start p.seen)) x ys (subst (All (IsFrom (left_of s.start p.seen))) (sym split) t))

  pub called_ends : ((r : Known Ledger Turn) → AreCommitted s p xs r → AreCommitted s a ps r) → (r : Known Ledger Turn) → AreCommitted s q ys r → AreCommitted s a ps r
  called_ends f r h = f r (subst (λ (l : List Proposed). AreCommitted s p l r) split (o, q, c, h))

  pub called_counts : length p.mine + length xs ≡ length a.mine + length ps → length q.mine + length ys ≡ length a.mine + length ps
  called_counts e = let m = ap length c.mine in let n = ap length split in omega (arith, e, m, n, length-append p.mine (length q.seen ∷ []))

-- a list that is not empty, by its first and what is behind it
pub first_and_rest : {X : Type 0} (xs : List X) (d : X) → 1 ≤ length xs → get_or xs 0 d ∷ take (length xs - 1) (drop 1 xs) ≡ xs
first_and_rest [] d l = absurd (omega (arith, l))
first_and_rest {X} (x ∷ xs) d l = ap (λ (ys : List X). x ∷ ys) (let e : length (x ∷ xs) - 1 ≡ length xs = omega arith in ap (λ n. take n xs) e ∙ take_all (length xs) xs (le_refl (length xs)))
