-- The last of a list.
use Rattle.std.proofs.Common.{suc, List, [], ◌∷◌, ◌++◌, arith}
use Rattle.std.specs.List.{All}

pub all_last : {X : Type 0} (P : X → Type 0) (xs : List X) (x : X) → All P (xs ++ x ∷ []) → P x
all_last P [] x a = a 0 x (omega arith)
all_last P (y ∷ xs) x a = all_last P xs x (λ k d l. a (suc k) d (omega (arith, l)))
