-- What is known of an option whose case is told.
use Rattle.std.proofs.Common.{◌≡◌, Option, Some, None, subst}
use Rattle.std.specs.Prelude.{MatchOption, IfSome}

pub some_of : {A : Type 0} {o : Option A} {v : A} (P : Type 0) (Q : A → Type 0) → o ≡ Some v → MatchOption o P Q → Q v
some_of P Q e h = subst (λ p. MatchOption p P Q) e h

pub none_of : {A : Type 0} {o : Option A} (P : Type 0) (Q : A → Type 0) → o ≡ None → MatchOption o P Q → P
none_of P Q e h = subst (λ p. MatchOption p P Q) e h

pub if_some_of : {A : Type 0} {o : Option A} {v : A} (Q : A → Type 0) → o ≡ Some v → IfSome o Q → Q v
if_some_of Q e h = subst (λ p. IfSome p Q) e h
