-- An error is the same error of a result of another kind.
use Rattle.std.proofs.Common.{◌≡◌, ap}
use Rattle.std.specs.Prelude.{Result, Ok, Err, IsErrOf}

pub error_kept : {A B E : Type 0} (e f : E) → IsErrOf {T = A} (Err e) f → IsErrOf {T = B} (Err e) f
error_kept {A} {B} {E} e f h = ap again (ap error_of h)
  where
    again : E → Result B E
    again r = Err r

    error_of : Result A E → E
    error_of (Ok a) = e
    error_of (Err x) = x
