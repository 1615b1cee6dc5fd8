-- Tests in another order.
use Rattle.std.proofs.Common.{◌≡◌, Bool, true, false, ◌&&◌, refl}

pub last_first : (a b c : Bool) → (a && (b && c)) ≡ (a && (c && b))
last_first false b c = refl
last_first true false false = refl
last_first true false true = refl
last_first true true false = refl
last_first true true true = refl
