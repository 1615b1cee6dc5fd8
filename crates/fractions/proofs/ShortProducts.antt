-- Products of whole numbers of 63 bits.
use Rattle.std.proofs.Common.{◌≡◌, ℕ, ◌*◌, ◌^◌, ◌<◌, ◌≤◌, ℤ, ◌*ℤ◌, nat_abs, to_z, of_z, sym, ap₂, ◌∙◌, subst, arith, lit<, lt_of_le_of_lt}
use mir.Syntax.{w64, w128}
use Rattle.std.proofs.lemmas.Int.{ints, to_z-of_z, fits_signed_mul, unsigned_abs-mul}

-- cut to 64 bits and back
cut : (x : ℤ) → nat_abs x < 2 ^ 63 → to_z w128 (of_z w128 (to_z w64 (of_z w64 (to_z w128 (of_z w128 x))))) ≡ x
cut x h = omega (arith, ints, h)

abs_bound : (x y : ℤ) → nat_abs x < 2 ^ 63 → nat_abs y < 2 ^ 63 → nat_abs x * nat_abs y ≤ 2 ^ 63 * 2 ^ 63
abs_bound x y h k = by (nat_abs x) (nat_abs y) h k
  where
    by : (m n : ℕ) → m < 2 ^ 63 → n < 2 ^ 63 → m * n ≤ 2 ^ 63 * 2 ^ 63
    by m n h k = grind arith

pub short_product_fits : (x y : ℤ) → nat_abs x < 2 ^ 63 → nat_abs y < 2 ^ 63 → nat_abs (x *ℤ y) < 2 ^ 127
short_product_fits x y h k = subst (λ (n : ℕ). n < 2 ^ 127) (sym (unsigned_abs-mul x y)) (lt_of_le_of_lt (abs_bound x y h k) (lit< tt))

pub short_product : (x y : ℤ) → nat_abs x < 2 ^ 63 → nat_abs y < 2 ^ 63
    → to_z w128 (of_z w128 (to_z w128 (of_z w128 (to_z w64 (of_z w64 (to_z w128 (of_z w128 x))))) *ℤ to_z w128 (of_z w128 (to_z w64 (of_z w64 (to_z w128 (of_z w128 y))))))) ≡ x *ℤ y
short_product x y h k =
    ap₂ (λ u v. to_z w128 (of_z w128 (u *ℤ v))) (cut x h) (cut y k)
    ∙ to_z-of_z w128 (x *ℤ y) (fits_signed_mul w128 x y (2 ^ 63) (2 ^ 63) (omega (arith, h)) (omega (arith, k)) (lit< tt))
