-- A column breaks one limit, and then it does not keep them.
use Rattle.std.proofs.Common.{rules, ◌≡◌, inl, inr, refl, Bool, true, false, Option, Some, None}
use Rattle.fractions.specs.Number.{Number}
use Rattle.lp_model.specs.Gaps.{Gap, Clears, gap_of}
use Rattle.lp_check.specs.declared.verdicts.Limit.{Limit}
use Rattle.lp_check.specs.Limits.{Keeps, Breaks, BreaksColumn}

pub one_limit : (l u : Option Number) (w : Bool) (v : Number) (a b : Limit) → Breaks l u w v a → Breaks l u w v b → a ≡ b
one_limit l u w v a b h k = search rules

pub limit_not : (l u : Option Number) (w : Bool) (v : Number) (a : Limit) → Breaks l u w v a → Keeps l u w v → ⊥
limit_not l u w v a h k = search rules

pub one_break : (g : Option Gap) (l u : Option Number) (w : Bool) (v : Number) (a b : Limit) → BreaksColumn g l u w v a → BreaksColumn g l u w v b → a ≡ b
one_break None l u w v a b h k = one_limit l u w v a b h k
one_break (Some g) l u w v a b h k = one_limit g.lower g.upper w v a b h.0 k.0

pub breaks_not : (g : Option Gap) (l u : Option Number) (w : Bool) (v : Number) (a : Limit) → BreaksColumn g l u w v a → Keeps l u w v × Clears g v → ⊥
breaks_not None l u w v a h k = limit_not l u w v a h k.0
breaks_not (Some g) l u w v a h (k, inl z) = h.1 z
breaks_not (Some g) l u w v a h (k, inr c) = limit_not g.lower g.upper w v a h.0 (c, k.1)

pub no_gap : (semi : Bool) (l u : Option Number) → gap_of semi l u ≡ None → semi ≡ false
no_gap true l u e = cc
no_gap false l u e = refl
