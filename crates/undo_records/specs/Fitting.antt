-- When sums, products, differences and quotients have room in a kind of numbers.
use Rattle.std.specs.Prelude.{List, [], ◌∷◌, Option, Some, None, ⊤}
use Rattle.fractions.specs.Number.{Number, neg_ℚ, ◌+ℚ◌, ◌-ℚ◌, ◌*ℚ◌}
use Rattle.fractions.specs.Division.{◌/ℚ◌}
use Rattle.fractions.specs.Ends.{less, minus_ends}
use Rattle.fractions.specs.Room.{Room, in_frac}
use Rattle.lp_model.specs.declared.terms.Term.{Term}
use Rattle.lp_model.specs.Vectors.{Vector}

-- s plus the product of a term
abbrev pub TermFits : Room → Number → Term → Vector → Type 0
TermFits m s t x = m.number (t.value *ℚ x t.id) × m.sum s (t.value *ℚ x t.id)

-- s plus the products of the terms, each by itself and each sum as the terms go
abbrev pub TermsFit : Room → Number → List Term → Vector → Type 0
TermsFit m s [] x = ⊤
TermsFit m s (t ∷ ts) x = TermFits m s t x × TermsFit m (s +ℚ t.value *ℚ x t.id) ts x

-- p - b v
abbrev pub LessFits : Room → Number → Number → Number → Type 0
LessFits m p b v = m.number (b *ℚ v) × m.sum p (neg_ℚ (b *ℚ v))

-- the same in a `Frac`
abbrev pub LessProductFits : Number → Number → Number → Type 0
LessProductFits p b v = LessFits in_frac p b v

-- (p - q) / a
abbrev pub OverFits : Room → Number → Number → Number → Type 0
OverFits m p q a = m.sum p (neg_ℚ q) × m.number ((p -ℚ q) /ℚ a)

-- the same in a `Frac`
abbrev pub QuotientFits : Number → Number → Number → Type 0
QuotientFits p q a = OverFits in_frac p q a

-- an end less q, p less an end, and an end over a; of no end nothing is computed
abbrev pub EndLessFits : Room → Option Number → Number → Type 0
EndLessFits m None q = ⊤
EndLessFits m (Some e) q = m.sum e (neg_ℚ q)

abbrev pub LessEndFits : Room → Number → Option Number → Type 0
LessEndFits m p None = ⊤
LessEndFits m p (Some e) = m.sum p (neg_ℚ e)

abbrev pub EndOverFits : Room → Option Number → Number → Type 0
EndOverFits m None a = ⊤
EndOverFits m (Some e) a = m.number (e /ℚ a)

-- from lo - q to hi - q, over a
abbrev pub SlackFits : Room → Number → Option Number → Option Number → Number → Type 0
SlackFits m a lo hi q = (EndLessFits m lo q × EndLessFits m hi q) × EndOverFits m (less lo q) a × EndOverFits m (less hi q) a

-- from p - hi to p - lo, over a
abbrev pub ShareFits : Room → Number → Option Number → Option Number → Number → Type 0
ShareFits m a lo hi p = (LessEndFits m p hi × LessEndFits m p lo) × EndOverFits m (minus_ends (Some p) hi) a × EndOverFits m (minus_ends (Some p) lo) a
