-- Cards without a fault.
use Rattle.std.specs.Prelude.{◌≡◌, List, [], ◌∷◌, None}
use Rattle.mps_profile.specs.Cards.{Card}
use Rattle.mps_profile.specs.CardFaults.{card_fault}
use Rattle.mps_profile.specs.declared.dialect.Dialect.{Dialect}

-- each card has no fault by the cards before it
abbrev pub IsFaultless : Dialect → List Card → Type 0
IsFaultless dialect [] = Unit {0}
IsFaultless dialect (card ∷ before) = (card_fault dialect before card ≡ None) × IsFaultless dialect before
