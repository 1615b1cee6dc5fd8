-- Sections of cards: what they leave as it was.
use Rattle.std.proofs.Common.{◌≡◌, List, [], ◌∷◌, ◌++◌, map, Option, refl, ◌∙◌}
use Rattle.std.specs.Prelude.{flat_map}
use Rattle.std.specs.List.{AllByRecursion}
use Rattle.mps_profile.specs.Texts.{Text}
use Rattle.mps_profile.specs.Cards.{Pairs, Card, RowCard, MarkerCard, ColumnCard, SideCard, RangeCard, ValuedCard, BareCard}
use Rattle.mps_profile.specs.declared.bounds.Valued.{Valued}
use Rattle.mps_profile.specs.declared.bounds.Bare.{Bare}
use Rattle.mps_written_lines.specs.Written.{WrittenCard, onto}

pub all_append : {X : Type 0} (P : X → Type 0) (xs ys : List X) → AllByRecursion P xs → AllByRecursion P ys → AllByRecursion P (xs ++ ys)
all_append P [] ys first second = second
all_append P (x ∷ xs) ys first second = (first.0, all_append P xs ys first.1 second)

pub all_map : {X Y : Type 0} (P : Y → Type 0) (Q : X → Type 0) (f : X → Y) → ((x : X) → Q x → P (f x)) → (xs : List X) → AllByRecursion Q xs → AllByRecursion P (map f xs)
all_map P Q f each [] all = tt
all_map P Q f each (x ∷ xs) all = (each x all.0, all_map P Q f each xs all.1)

pub all_flat : {X Y : Type 0} (P : Y → Type 0) (Q : X → Type 0) (f : X → List Y) → ((x : X) → Q x → AllByRecursion P (f x)) → (xs : List X) → AllByRecursion Q xs → AllByRecursion P (flat_map f xs)
all_flat P Q f each [] all = tt
all_flat P Q f each (x ∷ xs) all = all_append P (f x) (flat_map f xs) (each x all.0) (all_flat P Q f each xs all.1)

pub all_any : {X : Type 0} (P : X → Type 0) → ((x : X) → P x) → (xs : List X) → AllByRecursion P xs
all_any P each [] = tt
all_any P each (x ∷ xs) = (each x, all_any P each xs)

pub onto_append : (before : List Card) (xs ys : List WrittenCard) → onto before (xs ++ ys) ≡ onto (onto before xs) ys
onto_append before [] ys = refl
onto_append before (x ∷ xs) ys = onto_append (x.card ∷ before) xs ys

-- cards that say nothing to a question leave its answer as it was
pub kept : {Y : Type 0} (P : Card → Type 0) (W : List Card → Y) → ((card : Card) (before : List Card) → P card → W (card ∷ before) ≡ W before)
    → (ws : List WrittenCard) (before : List Card) → AllByRecursion (λ (w : WrittenCard). P w.card) ws → W (onto before ws) ≡ W before
kept P W quiet [] before all = refl
kept P W quiet (w ∷ ws) before all = kept P W quiet ws (w.card ∷ before) all.1 ∙ quiet w.card before all.0

-- the kinds of cards of the sections
abbrev pub OfRows : Card → Type 0
OfRows (RowCard kind name) = Unit {0}
OfRows card = ⊥

abbrev pub OfColumns : Card → Type 0
OfColumns (MarkerCard word) = Unit {0}
OfColumns (ColumnCard name pairs) = Unit {0}
OfColumns card = ⊥

abbrev pub OfSides : Card → Type 0
OfSides (SideCard set pairs) = Unit {0}
OfSides card = ⊥

abbrev pub OfRanges : Card → Type 0
OfRanges (RangeCard set pairs) = Unit {0}
OfRanges card = ⊥

abbrev pub OfBounds : Card → Type 0
OfBounds (ValuedCard set kind column number) = Unit {0}
OfBounds (BareCard set kind column) = Unit {0}
OfBounds card = ⊥

module _ {Y : Type 0} (W : List Card → Y) where
  pub kept_rows : ((kind name : Text) (before : List Card) → W (RowCard kind name ∷ before) ≡ W before)
      → (ws : List WrittenCard) (before : List Card) → AllByRecursion (λ (w : WrittenCard). OfRows w.card) ws → W (onto before ws) ≡ W before
  kept_rows quiet = kept OfRows W each
    where
      each : (card : Card) (before : List Card) → OfRows card → W (card ∷ before) ≡ W before
      each (RowCard kind name) before is = quiet kind name before
      each card before is = absurd is

  pub kept_columns : ((word : Text) (before : List Card) → W (MarkerCard word ∷ before) ≡ W before) → ((name : Text) (pairs : Pairs) (before : List Card) → W (ColumnCard name pairs ∷ before) ≡ W before)
      → (ws : List WrittenCard) (before : List Card) → AllByRecursion (λ (w : WrittenCard). OfColumns w.card) ws → W (onto before ws) ≡ W before
  kept_columns mark quiet = kept OfColumns W each
    where
      each : (card : Card) (before : List Card) → OfColumns card → W (card ∷ before) ≡ W before
      each (MarkerCard word) before is = mark word before
      each (ColumnCard name pairs) before is = quiet name pairs before
      each card before is = absurd is

  pub kept_sides : ((set : Option Text) (pairs : Pairs) (before : List Card) → W (SideCard set pairs ∷ before) ≡ W before)
      → (ws : List WrittenCard) (before : List Card) → AllByRecursion (λ (w : WrittenCard). OfSides w.card) ws → W (onto before ws) ≡ W before
  kept_sides quiet = kept OfSides W each
    where
      each : (card : Card) (before : List Card) → OfSides card → W (card ∷ before) ≡ W before
      each (SideCard set pairs) before is = quiet set pairs before
      each card before is = absurd is

  pub kept_ranges : ((set : Option Text) (pairs : Pairs) (before : List Card) → W (RangeCard set pairs ∷ before) ≡ W before)
      → (ws : List WrittenCard) (before : List Card) → AllByRecursion (λ (w : WrittenCard). OfRanges w.card) ws → W (onto before ws) ≡ W before
  kept_ranges quiet = kept OfRanges W each
    where
      each : (card : Card) (before : List Card) → OfRanges card → W (card ∷ before) ≡ W before
      each (RangeCard set pairs) before is = quiet set pairs before
      each card before is = absurd is

  pub kept_bounds : ((set : Option Text) (kind : Valued) (column number : Text) (before : List Card) → W (ValuedCard set kind column number ∷ before) ≡ W before)
      → ((set : Option Text) (kind : Bare) (column : Text) (before : List Card) → W (BareCard set kind column ∷ before) ≡ W before)
      → (ws : List WrittenCard) (before : List Card) → AllByRecursion (λ (w : WrittenCard). OfBounds w.card) ws → W (onto before ws) ≡ W before
  kept_bounds valued bare = kept OfBounds W each
    where
      each : (card : Card) (before : List Card) → OfBounds card → W (card ∷ before) ≡ W before
      each (ValuedCard set kind column number) before is = valued set kind column number before
      each (BareCard set kind column) before is = bare set kind column before
      each card before is = absurd is
