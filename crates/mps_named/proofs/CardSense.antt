-- What a card without a fault is free of.
use Rattle.std.proofs.Common.{◌≡◌, Bool, true, false, cond, not, ◌&&◌, List, Option, Some, None, refl, sym, ap, ◌∙◌}
use Rattle.std.proofs.lemmas.Bool.{or_from, or_parts}
use Rattle.mps_profile.specs.Cards.{Pairs, One, Two, either, Card}
use Rattle.mps_profile.specs.CardFaults.{card_fault, has_bad_number, has_past_number, names_unknown_row, names_unknown_column, names_row_again, names_entry_again, is_doubled, makes_past, past_pair, past_range, past_ranges, splits_column, has_unknown_type, is_bad_marker, has_bad_row_type, ranges_free_row}
use Rattle.mps_profile.specs.declared.dialect.Dialect.{Dialect}
use Rattle.mps_profile.specs.declared.faults.MpsFaultKind.{MpsFaultKind}

pub record Sound (dialect : Dialect) (before : List Card) (card : Card) : Type 0 where
  pub bad_number : has_bad_number dialect before card ≡ false
  pub past_number : has_past_number dialect before card ≡ false
  pub unknown_row : names_unknown_row before card ≡ false
  pub unknown_column : names_unknown_column before card ≡ false
  pub row_again : names_row_again before card ≡ false
  pub entry_again : names_entry_again dialect before card ≡ false
  pub split : splits_column before card ≡ false
  pub unknown_type : has_unknown_type card ≡ false
  pub bad_marker : is_bad_marker before card ≡ false
  pub bad_type : has_bad_row_type card ≡ false
  pub ranged_free : ranges_free_row before card ≡ false

first_holds_not : (b : Bool) (fault : MpsFaultKind) (later : Option MpsFaultKind) → cond b (Some fault) later ≡ None → (b ≡ false) × (later ≡ None)
first_holds_not true fault later none = cc
first_holds_not false fault later none = (refl, none)

pub sound : (dialect : Dialect) (before : List Card) (card : Card) → card_fault dialect before card ≡ None → Sound dialect before card
sound dialect before card none =
    let a = first_holds_not _ _ _ none in
    let b = first_holds_not _ _ _ a.1 in
    let c = first_holds_not _ _ _ b.1 in
    let d = first_holds_not _ _ _ c.1 in
    let e = first_holds_not _ _ _ d.1 in
    let f = first_holds_not _ _ _ e.1 in
    let g = first_holds_not _ _ _ f.1 in
    let h = first_holds_not _ _ _ g.1 in
    let i = first_holds_not _ _ _ h.1 in
    let j = first_holds_not _ _ _ i.1 in
    let k = first_holds_not _ _ _ j.1 in
    record {
      bad_number = a.0;
      past_number = b.0;
      unknown_row = c.0;
      unknown_column = d.0;
      row_again = e.0;
      entry_again = f.0;
      split = g.0;
      unknown_type = h.0;
      bad_marker = i.0;
      bad_type = j.0;
      ranged_free = k.0;
    }

-- where the pairs name different rows, no number and no side of either is past
pub ranges-fit : (dialect : Dialect) (before : List Card) (pairs : Pairs) → past_ranges dialect before pairs ≡ false → is_doubled pairs ≡ false → either (past_range dialect before) pairs ≡ false
ranges-fit dialect before (One pair) past once = past
ranges-fit dialect before (Two pair other) past once =
    let outer = or_parts _ _ past in
    let inner = or_parts _ _ outer.0 in
    let side : makes_past dialect before other ≡ false = sym (ap (λ (b : Bool). not b && makes_past dialect before other) once) ∙ outer.1 in
    or_from (past_range dialect before pair) (past_range dialect before other) inner.0 (or_from (past_pair dialect other) (makes_past dialect before other) inner.1 side)
