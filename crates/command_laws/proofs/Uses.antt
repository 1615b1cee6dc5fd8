-- A use of an argument that passes leaves rows with first values.
use Rattle.std.proofs.Common.{◌≡◌, ◌≤◌, ◌||◌, ◌&&◌, Bool, cond, true, false, not, nat_le, sym, arith, List, [], ◌∷◌, Some, inl, inr, true≢false, leb-true, eqb-true, length}
use Rattle.clap.proofs.SimpleLemmas.{is_false}
use Rattle.clap.proofs.WalkLemmas.{both}
use Rattle.clap.specs.Facts.{unwrap_or_range}
use Rattle.clap.specs.Values.{is_request}
use Rattle.clap.specs.Takes.{action_passes, default_passes, use_passes, value_passes, values_pass}
use Rattle.clap.specs.Walk.{Row, Rule, Text, action_of, arg_by_id, default_rows, has_row, is_empty, reading_by, used, used_as, with_default, without}
use Rattle.clap.specs.declared.builder.action.ArgAction.{ArgAction}
use Rattle.clap.specs.declared.builder.action.ArgAction.TheVariants.{Set, Append, SetTrue, SetFalse, Count, Help, HelpShort, HelpLong, Version}
use Rattle.clap.specs.declared.parser.matches.ValueSource.TheVariants.{CommandLine, DefaultValue}
use Rattle.command_laws.proofs.Rows.{Each, HasFirst, either, values_each, without_each}

-- the argument is the first with its id, and a use of it has a value, or ends the parse
abbrev pub IsKnown : List Rule → Rule → Type 0
IsKnown rules a = (arg_by_id rules a.id ≡ Some a)
    × ((nat_le 1 (unwrap_or_range a.range).start_inclusive || (not (is_empty a.missing) || is_request (action_of a))) ≡ true)

request_fails : (x : ArgAction) (again : Bool) (a : Rule) (values : List Text) (rows : List Row) → is_request x ≡ true → action_passes x again a values rows ≡ true → ⊥
request_fails Help again a values rows is e = true≢false (sym e)
request_fails HelpShort again a values rows is e = true≢false (sym e)
request_fails HelpLong again a values rows is e = true≢false (sym e)
request_fails Version again a values rows is e = true≢false (sym e)
request_fails Set again a values rows is e = true≢false (sym is)
request_fails Append again a values rows is e = true≢false (sym is)
request_fails SetTrue again a values rows is e = true≢false (sym is)
request_fails SetFalse again a values rows is e = true≢false (sym is)
request_fails Count again a values rows is e = true≢false (sym is)

-- the values of a use that passes are not empty
has_value : (again : Bool) (a : Rule) (values : List Text) (rows : List Row)
    → (nat_le 1 (unwrap_or_range a.range).start_inclusive || (not (is_empty a.missing) || is_request (action_of a))) ≡ true
    → nat_le (unwrap_or_range a.range).start_inclusive 0 ≡ true → action_passes (action_of a) again a a.missing rows ≡ true → is_empty a.missing ≡ false
has_value again a values rows reads few passes = elim (either _ _ reads) [
  | inl most ↦
      let low : 1 ≤ (unwrap_or_range a.range).start_inclusive = leb-true _ _ most in
      let high : (unwrap_or_range a.range).start_inclusive ≤ 0 = leb-true _ _ few in
      absurd (omega arith)
  | inr other ↦ elim (either _ _ other) [
    | inl some ↦ is_false _ some
    | inr request ↦ absurd (request_fails (action_of a) again a a.missing rows request passes)
  ]
]

-- rows after a use with a value
used_with_value : (rules : List Rule) (x : ArgAction) (again : Bool) (a : Rule) (v : Text) (vs : List Text) (rows : List Row) → arg_by_id rules a.id ≡ Some a
    → action_passes x again a (v ∷ vs) rows ≡ true → Each (HasFirst rules) rows → Each (HasFirst rules) (used_as x a.id (reading_by a) (v ∷ vs) rows)
used_with_value rules Set again a v vs rows found e each = values_each rules a (reading_by a) CommandLine v vs (without a.id rows) found
    (both _ _ (both (not (has_row a.id rows) || again) _ e).1).0 (without_each (HasFirst rules) a.id rows each)
used_with_value rules SetTrue again a v vs rows found e each = values_each rules a (reading_by a) CommandLine v vs (without a.id rows) found
    (both _ _ (both (not (has_row a.id rows) || again) _ e).1).0 (without_each (HasFirst rules) a.id rows each)
used_with_value rules SetFalse again a v vs rows found e each = values_each rules a (reading_by a) CommandLine v vs (without a.id rows) found
    (both _ _ (both (not (has_row a.id rows) || again) _ e).1).0 (without_each (HasFirst rules) a.id rows each)
used_with_value rules Append again a v vs rows found e each = values_each rules a (reading_by a) CommandLine v vs rows found (both _ _ e).0 each
used_with_value rules Count again a v vs rows found e each = values_each rules a (reading_by a) CommandLine v vs (without a.id rows) found
    (both _ _ e).0 (without_each (HasFirst rules) a.id rows each)
used_with_value rules Help again a v vs rows found e each = each
used_with_value rules HelpShort again a v vs rows found e each = each
used_with_value rules HelpLong again a v vs rows found e each = each
used_with_value rules Version again a v vs rows found e each = each

used_missing : (rules : List Rule) (again : Bool) (a : Rule) (missing : List Text) (rows : List Row) → arg_by_id rules a.id ≡ Some a → is_empty missing ≡ false
    → action_passes (action_of a) again a missing rows ≡ true → Each (HasFirst rules) rows → Each (HasFirst rules) (used_as (action_of a) a.id (reading_by a) missing rows)
used_missing rules again a [] rows found some e each = absurd (true≢false some)
used_missing rules again a (v ∷ vs) rows found some e each = used_with_value rules (action_of a) again a v vs rows found e each

pub used_each : (rules : List Rule) (again : Bool) (a : Rule) (values : List Text) (rows : List Row) → IsKnown rules a → use_passes again a values rows ≡ true
    → Each (HasFirst rules) rows → Each (HasFirst rules) (used a values rows)
used_each rules again a [] rows known e each =
    let few = both (nat_le (unwrap_or_range a.range).start_inclusive 0) _ e in
    let passes = (both _ _ few.1).1 in
    used_missing rules again a a.missing rows known.0 (has_value again a [] rows known.1 few.0 passes) passes each
used_each rules again a (v ∷ vs) rows known e each =
    let few = both (nat_le (unwrap_or_range a.range).start_inclusive _) _ e in
    used_with_value rules (action_of a) again a v vs rows known.0 (both _ _ few.1).1 each

-- rows with the default values of the arguments that were not used
pub default_each : (rules : List Rule) (a : Rule) (rows : List Row) → IsKnown rules a → default_passes a ≡ true → Each (HasFirst rules) rows
    → Each (HasFirst rules) (with_default rows a)
default_each rules a rows known e each = go (has_row a.id rows) a.defaults e
  where
    go : (b : Bool) (defaults : List Text) → (is_empty defaults || (not (is_request (action_of a)) && values_pass a defaults)) ≡ true
        → Each (HasFirst rules) (cond b rows (default_rows a.id (reading_by a) defaults rows))
    go true defaults passes = each
    go false [] passes = each
    go false (v ∷ vs) passes = elim (either (is_empty (v ∷ vs)) _ passes) [
      | inl none ↦
          let few : length (v ∷ vs) ≡ 0 = eqb-true _ _ none in
          absurd (omega arith)
      | inr each_passes ↦ values_each rules a (reading_by a) DefaultValue v vs rows known.0
          (both (value_passes a v) _ (both (not (is_request (action_of a))) _ each_passes).1).0 each
    ]
