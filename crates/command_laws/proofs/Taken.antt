-- Words that clap takes ask for something.
use Rattle.std.proofs.Common.{◌≡◌, ◌∙◌, true, false, refl, sym, ap, subst, List, [], Option, Some, None, is_some, inl, inr, find, bytes_eq, codes, option_map}
use Rattle.std.specs.Option.{option_map_or}
use Rattle.std.proofs.lemmas.Option.{none-some, same_Some}
use Rattle.clap.proofs.WalkLemmas.{both}
use Rattle.clap.specs.Simple.{App, Shape, argument_words, built, entered, label_of, names_of, rows_at}
use Rattle.clap.specs.Takes.{built_takes, entered_passes, level_passes}
use Rattle.clap.specs.Walk.{Row, Text, answers_to, nothing_held, rows_after, stop_after, walk}
use Rattle.clap.specs.Words.{is_simple}
use Rattle.command_app.specs.Line.{found_in, is_taken, line_app}
use Rattle.command_line.specs.Line.{selected, selected_in}
use Rattle.command_laws.proofs.Commands.{Asks, AsksWhereGiven, commands_ask, line_has_help}
use Rattle.command_laws.proofs.Rows.{Each, each_found}
use Rattle.command_laws.proofs.Walking.{level_each, stop_no_help}
use Rattle.command_laws.specs.Asking.{TakenWordsAsk}

-- what the command asks for that a walk stopped at
entered_asks : (app : App) → Each AsksWhereGiven app.subs → (stop : Option (Text × List Text)) → ((p : Text × List Text) → stop ≡ Some p → bytes_eq p.0 (codes "help") ≡ false)
    → (found : Text × List Row) → entered_passes app stop ≡ true → entered app stop ≡ Some found → Asks found.0 found.1
entered_asks app ask None plain found e is = absurd (none-some found is)
entered_asks app ask (Some p) plain found e is = by (find (λ s. answers_to p.0 (label_of s)) app.subs) refl e is
  where
    by : (o : Option Shape) → find (λ s. answers_to p.0 (label_of s)) app.subs ≡ o
        → option_map_or (λ s. level_passes s [] nothing_held p.1 false) o true ≡ true
        → option_map (λ s. rows_at s p.1) o ≡ Some found → Asks found.0 found.1
    by None at e is = absurd (none-some found is)
    by (Some s) at e is =
        let here = each_found AsksWhereGiven (λ s. answers_to p.0 (label_of s)) app.subs s ask at in
        let asks = here.0 p.0 here.1 (plain p refl) in
        let level = level_each s asks.0 p.1 e in
        let Q : Text × List Row → Type 0 = λ f. Asks f.0 f.1 in
        subst Q (same_Some (rows_at s p.1) found is) (asks.1 (rows_after s.rules [] p.1) level.0 level.1)

-- what a line asks for that takes the words
taken_asks : (app : App) → Each AsksWhereGiven app.subs → app.top.disable_help_subcommand ≡ false → (words : List Text) (found : Text × List Row)
    → built_takes app nothing_held words ≡ true → entered app (stop_after app.top.rules (names_of app) words) ≡ Some found → Asks found.0 found.1
taken_asks app ask has_help words found e is =
    let stop = (walk app.top.rules (names_of app) nothing_held words).stopped in
    let p = both (entered_passes app stop) _ e in
    entered_asks app ask stop (λ q. stop_no_help app.top (names_of app) has_help words (is_some (entered app stop)) q p.1) found p.0 is

pub taken_words_ask : TakenWordsAsk
unfolding is_taken found_in
taken_words_ask words name rows taken found =
    let takes = both (is_simple line_app) _ taken in
    let ws = argument_words line_app words in
    let selects : selected words ≡ selected_in (Some (name, rows)) = ap selected_in found in
    elim (taken_asks (built line_app) commands_ask line_has_help ws (name, rows) takes.1 found) [
      | inl some ↦ inl (λ none. some (sym selects ∙ none))
      | inr one ↦ inr one
    ]
