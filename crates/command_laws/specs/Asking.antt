-- What words that clap takes ask for.
use Rattle.std.specs.Prelude.{◌≡◌, ◌≢◌, ◌⊎◌, List, Some, None, codes, true, false}
use Rattle.clap.specs.Words.{Row, Text, first_of}
use Rattle.command_app.specs.Line.{found_in, is_taken}
use Rattle.command_line.specs.Line.{is_on, selected}

-- presolve with one name for OUT and REC, migrate with one for REC and NEW, or solve with one for IN and SOL
abbrev pub HasOneName : Text → List Row → Type 0
HasOneName name rows = ((name ≡ codes "presolve") × (first_of (codes "out") rows ≡ first_of (codes "rec") rows))
    ⊎ ((name ≡ codes "migrate") × (first_of (codes "rec") rows ≡ first_of (codes "new") rows))
    ⊎ ((name ≡ codes "solve") × (first_of (codes "in") rows ≡ first_of (codes "sol") rows))

-- presolve with a name for RAY, but without `--dual`, or with the name of OUT or REC
abbrev pub HasNoPlaceForRay : Text → List Row → Type 0
HasNoPlaceForRay name rows = (name ≡ codes "presolve") × ((ray : Text) × (first_of (codes "ray") rows ≡ Some ray)
    × ((is_on (first_of (codes "dual") rows) ≡ false) ⊎ (first_of (codes "out") rows ≡ Some ray) ⊎ (first_of (codes "rec") rows ≡ Some ray)))

-- presolve, check or verify with both options of a format
abbrev pub HasTwoFormats : Text → List Row → Type 0
HasTwoFormats name rows = ((name ≡ codes "presolve") ⊎ (name ≡ codes "check") ⊎ (name ≡ codes "verify"))
    × (is_on (first_of (codes "fixed") rows) ≡ true) × (is_on (first_of (codes "opb") rows) ≡ true)

-- where clap takes the words and finds a command in them, they ask for something, but where two names are one that have to differ, or RAY has
-- no place, or two formats are given
abbrev pub TakenWordsAsk : Type 0
TakenWordsAsk = (words : List Text) (name : Text) (rows : List Row) → is_taken words ≡ true → found_in words ≡ Some (name, rows)
    → (selected words ≢ None) ⊎ HasOneName name rows ⊎ HasNoPlaceForRay name rows ⊎ HasTwoFormats name rows
