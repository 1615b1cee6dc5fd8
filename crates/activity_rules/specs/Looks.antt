-- What is looked at of a row before its activities are.
use Rattle.std.specs.Prelude.{Bool, true, false, Option, Result, Ok, Err}
use Rattle.fractions.specs.Number.{Number}
use Rattle.fractions.specs.declared.Past.{Past}

-- a test of one activity, where it has room
abbrev pub on_one : (Option Number → Bool) → Result (Option Number) Past → Bool
on_one test (Ok v) = test v
on_one test (Err e) = false

abbrev pub has_room : Result (Option Number) Past → Bool
has_room (Ok v) = true
has_room (Err e) = false
