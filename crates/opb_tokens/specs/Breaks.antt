-- Where a word ends.
use Rattle.std.specs.Prelude.{ℕ, ◌==◌, ◌||◌, Bool}
use Rattle.opb_text.specs.Words.{is_space}

abbrev pub is_break : ℕ → Bool
is_break b = is_space b || (b == 59)
