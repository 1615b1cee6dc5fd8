-- The words of a line, and those of them that are ids or counts.
use Rattle.std.specs.Prelude.{ℕ, zero, suc, ◌^◌, Bool, true, false, not, ◌&&◌, ◌||◌, List, [], ◌∷◌, length, Option, Some, None, nat_lt, ◌==◌, if◌then◌else◌, slice_index}
use Rattle.std.specs.List.{slice_split}
use Rattle.std.specs.Str.{bytes_eq}
use Rattle.number_texts.specs.Form.{is_digits, number}
use Rattle.record_fields.specs.declared.faults.LineFault.{LineFault}
use Rattle.record_fields.specs.declared.faults.LineFault.TheVariants.{BadLine, BadId}

abbrev pub is_space : ℕ → Bool
is_space b = b == 32

-- a line is cut at each space; two spaces in a row have an empty word between them
abbrev pub words_of : List ℕ → List (List ℕ)
words_of line = slice_split is_space line

-- the first word, and an empty one where there is none
abbrev pub first : List (List ℕ) → List ℕ
first [] = []
first (w ∷ ws) = w

abbrev pub others : List (List ℕ) → List (List ℕ)
others [] = []
others (w ∷ ws) = ws

abbrev pub is_empty : List (List ℕ) → Bool
is_empty [] = true
is_empty (w ∷ ws) = false

-- the words behind so many
abbrev pub skip : ℕ → List (List ℕ) → List (List ℕ)
skip zero ws = ws
skip (suc k) ws = skip k (others ws)

-- a decimal number without leading zeros
abbrev pub is_plain : List ℕ → Bool
is_plain w = is_digits w && (not (slice_index w 0 == 48) || (length w == 1))

-- an id past those that there are anywhere: 2^32 or more
abbrev pub is_far : List ℕ → Bool
is_far w = not (nat_lt (number w) (2 ^ 32))

-- the id that a word is; 0 stands for a word that is none
abbrev pub id_of : List ℕ → ℕ
id_of w = if is_plain w && not (is_far w) then number w else 0

-- an id is written without leading zeros
abbrev pub id_fault : List ℕ → Option LineFault
id_fault w = if is_plain w then (if is_far w then Some BadId else None) else Some BadLine

-- ids are the same where their words are: these have no leading zeros
abbrev pub same_id : List ℕ → List ℕ → Bool
same_id v w = bytes_eq v w

-- ids ascend as numbers of any size; no id stands before the first one
abbrev pub comes_after : Option (List ℕ) → List ℕ → Bool
comes_after None w = true
comes_after (Some v) w = nat_lt (number v) (number w)
