-- What a name of files in memory holds at first.
use Rattle.std.specs.Prelude.{◌≡◌, slice_get, ℕ, List, [], ◌∷◌, Bool, true, false, if◌then◌else◌, Some, None, string_bytes, vec_items}
use Rattle.std.specs.List.{list_any}
use Rattle.std.specs.Str.{bytes_eq}
use Rattle.std.specs.Option.{option_map}
use Rattle.file_ports.specs.Ports.{Told}
use Rattle.file_ports.specs.Memory.{Place, place_of}
use Rattle.file_ports.specs.declared.entry.Held.{Held}
use Rattle.file_ports.specs.declared.entry.Known.{Known}
use Rattle.file_ports.specs.declared.entry.Known.TheVariants.{Missing, Bytes, Untold}

-- one of these has the name
abbrev pub has_name_in : List Held → List ℕ → Bool
has_name_in held name = list_any (λ one. bytes_eq (string_bytes one.name) name) held

-- no name stands again after it
abbrev pub all_differ : List Held → Bool
all_differ [] = true
all_differ (one ∷ rest) = if has_name_in rest (string_bytes one.name) then false else all_differ rest

-- it tells its bytes, or that it is missing
abbrev pub place_of_held : Held → Place
place_of_held held = record { name = string_bytes held.name; told = Some (option_map vec_items held.bytes); room = held.room }

abbrev pub told_as : Known → List ℕ → Told
told_as Missing bytes = Some None
told_as Bytes bytes = Some (Some bytes)
told_as Untold bytes = None

-- each name of the list tells what it holds and has its room
abbrev pub IsAsHeld : List Held → List Place → Type 0
IsAsHeld held places = (k : ℕ) (one : Held) → slice_get held k ≡ Some one → place_of places (string_bytes one.name) ≡ Some (place_of_held one)
