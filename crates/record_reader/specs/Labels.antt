-- The lines of labels: whether a row or column is live, and its name.
use Rattle.std.specs.Prelude.{ℕ, Bool, true, false, List, [], ◌∷◌, ◌++◌, take, drop, Option, Some, None, codes, if◌then◌else◌}
use Rattle.std.specs.Str.{bytes_eq}
use Rattle.lp_model.specs.Name.{is_name}
use Rattle.undo_records.specs.declared.label.Label.{Label}

-- a label with a name, where the bytes are one
abbrev pub label_named : Bool → List ℕ → Option Label
label_named live name = if is_name name then Some (record { name = name; live = live }) else None

-- `live` or `gone`, a space, and the name
abbrev pub label_of : List ℕ → Option Label
label_of line =
    if bytes_eq (take 5 line) (codes "live ") then label_named true (drop 5 line)
    else if bytes_eq (take 5 line) (codes "gone ") then label_named false (drop 5 line)
    else None

-- a line with a label behind others
abbrev pub with_label : List Label → Option Label → List Label
with_label ls None = ls
with_label ls (Some l) = ls ++ l ∷ []
