-- The rule of a record, and the fields of each rule.
use Rattle.std.specs.Prelude.{ℕ, List, [], ◌∷◌, Option, Some, None, codes, if◌then◌else◌}
use Rattle.std.specs.Str.{bytes_eq}
use Rattle.record_values.specs.declared.rule.Rule.{Rule}
use Rattle.record_values.specs.declared.rule.Rule.TheVariants.{K1, K2, K3, K4, K5, K6, K7, K8, K9, K10, K11, K12, K13, K14, K15, K16, K17}
use Rattle.record_fields.specs.declared.fields.Field.{Field}
use Rattle.record_fields.specs.declared.fields.Field.TheVariants.{Id, Number, Entry, LowerEnd, UpperEnd, SideLetter, Bound, Fate, Entries}

-- the first rule whose name a word is
abbrev pub named : List (List ℕ × Rule) → List ℕ → Option Rule
named [] w = None
named ((name, rule) ∷ more) w = if bytes_eq w name then Some rule else named more w

abbrev pub rule_of : List ℕ → Option Rule
rule_of w = named (
    (codes "K1", K1) ∷ (codes "K2", K2) ∷ (codes "K3", K3) ∷ (codes "K4", K4) ∷ (codes "K5", K5) ∷ (codes "K6", K6)
    ∷ (codes "K7", K7) ∷ (codes "K8", K8) ∷ (codes "K9", K9) ∷ (codes "K10", K10) ∷ (codes "K11", K11) ∷ (codes "K12", K12)
    ∷ (codes "K13", K13) ∷ (codes "K14", K14) ∷ (codes "K15", K15) ∷ (codes "K16", K16) ∷ (codes "K17", K17) ∷ []) w

-- the fields of a rule's record
abbrev pub fields_of : Rule → List Field
fields_of K1 = Id ∷ []
fields_of K2 = Id ∷ Id ∷ Entry ∷ LowerEnd ∷ UpperEnd ∷ []
fields_of K3 = Id ∷ Number ∷ Number ∷ Entries ∷ []
fields_of K4 = Id ∷ []
fields_of K5 = Id ∷ []
fields_of K6 = Id ∷ []
fields_of K7 = Id ∷ SideLetter ∷ Entries ∷ []
fields_of K8 = Id ∷ Id ∷ Bound ∷ Entries ∷ []
fields_of K9 = Id ∷ Id ∷ []
fields_of K10 = Id ∷ []
fields_of K11 = Id ∷ Id ∷ Id ∷ []
fields_of K12 = Id ∷ Id ∷ Id ∷ Entry ∷ Entry ∷ Number ∷ LowerEnd ∷ UpperEnd ∷ Number ∷ Entries ∷ []
fields_of K13 = Id ∷ Id ∷ Entry ∷ Number ∷ Number ∷ Entries ∷ []
fields_of K14 = Id ∷ Id ∷ Entry ∷ Number ∷ LowerEnd ∷ UpperEnd ∷ LowerEnd ∷ UpperEnd ∷ Fate ∷ Entries ∷ []
fields_of K15 = Id ∷ Id ∷ Entry ∷ LowerEnd ∷ UpperEnd ∷ Entries ∷ []
fields_of K16 = Id ∷ Id ∷ Entry ∷ LowerEnd ∷ UpperEnd ∷ LowerEnd ∷ UpperEnd ∷ []
fields_of K17 = Id ∷ []
