-- The words of each record: its rule, and the fields behind it; and those of its transaction.
use Rattle.std.specs.Prelude.{ℕ, List, [], ◌∷◌, ◌++◌, length, codes}
use Rattle.std.specs.Fmt.{decimal}
use Rattle.transactions.specs.declared.transactions.PartRead.{PartRead}
use Rattle.undo_records.specs.declared.undo.Undo.{Undo}
use Rattle.transactions.specs.Transactions.{Transaction}
use Rattle.record_values.specs.declared.value.Value.{Value}
use Rattle.record_values.specs.declared.value.Value.TheVariants.{Id, Ratio, LowerEnd, UpperEnd, Letter, Bound, Fate, Entries}
use Rattle.record_values.specs.Values.{values}
use Rattle.record_values.specs.declared.rule.Rule.{Rule}
use Rattle.record_values.specs.declared.rule.Rule.TheVariants.{K1, K2, K3, K4, K5, K6, K7, K8, K9, K10, K11, K12, K13, K14, K15, K16, K17}
use Rattle.record_file.specs.Words.{ratio_word, lower_word, upper_word, letter_word, side_word, bound_word, fate_word, list_words, part_words}

-- the name of a rule
abbrev pub rule_word : Rule → List ℕ
rule_word K1 = codes "K1"
rule_word K2 = codes "K2"
rule_word K3 = codes "K3"
rule_word K4 = codes "K4"
rule_word K5 = codes "K5"
rule_word K6 = codes "K6"
rule_word K7 = codes "K7"
rule_word K8 = codes "K8"
rule_word K9 = codes "K9"
rule_word K10 = codes "K10"
rule_word K11 = codes "K11"
rule_word K12 = codes "K12"
rule_word K13 = codes "K13"
rule_word K14 = codes "K14"
rule_word K15 = codes "K15"
rule_word K16 = codes "K16"
rule_word K17 = codes "K17"

-- the words of a value
abbrev pub value_words : Value → List (List ℕ)
value_words (Id k) = decimal k ∷ []
value_words (Ratio q) = ratio_word q ∷ []
value_words (LowerEnd e) = lower_word e ∷ []
value_words (UpperEnd e) = upper_word e ∷ []
value_words (Letter s) = letter_word s ∷ []
value_words (Bound s e) = side_word s ∷ bound_word s e ∷ []
value_words (Fate f) = fate_word f ∷ []
value_words (Entries ts) = list_words ts

abbrev pub words_of_values : List Value → List (List ℕ)
words_of_values [] = []
words_of_values (v ∷ vs) = value_words v ++ words_of_values vs

-- what a record holds: the words of its values
abbrev pub field_words : Undo → List (List ℕ)
field_words u = words_of_values (values u)

-- what is told of a transaction: its place, the worker, its version, and how many parts it read
abbrev pub transaction_words : ℕ → Transaction → List (List ℕ)
transaction_words place t = decimal place ∷ decimal t.by ∷ decimal t.version ∷ decimal (length t.reads) ∷ []

-- a part that it read, and how often that had changed
abbrev pub read_words : PartRead → List (List ℕ)
read_words r = part_words r.part ++ decimal r.changes ∷ []
