-- Lists in records: how many pairs there are, and the pairs of an id and a number that isn't 0, by ascending id.
use Rattle.std.specs.Prelude.{ℕ, ◌+◌, Bool, ◌&&◌, List, [], ◌∷◌, length, map, Option, Some, None, ◌==◌}
use Rattle.std.specs.List.{list_any}
use Rattle.lp_model.specs.declared.terms.Term.{Term}
use Rattle.number_texts.specs.Form.{number}
use Rattle.record_fields.specs.Words.{first, others, is_plain, id_of, id_fault, same_id, comes_after}
use Rattle.record_fields.specs.Faults.{unless, lower}
use Rattle.record_fields.specs.Ratios.{ratio_read, ratio_of, entry_fault}
use Rattle.record_fields.specs.declared.faults.LineFault.{LineFault}
use Rattle.record_fields.specs.declared.faults.LineFault.TheVariants.{BadLine}

-- the pairs of words; a word without a second one is in none
abbrev pub pairs_of : List (List ℕ) → List (List ℕ × List ℕ)
pairs_of [] = []
pairs_of (i ∷ []) = []
pairs_of (i ∷ v ∷ ws) = (i, v) ∷ pairs_of ws

-- the fault of a pair behind an id
abbrev pub pair_fault : Option (List ℕ) → List ℕ × List ℕ → Option LineFault
pair_fault before pair = lower (lower (id_fault pair.0) (entry_fault (ratio_read pair.1))) (unless (comes_after before pair.0) BadLine)

-- the fault of pairs behind an id
abbrev pub pairs_fault : Option (List ℕ) → List (List ℕ × List ℕ) → Option LineFault
pairs_fault before [] = None
pairs_fault before (pair ∷ pairs) = lower (pair_fault before pair) (pairs_fault (Some pair.0) pairs)

-- a word says how many pairs the other words are
abbrev pub has_count : List ℕ → List (List ℕ) → Bool
has_count w ws = is_plain w && (number w + number w == length ws)

abbrev pub list_fault : List (List ℕ) → Option LineFault
list_fault ws = lower (unless (has_count (first ws) (others ws)) BadLine) (pairs_fault None (pairs_of (others ws)))

abbrev pub term_of : List ℕ × List ℕ → Term
term_of pair = record { id = id_of pair.0; value = ratio_of pair.1 }

-- the terms of a list
abbrev pub list_of : List (List ℕ) → List Term
list_of ws = map term_of (pairs_of (others ws))

-- a list has an id
abbrev pub is_listed : List ℕ → List (List ℕ) → Bool
is_listed w ws = list_any (λ pair. same_id pair.0 w) (pairs_of (others ws))
