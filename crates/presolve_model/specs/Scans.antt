-- The enabled instances of rules that are open, in order.
use Rattle.std.specs.Prelude.{ℕ, ◌*◌, List, map}
use Rattle.std.specs.List.{filter, flat_map, range_with_len}
use Rattle.problem_model.specs.Sparse.{Sparse}
use Rattle.presolve_model.specs.declared.instance.Instance.{Instance}
use Rattle.presolve_model.specs.declared.instance.Rule.{Rule}
use Rattle.presolve_model.specs.Enabled.{enabled_on, reading_of}
use Rattle.presolve_model.specs.Given.{Proposed}
use Rattle.presolve_model.specs.Instances.{instances_from, id_count}
use Rattle.presolve_model.specs.Tallies.{Open}

-- an instance with its reading of a problem
abbrev pub proposal_of : Sparse → ℕ → Instance → Proposed
proposal_of p version e = record { instance = e; reading = reading_of p e; version = version }

-- the instances of a rule with these first ids
abbrev pub instances_at : Open → Sparse → Rule → List ℕ → List Instance
instances_at opens p rule ids = flat_map (instances_from opens p rule) ids

-- the enabled ones among them, each with its reading
abbrev pub found_at : Open → Sparse → ℕ → Rule → List ℕ → List Proposed
found_at opens p version rule ids = map (proposal_of p version) (filter (enabled_on p) (instances_at opens p rule ids))

-- of rules in order, with the first ids of each
abbrev pub listed : Open → Sparse → ℕ → (Rule → List ℕ) → List Rule → List Proposed
listed opens p version ids rules = flat_map (λ rule. found_at opens p version rule (ids rule)) rules

-- all first ids of a rule
abbrev pub all_ids : Sparse → Rule → List ℕ
all_ids p rule = range_with_len 0 (id_count p rule)

-- all instances of rules in order
abbrev pub all_of : Open → Sparse → List Rule → List Instance
all_of opens p rules = flat_map (λ rule. instances_at opens p rule (all_ids p rule)) rules

-- the ids of chunk c: 1,024 in a row
abbrev pub chunk_ids : ℕ → List ℕ
chunk_ids c = range_with_len (c * 1024) 1024

abbrev pub found_in : Open → Sparse → ℕ → Rule → ℕ → List Proposed
found_in opens p version rule c = found_at opens p version rule (chunk_ids c)
