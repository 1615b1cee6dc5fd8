-- What a rule reads: heads, and parts that what the heads hold names.
use Rattle.std.specs.Prelude.{◌++◌, List, [], ◌∷◌, map}
use Rattle.lp_model.specs.declared.terms.Term.{Term}
use Rattle.problem_model.specs.declared.part.Part.{Part}
use Rattle.problem_model.specs.declared.part.Part.TheVariants as part
use Rattle.problem_model.specs.declared.part.Contents.{Contents}
use Rattle.problem_model.specs.declared.part.Contents.TheVariants.{Gone, Entries, Sides, Column, Bounds, Semi}
use Rattle.problem_model.specs.Parts.{contents_of}
use Rattle.problem_model.specs.Sparse.{Sparse}

-- all parts that are read of a problem, in their order
abbrev pub parts_on : List Part → (List Contents → List Part) → Sparse → List Part
parts_on heads more p = heads ++ more (map (contents_of p) heads)

-- what they hold
abbrev pub found_on : List Part → (List Contents → List Part) → Sparse → List Contents
found_on heads more p = map (contents_of p) (parts_on heads more p)

-- the sides of the rows, and the bounds of the columns, that terms name
abbrev pub sides_of : List Term → List Part
sides_of ts = map (λ t. part.Sides t.id) ts

abbrev pub bounds_of : List Term → List Part
bounds_of ts = map (λ t. part.Bounds t.id) ts

-- what a row or a column that was read names
abbrev pub terms_in : Contents → List Term
terms_in Gone = []
terms_in (Entries ts) = ts
terms_in (Sides l u) = []
terms_in (Column ts c) = ts
terms_in (Bounds l u w) = []
terms_in (Semi l u w) = []

-- no more parts than the heads
abbrev pub no_more : List Contents → List Part
no_more cs = []

-- the sides of the rows of the column that was read first, and the bounds of the columns of the row that was
abbrev pub sides_named : List Contents → List Part
sides_named [] = []
sides_named (c ∷ cs) = sides_of (terms_in c)

abbrev pub bounds_named : List Contents → List Part
bounds_named [] = []
bounds_named (c ∷ cs) = bounds_of (terms_in c)
