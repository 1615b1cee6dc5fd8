-- The names of the program: obj, c1, c2, .. and x with digits.
use Rattle.std.proofs.Common.{List, [], ◌∷◌}
use Rattle.lp_model.specs.Names.{Differ}
use Rattle.mps_laws.specs.Names.{IsNumbered}
use Rattle.mps_laws.proofs.Places.{numbered_none, numbered_joined, differ}
use Rattle.opb_text.specs.Tokens.{Token, Minimum, AtLeast, Equal, End, Number, Past, Plain, Negated, Odd}
use Rattle.opb_text.specs.Columns.{column_names}

-- each column's name stands at its place
pub columns_numbered : (tokens : List Token) → IsNumbered (column_names tokens)
columns_numbered [] = numbered_none
columns_numbered (Minimum ∷ before) = columns_numbered before
columns_numbered (End ∷ before) = columns_numbered before
columns_numbered (AtLeast ∷ before) = columns_numbered before
columns_numbered (Equal ∷ before) = columns_numbered before
columns_numbered (Number value ∷ before) = columns_numbered before
columns_numbered (Past ∷ before) = columns_numbered before
columns_numbered (Plain name ∷ before) = numbered_joined name (column_names before) (columns_numbered before)
columns_numbered (Negated name ∷ before) = numbered_joined name (column_names before) (columns_numbered before)
columns_numbered (Odd ∷ before) = columns_numbered before

-- no two columns have one name
pub columns_differ : (tokens : List Token) → Differ (column_names tokens)
columns_differ tokens = differ (column_names tokens) (columns_numbered tokens)
