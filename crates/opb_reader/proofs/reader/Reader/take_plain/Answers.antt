use Rattle.std.proofs.Common.{ℤ, ◌∷◌, refl, subst}
use Rattle.opb_text.specs.Tokens.{Plain}
use Rattle.opb_text.specs.Columns.{coefficient, column_names}
use Rattle.opb_text.specs.Statements.{open_terms}
use Rattle.mps_profile.specs.Columns.{joined}
use Rattle.opb_laws.proofs.Names.{columns_differ}
use Rattle.opb_columns.specs.Holding.{Hold}
use Rattle.opb_reader.specs.Holding.{entries_in}
use Rattle.opb_reader.proofs.HeldRows.{rows_as}
use Rattle.opb_reader.proofs.Tables.{new_name}
use Rattle.opb_reader.proofs.reader.Reader.take_plain.Goals as goal

pub returns : goal.returns
returns c = λ tokens rows columns number. (
  rows_as tokens (Plain c.args.name.now ∷ tokens) c.args.self.now.rows rows refl refl refl refl refl,
  subst (λ (z : ℤ). Hold (joined c.args.name.now (column_names tokens)) (λ name. coefficient tokens 0 name) (λ name. entries_in tokens name) (record { name = c.args.name.now; value = z } ∷ open_terms tokens) c.take.new.self) number
      (c.in_ok-take.ensures (column_names tokens) (λ name. coefficient tokens 0 name) (λ name. entries_in tokens name) (open_terms tokens) columns (new_name tokens c.args.name.now) (columns_differ (Plain c.args.name.now ∷ tokens))),
)
