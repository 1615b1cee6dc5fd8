-- What the loop reads of a column and its value.
use Rattle.std.proofs.Common.{◌≡◌, ℕ, ◌<◌, List, length, map, get_or, sym, ap, ◌∙◌, subst}
use Rattle.fractions.specs.Room.{Room}
use Rattle.fractions.specs.Number.{Number}
use Rattle.lp_model.specs.Vectors.{vector_of}
use Rattle.lp_model.specs.ProgramData.{ProgramData}
use Rattle.lp_model.specs.Meaning.{meaning, column_at, no_column}
use Rattle.lp_model.specs.declared.program.ColumnDef.{ColumnDef}
use Rattle.lp_model.proofs.Sums.{read_at}
use Rattle.lp_model.proofs.GapLaws.{reaches}
use Rattle.lp_check.specs.declared.verdicts.Item.TheVariants.{Column}
use Rattle.lp_check.specs.Limits.{KeepsData}
use Rattle.lp_check.specs.Deciding.{PassesIn}
use Rattle.lp_check.proofs.NumberReads.{number_read}

pub column_keeps : {A : Type 0} (f : A → Number) (m : Room) (p : ProgramData) (xs : List A) (columns : List ColumnDef) (j : ℕ) (column : ColumnDef) (v : A)
    → columns ≡ p.columns → j < length columns → length xs ≡ length p.columns → column ≡ get_or columns j column → v ≡ get_or xs j v
    → KeepsData column (f v) → PassesIn m (meaning p) (vector_of (map f xs)) (Column j)
column_keeps f m p xs columns j column v ec l long ic iv keeps =
    let here : j < length p.columns = subst (λ n. j < n) (ap length ec) l in
    let one : column ≡ column_at p j = ic ∙ read_at columns p.columns j column no_column ec l in
    let value : f v ≡ vector_of (map f xs) j = number_read f xs j v (subst (λ n. j < n) (sym long) here) iv in
    let own : KeepsData (column_at p j) (vector_of (map f xs) j) = subst (λ w. KeepsData (column_at p j) w) value (subst (λ c. KeepsData c (f v)) one keeps) in
    let r = reaches (column_at p j).semi (column_at p j).lower (column_at p j).upper (vector_of (map f xs) j) own.0 in
    ((r.0, own.1), r.1)
