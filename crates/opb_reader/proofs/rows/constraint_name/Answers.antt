use Rattle.std.proofs.Common.{◌++◌, ◌∙◌, ℕ, List, ap₂, sym, subst, arith}
use Rattle.lp_model.specs.Name.{IsName}
use Rattle.opb_laws.proofs.Named.{constraint_named}
use Rattle.opb_reader.proofs.rows.constraint_name.Goals as goal

pub new-requires : goal.new-requires
new-requires c =
    let is = c.in_ok-extend_from_slice.ensures.items ∙ ap₂ (λ (xs ys : List ℕ). xs ++ ys) c.in_ok-bytes.ensures.items (c.as_bytes.ensures.value ∙ c.format.ensures.text) in
    subst IsName (sym is) (constraint_named c.args.number (omega (arith, c.ranges.number.fits)))
