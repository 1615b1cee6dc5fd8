-- Lists of reductions.
use Rattle.std.proofs.Common.{refl, List, [], ◌∷◌}
use Rattle.lp_model.specs.declared.program.Sense.{Sense}
use Rattle.lp_model.specs.LinearProgram.{LinearProgram}
use Rattle.lp_model.specs.Reductions.{Reduces, ReducesPairs}
use Rattle.lp_theory.specs.Joining.{Step, end_of, lift, lift_pair, offset_of, EachReduces, EachReducesPairs}
use Rattle.lp_theory.proofs.Steps.{compose, compose_pairs, same_points}

pub joined : (d : Sense) (M : LinearProgram) (ss : List Step) → EachReduces d M ss → Reduces d M (end_of M ss) (lift ss) (offset_of ss)
joined d M [] h = same_points d M M (λ x. refl) (λ x f. f) (λ x f. f)
joined d M (s ∷ ss) h = compose d M s.left (end_of s.left ss) s.point (lift ss) s.offset (offset_of ss) h.0 (joined d s.left ss h.1)

pub joined_pairs : (d : Sense) (M : LinearProgram) (ss : List Step) → EachReducesPairs d M ss → ReducesPairs d M (end_of M ss) (lift_pair ss)
joined_pairs d M [] h = record { priced = λ p i m. i; meets = λ p i m. m }
joined_pairs d M (s ∷ ss) h = compose_pairs d M s.left (end_of s.left ss) s.pair (lift_pair ss) h.0 (joined_pairs d s.left ss h.1)
