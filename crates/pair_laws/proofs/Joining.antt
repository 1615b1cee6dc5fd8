-- Lifts join.
use Rattle.std.proofs.Common.{◌≡◌, List, [], ◌∷◌, ◌++◌, refl, ap}
use Rattle.lp_model.specs.declared.program.Sense.{Sense}
use Rattle.lp_model.specs.LinearProgram.{LinearProgram}
use Rattle.lp_model.specs.Reductions.{Priced, ReducesPairs}
use Rattle.undo_records.specs.declared.undo.Undo.{Undo}
use Rattle.undo_pairs.specs.LiftPair.{lift_pair, undone_pair}
use Rattle.pair_laws.proofs.SenseLaws.{agreeing}

pub none : (s : Sense) (M : LinearProgram) → ReducesPairs s M M (lift_pair [])
none s M = record { priced = λ p priced meets. priced; meets = λ p priced meets. meets }

joined : (s : Sense) (M N R : LinearProgram) (f g : Priced → Priced) → ReducesPairs s M N f → ReducesPairs s N R g → ReducesPairs s M R (λ p. f (g p))
joined s M N R f g h k = record {
  priced = λ p priced meets. h.priced (g p) (k.priced p priced meets) (k.meets p priced meets);
  meets = λ p priced meets. h.meets (g p) (k.priced p priced meets) (k.meets p priced meets);
}

pub first : (s : Sense) (M N R : LinearProgram) (u : Undo) (us : List Undo) → ReducesPairs s M N (undone_pair u) → ReducesPairs s N R (lift_pair us) → ReducesPairs s M R (lift_pair (u ∷ us))
first s M N R u us h k = joined s M N R (undone_pair u) (lift_pair us) h k

last_is : (us : List Undo) (u : Undo) (p : Priced) → lift_pair (us ++ u ∷ []) p ≡ lift_pair us (undone_pair u p)
last_is [] u p = refl
last_is (v ∷ us) u p = ap (undone_pair v) (last_is us u p)

pub last : (s : Sense) (M N R : LinearProgram) (u : Undo) (us : List Undo) → ReducesPairs s M N (lift_pair us) → ReducesPairs s N R (undone_pair u) → ReducesPairs s M R (lift_pair (us ++ u ∷ []))
last s M N R u us h k = agreeing s M R (lift_pair (us ++ u ∷ [])) (λ p. lift_pair us (undone_pair u p)) (last_is us u) (joined s M N R (lift_pair us) (undone_pair u) h k)

pub ruleset joining_laws = (none, first, last)
