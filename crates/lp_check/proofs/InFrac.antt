-- The numbers that fractions stand for are the fractions.
use Rattle.std.proofs.Common.{◌≡◌, List, map, refl, ap, ◌∙◌, subst}
use mathlib.Core.List.{map-id}
use Rattle.std.specs.Prelude.{Result, IfOk}
use Rattle.std.proofs.lemmas.Result.{IfOk-weaker}
use Rattle.fractions.specs.Number.{Number}
use Rattle.fractions.specs.Room.{in_frac}
use Rattle.lp_model.specs.declared.program.Sense.{Sense}
use Rattle.lp_model.specs.LinearProgram.{LinearProgram}
use Rattle.lp_model.specs.Vectors.{vector_of}
use Rattle.lp_check.specs.declared.verdicts.Verdict.{Verdict}
use Rattle.lp_check.specs.declared.verdicts.Verdict.TheVariants.{Yes, No, Past}
use Rattle.lp_check.specs.declared.pair_verdicts.PairVerdict.{PairVerdict}
use Rattle.lp_check.specs.declared.pair_verdicts.PairVerdict.TheVariants.{OnPoint, Dual, ReducedCost, PastReducedCost}
use Rattle.lp_check.specs.Numbered.{numbered, numbered_pair}
use Rattle.lp_check.specs.DecidingPairs.{DecidesPairIn, DecidesPair}

numbered_same : (v : Verdict Number) → numbered (λ q. q) v ≡ v
numbered_same (Yes c) = refl
numbered_same (No item v limit) = refl
numbered_same (Past item) = refl

pair_numbered_same : (v : PairVerdict Number) → numbered_pair (λ q. q) v ≡ v
pair_numbered_same (OnPoint v) = ap (λ (z : Verdict Number). OnPoint z) (numbered_same v)
pair_numbered_same (Dual i found) = refl
pair_numbered_same (ReducedCost j found) = refl
pair_numbered_same (PastReducedCost j) = refl

mapped_same : (xs : List Number) → map (λ q. q) xs ≡ xs
mapped_same xs = map-id xs

pair_decided : (s : Sense) (M : LinearProgram) (xs ys ps ds : List Number) (v : PairVerdict Number) → ps ≡ xs → ds ≡ ys
    → DecidesPairIn in_frac s M (vector_of (map (λ q. q) ps)) (vector_of (map (λ q. q) ds)) (numbered_pair (λ q. q) v) → DecidesPair s M (vector_of xs) (vector_of ys) v
pair_decided s M xs ys ps ds v ex ey h =
    subst (λ (z : PairVerdict Number). DecidesPair s M (vector_of xs) (vector_of ys) z) (pair_numbered_same v)
    (subst (λ (zs : List Number). DecidesPair s M (vector_of zs) (vector_of ys) (numbered_pair (λ q. q) v)) (mapped_same ps ∙ ex)
    (subst (λ (zs : List Number). DecidesPair s M (vector_of (map (λ q. q) ps)) (vector_of zs) (numbered_pair (λ q. q) v)) (mapped_same ds ∙ ey) h))

pub pairs_decided : {E : Type 0} (s : Sense) (M : LinearProgram) (xs ys ps ds : List Number) (r : Result (PairVerdict Number) E) → ps ≡ xs → ds ≡ ys
    → IfOk r (λ v. DecidesPairIn in_frac s M (vector_of (map (λ q. q) ps)) (vector_of (map (λ q. q) ds)) (numbered_pair (λ q. q) v)) → IfOk r (λ v. DecidesPair s M (vector_of xs) (vector_of ys) v)
pairs_decided s M xs ys ps ds r ex ey h = IfOk-weaker r
    (λ v. DecidesPairIn in_frac s M (vector_of (map (λ q. q) ps)) (vector_of (map (λ q. q) ds)) (numbered_pair (λ q. q) v))
    (λ v. DecidesPair s M (vector_of xs) (vector_of ys) v)
    (λ v k. pair_decided s M xs ys ps ds v ex ey k) h
