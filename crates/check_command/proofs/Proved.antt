-- A yes with duals is a proof.
use Rattle.std.proofs.Common.{◌≡◌, ℕ, List, ◌∙◌, ap}
use Rattle.fractions.specs.Number.{Number}
use Rattle.fractions.specs.Room.{Room}
use Rattle.exact_texts.specs.Texts.{Writing}
use Rattle.lp_model.specs.ProgramData.{ProgramData}
use Rattle.lp_model.specs.Vectors.{vector_of}
use Rattle.lp_model.specs.Meaning.{meaning}
use Rattle.lp_model.specs.Optimality.{Continuous}
use Rattle.lp_check.specs.declared.verdicts.Verdict.TheVariants.{Yes, No, Past}
use Rattle.lp_check.specs.declared.pair_verdicts.PairVerdict.{PairVerdict}
use Rattle.lp_check.specs.declared.pair_verdicts.PairVerdict.TheVariants.{OnPoint, Dual, ReducedCost, PastReducedCost}
use Rattle.lp_check.specs.DecidingPairs.{DecidesPairIn}
use Rattle.lp_check.proofs.Pairs.{meets_of}
use Rattle.lp_passages.proofs.Optimal.{meets_is_best}
use Rattle.check_command.specs.VerdictText.{pair_verdict_text, status_of_pair_verdict, yes_text}
use Rattle.check_command.specs.Checked.{IsProvedBest}

pub proved_best : (m : Room) (w : Writing) (program : ProgramData) (point duals : List Number) (verdict : PairVerdict Number) (printed : List ℕ) → Continuous (meaning program)
    → DecidesPairIn m program.sense (meaning program) (vector_of point) (vector_of duals) verdict → printed ≡ pair_verdict_text w program verdict → status_of_pair_verdict verdict ≡ 0
    → IsProvedBest w program point duals printed
proved_best m w program point duals (OnPoint (Yes c)) printed continuous decides said zero =
    let meets = meets_of m program.sense (meaning program) (vector_of point) (vector_of duals) c continuous decides in
    record {
      meets = meets;
      cost = said ∙ ap (yes_text w) decides.0.2;
      best = meets_is_best program.sense (meaning program) (vector_of point) (vector_of duals) meets;
    }
proved_best m w program point duals (OnPoint (No item v limit)) printed continuous decides said zero = cc
proved_best m w program point duals (OnPoint (Past item)) printed continuous decides said zero = cc
proved_best m w program point duals (Dual i found) printed continuous decides said zero = cc
proved_best m w program point duals (ReducedCost j found) printed continuous decides said zero = cc
proved_best m w program point duals (PastReducedCost j) printed continuous decides said zero = cc
