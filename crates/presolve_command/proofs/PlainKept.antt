-- The texts of what is left come back.
use Rattle.std.proofs.Common.{◌≡◌, ℕ, List, sym, ap, ◌∙◌, subst}
use Rattle.fractions.specs.declared.Numbers.{Numbers}
use Rattle.lp_model.specs.Writable.{EntriesAscend, Writable}
use Rattle.mps_writer.specs.MpsText.{mps_text}
use Rattle.mps_written_lines.specs.Formats.{free_format}
use Rattle.mps_profile.specs.Reading.{first_fault}
use Rattle.mps_profile.specs.Program.{program_of}
use Rattle.mps_round_trip.proofs.Round.{no_fault, again}
use Rattle.presolve_model.specs.Conclusions.{CarriesNames, Concluded, HaveNames}
use Rattle.presolve_model.specs.declared.conclusion.Options.{Options}
use Rattle.presolve_model.specs.Workers.{Workers}
use Rattle.record_round_trip.specs.Ranges.{HasRange}
use Rattle.whole_way.specs.Laws.{TextsComeBack}
use Rattle.whole_way.specs.Texts.{TextsFit}
use Rattle.whole_way.proofs.Naming.{plain_kept}
use Rattle.presolve_command.specs.Texts.{AreTexts, ComesBack, ReadsBack}
use Rattle.presolve_report.specs.Outcomes.{Outcome}

pub reads_back : (numbers : Numbers) (o : Outcome) (text : List ℕ) → CarriesNames o.source o.program o.records → HaveNames o.source o.program o.records
    → Writable numbers o.program → EntriesAscend o.program → text ≡ mps_text o.program → ReadsBack numbers o text
reads_back numbers o text carried named w a is = λ h.
    let plain = plain_kept o.source o.program o.records carried h in record {
      sound = ap (λ (t : List ℕ). first_fault (free_format numbers) t) is ∙ no_fault numbers o.program named.left plain w a;
      same = ap (λ (t : List ℕ). program_of (free_format numbers) t) is ∙ again numbers o.program named.left plain w a;
    }

-- both texts come back by the law of the whole way
pub comes_back : (options : Options) (workers : Workers) (o : Outcome) (program records printed : List ℕ) → TextsComeBack
    → Concluded options workers o.source o.program o.records o.report.end → AreTexts o program records printed → HasRange o.records → ComesBack o program records
comes_back options workers o program records printed law concluded texts range = λ plain.
    subst (λ (text : List ℕ). TextsFit o.program o.records text records) (sym texts.program_text)
    (subst (λ (text : List ℕ). TextsFit o.program o.records (mps_text o.program) text) (sym texts.records_text)
    (law options workers o.source o.program o.records o.report.end concluded plain range))
