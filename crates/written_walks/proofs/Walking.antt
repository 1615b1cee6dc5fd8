-- What presolve writes walks from what it read.
use Rattle.std.proofs.Common.{◌≡◌, ℕ, List, None, refl, sym, subst}
use Rattle.fractions.specs.declared.Numbers.{Numbers}
use Rattle.fractions.specs.declared.Numbers.TheVariants.{Decimal, Fractions}
use Rattle.lp_model.specs.ProgramData.{ProgramData}
use Rattle.mps_profile.specs.Program.{program_of}
use Rattle.mps_profile.specs.Reading.{first_fault}
use Rattle.mps_profile.specs.declared.dialect.Format.{Format}
use Rattle.mps_decimal_texts.proofs.Texts.{no_fault, one_program}
use Rattle.walk_laws.specs.Walk.{Walk}
use Rattle.walk_laws.proofs.Running.{run_walks}
use Rattle.whole_way.specs.Texts.{IsProgramText, IsRecordText}
use Rattle.whole_way.proofs.Fitting.{texts_fit}
use Rattle.written_walks.specs.Laws.{dialect_of, WrittenRecordsWalk}

-- whatever the numbers were, with fractions the text gives the same
with_fractions : (numbers : Numbers) (format : Format) (text : List ℕ) → first_fault (dialect_of format numbers) text ≡ None
    → (first_fault (dialect_of format Fractions) text ≡ None) × (program_of (dialect_of format Fractions) text ≡ program_of (dialect_of format numbers) text)
with_fractions Decimal format text sound = (no_fault format text sound, one_program format text sound)
with_fractions Fractions format text sound = (sound, refl)

pub written_walk : WrittenRecordsWalk
written_walk options workers format input out undoing sound w continuous =
    let program : ProgramData = program_of (dialect_of format options.numbers) input in
    let f = with_fractions options.numbers format input sound in
    let t = texts_fit options workers program w.reduced w.told w.ended w.concluded w.plain w.range in
    record {
      reduced = w.reduced;
      told = w.told;
      sound = f.0;
      program_text = subst (λ (text : List ℕ). IsProgramText text w.reduced) (sym w.program_text) t.program_text;
      records_text = subst (λ (text : List ℕ). IsRecordText text w.told) (sym w.records_text) t.records_text;
      walks = subst (λ (p : ProgramData). Walk p w.reduced w.told) (sym f.1) (run_walks options workers program w.reduced w.told w.ended w.concluded continuous);
    }
