-- A verification of what a presolve left, and two of the same bytes.
use Rattle.std.specs.Prelude.{◌≡◌, ◌≤◌, ℕ, List, length}
use Rattle.file_ports.specs.Ports.{Moment}
use Rattle.command_words.specs.Names.{PresolveNames, VerifyNames}
use Rattle.mps_round_trip.specs.Plain.{Plain}
use Rattle.endings.specs.Forms.{form_of}
use Rattle.endings.specs.ProgramTexts.{program_in}
use Rattle.endings.specs.declared.reads.TheConstants.{INPUT_LIMIT}
use Rattle.record_texts.specs.declared.reading.TheConstants.{RECORDS_LIMIT}
use Rattle.presolve_command.specs.Presolved.{IsPresolved}
use Rattle.verify_command.specs.Verifying.{EndsVerify}
use Rattle.two_runs.specs.Runs.{Holds}
use Rattle.two_runs.specs.SameAnswers.{HoldsTheSame, IsOfBytes}

-- verify of the same IN, OUT and REC ends alike and prints the same
abbrev pub VerifiesAreOne : Type 0
VerifiesAreOne = (names : VerifyNames) (s t : ℕ) (said more : List ℕ) (before now then later : Moment)
    → HoldsTheSame before then names.input
    → HoldsTheSame before then names.output
    → HoldsTheSame before then names.records
    → IsOfBytes s
    → IsOfBytes t
    → EndsVerify names s said before now
    → EndsVerify names t more then later
    → (s ≡ t) × (said ≡ more)

-- Presolve ended at 0, and a later verify of these files ended so. It read IN in the same format, found IN as presolve had found it, and OUT
-- and REC as presolve had left them, none longer than is read.
pub record IsLookedAt (first : PresolveNames) (second : VerifyNames) (status : ℕ) (said : List ℕ) : Type 0 where
  pub before : Moment
  pub left : Moment
  pub found : Moment
  pub now : Moment
  pub printed : List ℕ
  pub input : List ℕ
  pub output : List ℕ
  pub records : List ℕ
  pub presolved : IsPresolved first printed before left
  pub verified : EndsVerify second status said found now
  pub format : second.format ≡ first.options.format
  pub input_read : Holds before first.input input
  pub output_left : Holds left first.output output
  pub records_left : Holds left first.records records
  pub input_found : Holds found second.input input
  pub output_found : Holds found second.output output
  pub records_found : Holds found second.records records
  pub output_fits : length output ≤ INPUT_LIMIT
  pub records_fit : length records ≤ RECORDS_LIMIT

-- what presolve left is verified: where IN's names are plain the answer is yes
abbrev pub WhatIsLeftIsVerified : Type 0
WhatIsLeftIsVerified = (first : PresolveNames) (second : VerifyNames) (status : ℕ) (said : List ℕ) (look : IsLookedAt first second status said)
    → Plain (program_in (form_of first.options) look.input)
    → IsOfBytes status
    → status ≡ 0
