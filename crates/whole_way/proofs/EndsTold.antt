-- How a run ended is told of the program that is written too.
use Rattle.std.proofs.Common.{◌≡◌, ℕ, List, length, slice_index, sym, ap, ◌∙◌, subst}
use Rattle.fractions.specs.Number.{Number}
use Rattle.fractions.specs.declared.Numbers.{Numbers}
use Rattle.lp_model.specs.ProgramData.{ProgramData}
use Rattle.lp_model.specs.Turning.{signed}
use Rattle.undo_records.specs.Postsolve.{Postsolve}
use Rattle.problem_model.specs.declared.line.Line.{Line}
use Rattle.problem_model.specs.Edits.{offset_set}
use Rattle.problem_model.specs.Programs.{IsProblemOf, rank}
use Rattle.problem_model.specs.Sparse.{Sparse}
use Rattle.program_laws.proofs.Negating.{signed_twice}
use Rattle.program_laws.proofs.Ranks.{rank-id}
use Rattle.presolve_model.specs.declared.conclusion.End.{End}
use Rattle.presolve_model.specs.declared.conclusion.End.TheVariants.{Fixpoint, LimitReached}
use Rattle.presolve_model.specs.declared.conclusion.Options.{Options}
use Rattle.presolve_model.specs.Accounts.{Walked}
use Rattle.presolve_model.specs.Conclusions.{TellsEndBy}
use Rattle.presolve_model.specs.Replay.{replay}
use Rattle.presolve_model.specs.Tallies.{Open, open_by}
use Rattle.history_laws.proofs.Keeping.{sparse_replay}
use Rattle.history_laws.proofs.Sizes.{replay_size}
use Rattle.history_laws.proofs.Walks.{same_ids}
use Rattle.written_laws.specs.Left.{AreOpenAlike, HaveSameLeft}
use Rattle.written_laws.proofs.SameLeft.{written_same_left}
use Rattle.whole_way.specs.Laws.{EndsAreToldOfTexts, open_after}

told_there : (ended : End) (options : Options) (applied : ℕ) (old : Open) (p : Sparse) (new : Open) (q : Sparse) → HaveSameLeft options.numbers old p new q → TellsEndBy ended options applied old p → TellsEndBy ended options applied new q
told_there (Fixpoint skipped) options applied old p new q same h = (h.0, same.stuck.0 h.1, h.2 ∙ sym same.skipped)
told_there LimitReached options applied old p new q same h = (h.0, same.undecided.0 h.1)

-- the labels tell the original ids of what is left
open_alike : (numbers : Numbers) (program reduced : ProgramData) (told : Postsolve) (w : Walked numbers program reduced told) → AreOpenAlike (open_by told.undos) (replay w.start w.history) (open_after told)
open_alike numbers program reduced told w j side on =
    let lines : List Line = (replay w.start w.history).matrix.columns in
    ap (λ (k : ℕ). open_by told.undos k side) (ap (λ (ids : List ℕ). slice_index ids (rank lines j)) (same_ids 0 told.columns lines w.columns) ∙ rank-id lines j on)

pub ends_told : EndsAreToldOfTexts
ends_told options workers program read told ended q x is =
    let w = x.walked in
    let p : Sparse = replay w.start w.history in
    let old : Open = open_by told.undos in
    let new : Open = open_after told in
    let added : p.offset ≡ signed told.sense told.offset =
    sym (signed_twice program.sense p.offset) ∙ ap (signed program.sense) (sym w.offset) ∙ ap (λ d. signed d told.offset) (sym x.names.sense) in
    let same : HaveSameLeft options.numbers old p new (offset_set q p.offset) =
    written_same_left options.numbers program w.start p q old new w.opened (replay_size w.start w.history) (sparse_replay options.numbers w.start w.history w.opened.sound w.replays)
    (subst (λ (r : ProgramData). IsProblemOf r q) w.written is) (open_alike options.numbers program read told w) in
    subst (λ (k : Number). TellsEndBy ended options (length told.undos) new (offset_set q k)) added (told_there ended options (length told.undos) old p new (offset_set q p.offset) same x.end)
