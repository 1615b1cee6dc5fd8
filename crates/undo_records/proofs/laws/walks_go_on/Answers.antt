use Rattle.std.proofs.lemmas.List.Elements.{All-append, All-cons, All-nil}
use Rattle.std.proofs.Common.{[], ◌∷◌}
use Rattle.undo_records.specs.Sound.{IsSound}
use Rattle.undo_records.proofs.Walking.{walks_on}
use Rattle.undo_records.proofs.laws.walks_go_on.Goals as goal

pub returns-clause-walk : goal.returns-clause-walk
returns-clause-walk c = walks_on

pub returns-clause-records : goal.returns-clause-records
returns-clause-records c = λ m n us u h s. All-append (IsSound m n) us (u ∷ []) h (All-cons (IsSound m n) u [] s (All-nil (IsSound m n)))
