use Rattle.std.proofs.Common.{◌<◌, List, [], ◌∷◌, length, arith, subst}
use Rattle.problem_model.specs.declared.part.Part.{Part}
use Rattle.round_marks.specs.Marking.{Notes}
use Rattle.round_marks.proofs.Watching.{first_and_rest, notes_none, notes_one_more}
use Rattle.round_marks.proofs.watch.Watch.note.Goals as goal

pub loop-rest-preserved : goal.loop-rest-preserved
loop-rest-preserved c =
    λ w h.
    c.loop-rest.invariant w
    (subst (λ (ps : List Part). Notes c.args.problem.now ps c.loop-rest.self w) (first_and_rest c.loop-rest.rest.now _ c.in-len1-up.len_at_least) (notes_one_more c.args.problem.now _ _ c.loop-rest.self c.note_one.new.self w c.in_ok-note_one.ensures h))

pub returns : goal.returns
returns c = c.loop-rest.invariant c.loop-rest.self (none c.loop-rest.rest.now c.in_default.len_below)
  where
    none : (ps : List Part) → length ps < 1 → Notes c.args.problem.now ps c.loop-rest.self c.loop-rest.self
    none [] l = notes_none c.args.problem.now c.loop-rest.self
    none (a ∷ ps) l = absurd (omega (arith, l))
