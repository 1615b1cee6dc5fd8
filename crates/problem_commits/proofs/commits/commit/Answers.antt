use Rattle.std.proofs.Common.{◌≡◌, List, ◌++◌, sym, ap₂, ◌∙◌, subst}
use Rattle.std.specs.List.{All, filter}
use Rattle.problem_model.specs.declared.part.Part.{Part}
use Rattle.problem_model.specs.Applied.{applied}
use Rattle.problem_model.specs.Noted.{AreNoted}
use Rattle.problem_model.specs.Raised.{committed}
use Rattle.problem_model.specs.Sparse.{Sparse}
use Rattle.problem_data.specs.Renumbered.{IsThere}
use Rattle.problem_commits.specs.declared.notes.Note.{Note}
use Rattle.problem_commits.specs.Noting.{all_noted, all_raised, has_changed}
use Rattle.problem_commits.proofs.Committing.{committed_is, notes_there}
use Rattle.problem_commits.proofs.Telling.{notes_told, parts_of}
use Rattle.problem_commits.proofs.commits.commit.Goals as goal

pub raise_all-requires : goal.raise_all-requires
raise_all-requires c =
    let p : Sparse = c.args.problem.now in
    let ns : c.as_slice.result.now ≡ all_noted p c.args.edits.now = c.as_slice.ensures.value ∙ c.in_ok-notes.ensures in
    subst (λ (q : Sparse). All (λ (n : Note). IsThere q n.part) c.as_slice.result.now) (sym c.in_ok-apply.ensures.ok)
    (subst (λ (ms : List Note). All (λ (n : Note). IsThere (applied p c.args.edits.now) n.part) ms) (sym ns) (notes_there p c.args.edits.now c.is_sparse.ensures c.requires.allowed))

pub returns-clause-ok : goal.returns-clause-ok
returns-clause-ok c =
    let p : Sparse = c.args.problem.now in
    let ns : c.as_slice.result.now ≡ all_noted p c.args.edits.now = c.as_slice.ensures.value ∙ c.in_ok-notes.ensures in
    c.raise_all.ensures ∙ ap₂ all_raised c.in_ok-apply.ensures.ok ns ∙ committed_is p c.args.edits.now c.is_sparse.ensures c.requires.allowed

pub returns-clause-noted : goal.returns-clause-noted
returns-clause-noted c =
    let p : Sparse = c.args.problem.now in
    let before : List Part = c.args.changed.now.items in
    let ns : c.as_slice-2.result.now ≡ all_noted p c.args.edits.now = c.as_slice-2.ensures.value ∙ c.in_ok-notes.ensures in
    let told : c.tell.new.told.items ≡ before ++ parts_of (filter (has_changed (committed p c.args.edits.now)) (all_noted p c.args.edits.now)) =
    c.tell.ensures ∙ (λ t. c.in_ok-reserve.ensures.items t ++ parts_of (filter (has_changed (returns-clause-ok c t)) (ns t))) in
    subst (λ (q : Sparse). AreNoted p q before c.tell.new.told.items) (sym (returns-clause-ok c))
    (subst (λ (ts : List Part). AreNoted p (committed p c.args.edits.now) before ts) (sym told) (notes_told p c.args.edits.now c.is_sparse.ensures c.requires.allowed before))
