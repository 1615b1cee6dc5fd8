use Rattle.std.proofs.Common.{◌≡◌, ◌∙◌, ℕ, List, [], get_or, refl, sym, ap, subst, true, false}
use Rattle.std.specs.Prelude.{is_none}
use Rattle.std.specs.List.{All}
use Rattle.lp_model.specs.declared.terms.Term.{Term}
use Rattle.problem_model.specs.declared.line.Sides.{Sides}
use Rattle.problem_model.specs.Problems.{bounds_at, row_entries}
use Rattle.problem_model.specs.Matrices.{live_only}
use Rattle.problem_model.specs.Sparse.{Sparse}
use Rattle.dual_rules.specs.declared.dominated_column.Standing.{Standing}
use Rattle.dual_rules.specs.Pairs.{Tells, entries_of}
use Rattle.dual_rules.proofs.Pairs.{all_tell, none_among, none_at, of_entries, pairs_found}
use Rattle.dual_rules.proofs.dominated_column.pairs_at.Goals as goal

pub returns-then-not-is_short-clause-found : goal.returns-then-not-is_short-clause-found
returns-then-not-is_short-clause-found c = c.new-found.ensures.items ∙ none_at c.args.problem.now c.args.row (sym c.is_short.ensures ∙ c.if-not-is_short.true)

pub add_pairs-requires-clause-row : goal.add_pairs-requires-clause-row
add_pairs-requires-clause-row c =
    let p : Sparse = c.args.problem.now in
    let i : ℕ = c.args.row in
    let s : Sides = c.sides-sides.result in
    let ss : List Standing = c.as_slice.result.now in
    let same : entries_of ss ≡ row_entries p i = ap entries_of c.as_slice.ensures.value ∙ c.in_ok-columns.ensures.entries ∙ ap (live_only p.matrix.columns) c.entries_of_row-terms.ensures in
    let told : All (λ (t : Term). All (λ (u : Term). Tells p s t u) (entries_of ss)) (entries_of ss) =
    subst (λ (ts : List Term). All (λ (t : Term). All (λ (u : Term). Tells p s t u) ts) ts) (sym same) (all_tell p i (sym c.is_short.ensures ∙ c.if-not-is_short.false) c.is_sparse.ensures s c.sides-sides.ensures) in
    λ k d l. of_entries (λ (u : Term). Tells p s (get_or ss k d).entry u) ss (of_entries (λ (t : Term). All (λ (u : Term). Tells p s t u) (entries_of ss)) ss told k d l)

pub returns-clause-found : goal.returns-clause-found
returns-clause-found c =
    let p : Sparse = c.args.problem.now in
    let same : entries_of c.as_slice.result.now ≡ row_entries p c.args.row =
    ap entries_of c.as_slice.ensures.value ∙ c.in_ok-columns.ensures.entries ∙ ap (live_only p.matrix.columns) c.entries_of_row-terms.ensures in
    pairs_found p c.args.row (entries_of c.as_slice.result.now) c.new-found.result.items c.add_pairs.new.pairs.items (sym c.is_short.ensures ∙ c.if-not-is_short.false)
    same c.new-found.ensures.items c.in_ok-add_pairs.ensures

pub returns-then-not-some_endless-clause-found : goal.returns-then-not-some_endless-clause-found
returns-then-not-some_endless-clause-found c =
    let p : Sparse = c.args.problem.now in
    let ended : All (λ (t : Term). is_none (bounds_at p t.id).upper ≡ false) (row_entries p c.args.row) =
    subst (λ (ts : List Term). All (λ (t : Term). is_none (bounds_at p t.id).upper ≡ false) (live_only p.matrix.columns ts)) c.entries_of_row-terms.ensures (c.some_endless.ensures c.if-not-some_endless.true) in
    c.new-found.ensures.items ∙ pairs_found p c.args.row (row_entries p c.args.row) [] [] (sym c.is_short.ensures ∙ c.if-not-is_short.false) refl refl (sym (none_among p (row_entries p c.args.row) (row_entries p c.args.row) ended))
