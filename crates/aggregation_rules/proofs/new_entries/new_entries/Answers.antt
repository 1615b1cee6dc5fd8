use Rattle.std.proofs.Common.{◌≡◌, ap, sym, subst, Err, map, Vec, Global, length, arith}
use Rattle.std.specs.List.{All}
use Rattle.lp_model.specs.Sparse.{Ascends}
use Rattle.problem_model.specs.declared.edit.Edit.{Edit}
use Rattle.aggregation_laws.specs.DoubletonEquation.{entry_less}
use Rattle.rule_words.proofs.TermsInTurn.{made_more, all_more, one_of, past_answer}
use Rattle.aggregation_rules.specs.Parts.{EntryFits}
use Rattle.aggregation_rules.proofs.Walk.{before_is, entry_made, entry_fits, entry_unfit, walk_on, walk_starts}
use Rattle.aggregation_rules.proofs.new_entries.new_entries.Goals as goal

pub loop-term-init : goal.loop-term-init
loop-term-init c = (
  c.in_ok-all.ensures.items,
  λ k d l. absurd (omega (arith, l)),
  subst (Ascends 0 (length c.args.problem.now.matrix.rows)) (sym c.entries_of_column-rest.ensures) (c.is_sparse.ensures.matrix.columns.ascends c.args.other),
  walk_starts c.args.problem.now c.args.other c.entries_of_column-rest.result.now c.args.terms.now c.entries_of_column-rest.ensures c.requires.rows,
)

pub loop-term-preserved : goal.loop-term-preserved
loop-term-preserved c =
    let e : c.first_at-before.result ≡ _ = before_is c.args.problem.now c.args.other c.loop-term.rest.now c.from_id-rest.result.now c.args.terms.now c.loop-term.term-index c.term-item.result c.loop-term-test.true c.term-item.is
    c.first_at-before.result c.loop-term.invariant.2 c.loop-term.invariant.3 c.from_id-rest.ensures.same c.from_id-rest.ensures.ascends c.first_at-before.ensures in
    let w = walk_on c.args.problem.now c.args.other c.loop-term.rest.now c.from_id-rest.result.now c.args.terms.now c.loop-term.term-index c.term-item.result c.loop-term-test.true c.term-item.is c.requires.ascends
    c.loop-term.invariant.2 c.loop-term.invariant.3 c.from_id-rest.ensures.same c.from_id-rest.ensures.ascends in (
      made_more (entry_less c.args.problem.now c.args.other c.args.factor.now) c.args.terms.now c.loop-term.term-index c.term-item.result _ _ c.loop-term-test.true c.term-item.is c.loop-term.invariant.0
          (entry_made c.args.problem.now c.args.other c.args.factor.now c.term-item.result c.first_at-before.result _ _ e c.in_default.ensures.made),
      all_more (EntryFits c.args.problem.now c.args.other c.args.factor.now) c.args.terms.now c.loop-term.term-index c.term-item.result c.loop-term-test.true c.term-item.is c.loop-term.invariant.1
          (entry_fits c.args.problem.now c.args.other c.args.factor.now c.term-item.result c.first_at-before.result e c.in_default.ensures.fits),
      w.0,
      w.1,
    )

pub returns-in-Err : goal.returns-in-Err
returns-in-Err c =
    let e : c.first_at-before.result ≡ _ = before_is c.args.problem.now c.args.other c.loop-term.rest.now c.from_id-rest.result.now c.args.terms.now c.loop-term.term-index c.term-item.result c.loop-term-test.true c.term-item.is
    c.first_at-before.result c.loop-term.invariant.2 c.loop-term.invariant.3 c.from_id-rest.ensures.same c.from_id-rest.ensures.ascends c.first_at-before.ensures in
    past_answer {T = Vec Edit Global} (λ all. all.items ≡ map (entry_less c.args.problem.now c.args.other c.args.factor.now) c.args.terms.now) (All (EntryFits c.args.problem.now c.args.other c.args.factor.now) c.args.terms.now) c.in-Err.refusal
    (λ r h. c.in-Err.ensures.past (ap Err r)
    (entry_unfit c.args.problem.now c.args.other c.args.factor.now c.term-item.result c.first_at-before.result e (one_of (EntryFits c.args.problem.now c.args.other c.args.factor.now) c.args.terms.now c.loop-term.term-index c.term-item.result c.loop-term-test.true c.term-item.is h)))
    (λ r. c.in-Err.ensures.written (ap Err r))
