use Rattle.std.proofs.Common.{◌≡◌, ◌<◌, ◌∙◌, length, slice_index_or, ap, sym, subst, ℕ, arith}
use Rattle.std.proofs.lemmas.List.{get_or_default, length-set, at_drop_all}
use Rattle.lp_model.specs.declared.terms.Term.{Term}
use Rattle.problem_model.specs.Matrices.{no_line}
use Rattle.entry_lines.specs.Losses.{counted_out, counted_out_at}
use Rattle.entry_lines.proofs.Named.{id_below}
use Rattle.entry_lines.proofs.Places.{edited_step}
use Rattle.entry_lines.proofs.lines.count_out_at.Goals as goal

pub bounds-lines-term : goal.bounds-lines-term
bounds-lines-term c = subst (λ (n : ℕ). c.term-item.result.id < n) (sym c.loop-term.invariant.long) (id_below c.args.terms.now 0 (length c.args.lines.now) c.loop-term.term-index c.term-item.result c.requires c.loop-term-test.true c.term-item.is)

pub loop-term-preserved : goal.loop-term-preserved
loop-term-preserved c =
    let below : c.term-item.result.id < length c.args.lines.now = id_below c.args.terms.now 0 (length c.args.lines.now) c.loop-term.term-index c.term-item.result c.requires c.loop-term-test.true c.term-item.is in
    let within : c.term-item.result.id < length c.loop-term.lines = subst (λ (n : ℕ). c.term-item.result.id < n) (sym c.loop-term.invariant.long) below in
    let e : c.count_out.new.line ≡ counted_out c.args.others.now (slice_index_or c.loop-term.lines c.term-item.result.id no_line) = c.count_out.ensures ∙ ap (counted_out c.args.others.now) (get_or_default c.loop-term.lines c.term-item.result.id c.index-lines-term.result no_line within) in
    record {
      same = edited_step no_line (λ (t : Term). counted_out c.args.others.now) c.loop-term.lines c.args.terms.now c.loop-term.term-index c.term-item.result c.count_out.new.line c.loop-term-test.true c.term-item.is e ∙ c.loop-term.invariant.same;
      long = length-set c.loop-term.lines c.term-item.result.id c.count_out.new.line ∙ c.loop-term.invariant.long;
    }

pub returns : goal.returns
returns c = sym (at_drop_all (counted_out_at c.args.others.now c.loop-term.lines) c.args.terms.now c.loop-term.term-index (omega arith)) ∙ c.loop-term.invariant.same
