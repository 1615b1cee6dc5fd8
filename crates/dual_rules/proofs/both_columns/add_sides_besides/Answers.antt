use Rattle.std.proofs.Common.{ap, sym, arith, length, subst}
use Rattle.lp_model.specs.Sparse.{Ascends}
use Rattle.dual_rules.proofs.Merging.{ascends_past, first_is}
use Rattle.dual_rules.proofs.SidesOfBoth.{besides_more}
use Rattle.dual_rules.proofs.both_columns.add_sides_besides.Goals as goal

pub loop-row-preserved : goal.loop-row-preserved
loop-row-preserved c = let p = c.args.problem.now in let n = length p.matrix.rows in let i = c.loop-row.invariant in
    let f = first_is n c.in-Some.row c.loop-row.rest.now c.loop-row.rest_of_others.now i.entries i.others (sym c.in-Some.ensures) in
    record {
      same = besides_more p n c.in-Some.row c.loop-row.rest.now c.loop-row.rest_of_others.now c.past-rest.result.now c.past-rest_of_others.result.now c.loop-row.parts.items c.add_if.new.parts.items _ c.is_besides.result f
          c.is_besides.ensures c.past-rest.ensures c.past-rest_of_others.ensures i.same c.in_ok-add_if.ensures;
      entries = subst (Ascends 0 n) (sym c.past-rest.ensures) (ascends_past c.in-Some.row 0 n c.loop-row.rest.now i.entries);
      others = subst (Ascends 0 n) (sym c.past-rest_of_others.ensures) (ascends_past c.in-Some.row 0 n c.loop-row.rest_of_others.now i.others);
    }

pub loop-row-smaller : goal.loop-row-smaller
loop-row-smaller c = let p = c.args.problem.now in let n = length p.matrix.rows in let i = c.loop-row.invariant in
    let f = first_is n c.in-Some.row c.loop-row.rest.now c.loop-row.rest_of_others.now i.entries i.others (sym c.in-Some.ensures) in
    let a = ap length c.past-rest.ensures in let b = ap length c.past-rest_of_others.ensures in
    omega (arith, f.fewer, a, b)
