use Rattle.std.proofs.Common.{◌∙◌, ◌++◌, ap, sym, List}
use Rattle.std.specs.Prelude.{unwrap_or}
use Rattle.fractions.specs.Number.{zero_ℚ}
use Rattle.mps_stores.specs.declared.single_row.Entry.{Entry}
use Rattle.mps_stores.specs.Entries.{value_in}
use Rattle.mps_assembly.specs.Columnwise.{terms_at, number_terms}
use Rattle.mps_assembly.proofs.Spreading.{terms_more, nothing_more, tail_is, once_tail, none_left}
use Rattle.mps_assembly.proofs.terms.add_entries.Goals as goal

pub loop-rest-preserved : goal.loop-rest-preserved
loop-rest-preserved c =
    let is = tail_is c.loop-rest.rest.now c.entry-item.result c.in-len1-up.len_at_least c.entry-item.is in
    let once = once_tail c.loop-rest.rest.now _ c.entry-item.result is c.loop-rest.invariant.once in
    record {
      once = once.1;
      count = c.in_ok-add_entry.ensures.count ∙ c.loop-rest.invariant.count;
      added = λ j jl.
          terms_more c.args.id j c.entry-item.result _ (terms_at c.loop-rest.found.items j) (terms_at c.add_entry.new.found.items j) once.0
          (c.in_ok-add_entry.ensures.added j (rw c.loop-rest.invariant.count jl))
          ∙ ap (λ (es : List Entry). terms_at c.loop-rest.found.items j ++ number_terms c.args.id (unwrap_or (value_in es j) zero_ℚ)) (sym is)
          ∙ c.loop-rest.invariant.added j jl;
    }

pub returns-clause-added : goal.returns-clause-added
returns-clause-added c = λ j jl.
    sym (nothing_more c.args.id (terms_at c.loop-rest.found.items j))
    ∙ ap (λ (es : List Entry). terms_at c.loop-rest.found.items j ++ number_terms c.args.id (unwrap_or (value_in es j) zero_ℚ)) (sym (none_left c.loop-rest.rest.now c.in_default.len_below))
    ∙ c.loop-rest.invariant.added j jl
