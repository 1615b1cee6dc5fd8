use Rattle.std.proofs.Common.{◌∙◌, length, sym, ap, subst}
use Rattle.std.proofs.lemmas.List.FromFn.{length-map-range_with_len}
use Rattle.lp_model.specs.ProgramData.{ProgramData}
use Rattle.lp_model.specs.Writable.{EntriesAscend, Writable}
use Rattle.lp_gen.specs.Columns.{column_of}
use Rattle.lp_gen.specs.Generated.{columns_seed, row_of}
use Rattle.lp_gen.proofs.Making.{named_by, program_by}
use Rattle.lp_gen.proofs.Writing.{generated_ascends, generated_written}
use Rattle.lp_gen.proofs.program.generate.Goals as goal

pub new-requires : goal.new-requires
new-requires c = named_by c.args.seed c.args.rows c.args.columns _ _ _ c.in_ok-objective.ensures c.in_ok-parts.ensures.rows c.in_ok-parts.ensures.columns c.ranges.rows.fits c.requires.few_columns

pub returns-clause-program : goal.returns-clause-program
returns-clause-program c = c.new.ensures ∙ program_by c.args.seed c.args.rows c.args.columns _ _ _ _ c.in_ok-objective.ensures c.zero.ensures.value c.in_ok-parts.ensures.rows c.in_ok-parts.ensures.columns

pub returns-clause-rows : goal.returns-clause-rows
returns-clause-rows c = ap (λ (p : ProgramData). length p.rows) (returns-clause-program c) ∙ length-map-range_with_len (row_of c.args.seed c.args.rows c.args.columns) 0 c.args.rows

pub returns-clause-columns : goal.returns-clause-columns
returns-clause-columns c = ap (λ (p : ProgramData). length p.columns) (returns-clause-program c) ∙ length-map-range_with_len (column_of (columns_seed c.args.seed c.args.rows) c.args.rows) 0 c.args.columns

pub returns-clause-ascends : goal.returns-clause-ascends
returns-clause-ascends c = subst EntriesAscend (sym (returns-clause-program c)) (generated_ascends c.args.seed c.args.rows c.args.columns)

pub returns-clause-writable : goal.returns-clause-writable
returns-clause-writable c = λ numbers. subst (Writable numbers) (sym (returns-clause-program c)) (generated_written numbers c.args.seed c.args.rows c.args.columns c.requires.few_columns)
