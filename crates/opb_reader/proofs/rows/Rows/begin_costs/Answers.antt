use Rattle.std.proofs.Common.{refl}
use Rattle.opb_reader.proofs.HeldRows.{begun}
use Rattle.opb_reader.proofs.rows.Rows.begin_costs.Goals as goal

pub returns : goal.returns
returns c = λ tokens h first. begun tokens c.args.self.now _ h first refl refl refl refl refl
