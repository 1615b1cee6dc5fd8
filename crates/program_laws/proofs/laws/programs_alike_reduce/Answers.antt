use Rattle.program_laws.proofs.Alikeness.{alike_pairs, alike_reduces}
use Rattle.program_laws.proofs.laws.programs_alike_reduce.Goals as goal

pub returns-clause-points : goal.returns-clause-points
returns-clause-points c = alike_reduces

pub returns-clause-pairs : goal.returns-clause-pairs
returns-clause-pairs c = alike_pairs
