use Rattle.std.proofs.Common.{◌↔◌, IsTrue, sym, subst}
use Rattle.record_reader.specs.Matching.{Matches}
use Rattle.record_reader.proofs.NameLaws.{matches_is}
use Rattle.record_reader.proofs.matching.matches.Goals as goal

pub returns : goal.returns
returns c = subst (λ b. IsTrue b ↔ Matches c.args.records.now c.args.program.now) (sym c.names_match.ensures) (matches_is c.args.records.now c.args.program.now)
