use Rattle.record_reader.specs.Results.{seen}
use Rattle.record_reader.proofs.KeptLaws.{ended_is}
use Rattle.record_reader.proofs.draft.Draft.has_ended.Goals as goal

pub returns : goal.returns
returns c = ended_is (seen c.args.self.now).live (seen c.args.self.now).given c.as_slice.result.now c.as_slice-2.result.now c.ends_at.result c.as_slice.ensures.value c.as_slice-2.ensures.value c.ends_at.ensures
