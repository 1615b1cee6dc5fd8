use Rattle.opb_laws.proofs.Entries as laws
use Rattle.opb_laws.proofs.laws.entries_ascend.Goals as goal

pub returns : goal.returns
returns c = laws.entries_ascend
