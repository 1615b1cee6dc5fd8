use Rattle.std.proofs.Common.{Ok, subst}
use Rattle.record_reader.specs.Results.{seen, IsDraft}
use Rattle.record_reader.proofs.KeptLaws.{named_given, sound_given, told_given}
use Rattle.record_reader.proofs.reading.read_records.Goals as goal

pub records_in-requires-clause-sound : goal.records_in-requires-clause-sound
records_in-requires-clause-sound c =
    let x : IsDraft c.args.bytes.now (Ok c.in-Ok.draft) = subst (λ r. IsDraft c.args.bytes.now r) c.in-Ok.is c.read_draft.ensures in
    sound_given c.args.bytes.now (seen c.in-Ok.draft).given x.0 x.1

pub records_in-requires-clause-named : goal.records_in-requires-clause-named
records_in-requires-clause-named c =
    let x : IsDraft c.args.bytes.now (Ok c.in-Ok.draft) = subst (λ r. IsDraft c.args.bytes.now r) c.in-Ok.is c.read_draft.ensures in
    named_given c.args.bytes.now (seen c.in-Ok.draft).given x.1

pub records_in-requires-clause-told : goal.records_in-requires-clause-told
records_in-requires-clause-told c =
    let x : IsDraft c.args.bytes.now (Ok c.in-Ok.draft) = subst (λ r. IsDraft c.args.bytes.now r) c.in-Ok.is c.read_draft.ensures in
    told_given c.args.bytes.now (seen c.in-Ok.draft).given x.0 x.1
