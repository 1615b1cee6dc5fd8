-- What presolve writes is read again.
use Rattle.fractions.specs.declared.Numbers.TheVariants.{Fractions}
use Rattle.lp_model.specs.Writable.{Writable}
use Rattle.undo_records.specs.Postsolve.{Postsolve}
use Rattle.undo_records.specs.Walk.{AreSound}
use Rattle.mps_round_trip.specs.Plain.{Plain}
use Rattle.mps_round_trip.proofs.Round.{again, no_fault}
use Rattle.record_round_trip.proofs.Round.{same_again, sound_again}
use Rattle.history_laws.proofs.Walks.{walked_sound}
use Rattle.whole_way.specs.Laws.{TextsComeBack}
use Rattle.whole_way.proofs.Numbers.{with_fractions}
use Rattle.whole_way.proofs.Naming.{names_match, plain_kept}

pub texts_fit : TextsComeBack
texts_fit options workers program reduced told ended c h r =
    let plain : Plain reduced = plain_kept program reduced told c.names h in
    let writable : Writable Fractions reduced = with_fractions options.numbers reduced c.writable in
    let sound : AreSound told = walked_sound options.numbers program reduced told c.walked in
    record {
      program_text = record { sound = no_fault Fractions reduced c.named.left plain writable c.ascends; same = again Fractions reduced c.named.left plain writable c.ascends };
      records_text = record {
        sound = sound_again told sound c.named.records c.transactions r;
        same = same_again told sound c.named.records c.transactions r;
      };
      matches = names_match program reduced told c.names;
    }
