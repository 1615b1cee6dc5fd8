use Rattle.fractions.proofs.EndLaws.{meet_low-is, meet_high-is, over-low, over-low_down}
use Rattle.fractions.proofs.number_laws.ends_meet.Goals as goal

pub returns : goal.returns
returns c = record { low = meet_low-is; high = meet_high-is; over = over-low; turned = over-low_down }
