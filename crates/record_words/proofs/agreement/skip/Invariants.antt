use Rattle.std.proofs.Common.{◌≡◌, ◌-◌}
use Rattle.record_fields.specs.Words.{skip}
use Rattle.record_fields.specs.Views.{words_left}
use Rattle.record_words.proofs.agreement.skip.Given as goal

abbrev pub invariant-loop : goal.invariant-loop
invariant-loop l = skip (l.count - l.counter) (words_left l.rest) ≡ skip l.count (words_left l.words)
