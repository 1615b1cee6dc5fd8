use Rattle.std.proofs.Common.{rules, ◌≡◌, true}
use Rattle.worker_rounds.proofs.racing.next_look.Goals as goal

pub returns-clause-looking : goal.returns-clause-looking
returns-clause-looking g c =
    let goes : c.in_ok-next.goes_on ≡ true = search rules in
    record {
      frozen = c.in_ok-next.ensures.frozen;
      sorted = c.in_ok-ids.ensures.sorted;
      looks = c.in_ok-ids.ensures.looks c.args.looking.version (c.in_ok-next.ensures.left goes);
      awake = c.in_ok-ids.ensures.awake;
    }
