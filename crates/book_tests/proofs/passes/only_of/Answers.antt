use Rattle.std.proofs.Common.{sym, subst}
use Rattle.std.specs.List.{All}
use Rattle.txn_book.specs.Sharing.{IsFrom}
use Rattle.book_turns.specs.Turns.{left_of}
use Rattle.book_tests.proofs.Lists.{all_last}
use Rattle.book_tests.proofs.passes.only_of.Goals as goal

pub returns-in-Some : goal.returns-in-Some
returns-in-Some g c =
    let s = c.args.shared.now in
    let p = c.args.pass.now in
    let v = c.args.version.now in
    let all : All (IsFrom (left_of s.start p.seen)) c.in_ok-found.found.items = subst (All (IsFrom (left_of s.start p.seen))) (sym c.in_ok-found.ensures)
    (c.found_are_taken.ensures.scanned s p v c.args.rule c.new.result c.requires.stands c.requires.pass c.requires.frozen) in
    all_last (IsFrom (left_of s.start p.seen)) c.pop.new.self.items c.in-Some.proposal (subst (All (IsFrom (left_of s.start p.seen))) c.in-Some.ensures.items all)
