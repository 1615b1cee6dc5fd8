-- The book crosses threads, since each of its fields does.
use denote.Param.Send.{IsSend, sendable, view_send}
use denote.Param.SendFields.{as_row_send, declared_send}
use Rattle.std.proofs.Crossing.{crosses}
use Rattle.sparse_problem.proofs.problem.Problem.TheSendSync as problem
use Rattle.undo_records.proofs.undo.Undo.TheSendSync as undo
use Rattle.transactions.proofs.transactions.Transactions.TheSendSync as transactions
use Rattle.instances.proofs.tally.Tally.TheSendSync as tally
use Rattle.txn_book.specs.contracts.book.Book.{the_row}
use Rattle.txn_book.specs.contracts.book.Book.TheInside as inside

-- start, problem, history, verdict, records, transactions, lists, tally, numbers and limit
fields_send : IsSend inside.the_row
fields_send = declared_send inside.the_type (
  search (crosses, sendable) depth 60 fits 20000,
  (
    search (problem.the_send, crosses, sendable) depth 60 fits 20000,
    (
      search (as_row_send, crosses, sendable) depth 60 fits 20000,
      (
        search (as_row_send, crosses, sendable) depth 60 fits 20000,
        (
          search (as_row_send, undo.the_send, crosses, sendable) depth 60 fits 20000,
          (
            search (as_row_send, transactions.the_send, crosses, sendable) depth 60 fits 20000,
            (
              search (as_row_send, crosses, sendable) depth 60 fits 20000,
              (
                search (tally.the_send, crosses, sendable) depth 60 fits 20000,
                (
                  search (as_row_send, crosses, sendable) depth 60 fits 20000,
                  (
                    search (as_row_send, crosses, sendable) depth 60 fits 20000,
                    tt,
                  ),
                ),
              ),
            ),
          ),
        ),
      ),
    ),
  ),
)

pub book_send : IsSend the_row
book_send = view_send _ _ _ _ _ fields_send
