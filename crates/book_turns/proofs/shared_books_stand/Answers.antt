use Rattle.book_turns.proofs.Going.{goes_along}
use Rattle.book_turns.proofs.shared_books_stand.Goals as goal

pub returns : goal.returns
returns c = goes_along
