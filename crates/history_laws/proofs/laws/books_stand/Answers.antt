use Rattle.history_laws.proofs.Books.{book_means, stands_left}
use Rattle.history_laws.proofs.laws.books_stand.Goals as goal

pub returns-clause-means : goal.returns-clause-means
returns-clause-means c = book_means

pub returns-clause-commits : goal.returns-clause-commits
returns-clause-commits c = stands_left
