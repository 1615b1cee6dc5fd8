use Rattle.std.proofs.Common.{subst}
use Rattle.history_laws.specs.Meanings.{Means}
use Rattle.history_laws.proofs.Books.{book_means}
use Rattle.txn_world.specs.Workers.{WorldData}
use Rattle.txn_world.proofs.world.World.stands.Goals as goal

pub returns-clause-means : goal.returns-clause-means
returns-clause-means c = subst (λ (d : WorldData). Means d.book) c.self.view_is (book_means c.self.inside.book c.stands.ensures.stands)
