use Rattle.std.proofs.Common.{rules}
use Rattle.book.proofs.BookParts.{after_counts}
use Rattle.book.proofs.laid.Laid.first_bad.Goals as goal

pub returns : goal.returns
returns g c =
    after_counts g.M.Measure.scale c.args.self.now.words.now c.args.self.now.layout.counts _ _ _ c.bad_place.ensures c.or_else.ensures
    c.or_else-2.ensures (λ k. search rules) (λ k. search rules)
