use Rattle.std.proofs.Common.{None, rules}
use Rattle.book.specs.Bad.{offsets_at, bad_offset}
use Rattle.book.specs.Found.{FirstInPart}
use Rattle.book.specs.Ready.{GoodOffsets}
use Rattle.book.proofs.BookParts.{in_rows, offsets_good}
use Rattle.book.proofs.laid.Laid.bad_row.Goals as goal

pub or_else-requires : goal.or_else-requires
or_else-requires g c none =
    let ws = c.args.self.now.words.now in
    let counts = c.args.self.now.layout.counts in
    let nothing : FirstInPart (offsets_at counts c.args.names) (bad_offset ws counts c.args.names) None = rw none at c.bad_offset.ensures in
    let good : GoodOffsets ws counts c.args.names = offsets_good g.M.Measure.scale ws counts c.args.names nothing in
    search rules

pub returns : goal.returns
returns g c =
    in_rows g.M.Measure.scale c.args.self.now.words.now c.args.self.now.layout.counts c.args.names c.bad_offset.result c.or_else.result
    c.bad_offset.ensures c.or_else.ensures (λ k. search rules)
