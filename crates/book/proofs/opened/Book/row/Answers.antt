use Rattle.std.proofs.Common.{subst}
use Rattle.book.specs.Parts.{IsStretch}
use Rattle.book.proofs.RowAt.{hands_out}
use Rattle.book.proofs.Telling.{junction_is_there}
use Rattle.book.proofs.opened.Book.row.Goals as goal

pub returns : goal.returns
returns c s ws book shows =
    let there = junction_is_there c.args.self.now.layout.counts.junctions c.args.junction c.in_ok-check_junction.ensures in
    hands_out s c.args.names c.args.junction c.part.result c.offset-begin.result c.offset-end.result
    c.stretch.result ws c.args.self.now book shows there.0 there.1
    c.offset-begin.ensures c.offset-end.ensures
    (subst (λ e. IsStretch e c.offset-begin.result c.offset-end.result c.stretch.result) c.entries.ensures c.stretch.ensures)
    c.part.ensures
