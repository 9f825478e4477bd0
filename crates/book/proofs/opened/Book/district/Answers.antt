use Rattle.book.proofs.Telling.{junction_is_there, tells_the_district}
use Rattle.book.proofs.opened.Book.district.Goals as goal

pub returns : goal.returns
returns c s ws book shows =
    let there = junction_is_there c.args.self.now.layout.counts.junctions c.args.junction c.in_ok-check_junction.ensures in
    tells_the_district ws c.args.self.now shows c.args.junction c.word_in.result there.0
    there.1 c.word_in.ensures
