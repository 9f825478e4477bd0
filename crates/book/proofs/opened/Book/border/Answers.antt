use Rattle.book.proofs.Telling.{tells_the_border}
use Rattle.book.proofs.opened.Book.border.Goals as goal

pub returns : goal.returns
returns c s ws book shows =
    tells_the_border ws c.args.self.now shows c.args.rank c.word_in.result c.if-rank-self.false c.word_in.ensures
