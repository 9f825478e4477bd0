use Rattle.book.proofs.BookWritten.{words_are_a_book_lem}
use Rattle.book.proofs.written.words_are_a_book.Goals as goal

pub returns : goal.returns
returns g c = words_are_a_book_lem g.M.Measure.scale g.met.M.Measure.shows
