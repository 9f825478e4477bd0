use Rattle.book.proofs.RowOfBook.{rows_are_rows_lem}
use Rattle.book.proofs.meeting.rows_are_rows.Goals as goal

pub returns : goal.returns
returns g c = rows_are_rows_lem g.M.Measure.scale
