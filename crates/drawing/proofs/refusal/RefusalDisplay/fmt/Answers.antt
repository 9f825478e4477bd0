-- The numbers that stand in a text are those of the case. Assumes nothing.
use Rattle.drawing.proofs.Numerals.{short_table_written, short_book_written, bad_entry_written}
use Rattle.drawing.proofs.refusal.RefusalDisplay.fmt.Goals as goal

pub returns-in-ShortTable-clause-writes : goal.returns-in-ShortTable-clause-writes
returns-in-ShortTable-clause-writes g c =
    rw (short_table_written c.args.self.now c.in-ShortTable.needed c.in-ShortTable.is) c.write.ensures.writes

pub returns-in-ShortBook-clause-writes : goal.returns-in-ShortBook-clause-writes
returns-in-ShortBook-clause-writes g c =
    rw (short_book_written c.args.self.now c.in-ShortBook.words c.in-ShortBook.is) c.write-in-ShortBook.ensures.writes

pub returns-in-BadEntry-clause-writes : goal.returns-in-BadEntry-clause-writes
returns-in-BadEntry-clause-writes g c =
    rw (bad_entry_written c.args.self.now c.in-BadEntry.table c.number-number.result c.in-BadEntry.place c.in-BadEntry.is c.number-number.ensures)
    c.write-in-BadEntry.ensures.writes
