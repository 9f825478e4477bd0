use Rattle.std.proofs.Common.{sym, ap, ◌∙◌}
use Rattle.book.specs.Bad.{bad_value}
use Rattle.book.proofs.BadInRow.{neither_bad}
use Rattle.book.proofs.row.Row.bad_in_entry.Goals as goal

pub returns-else-is_bad_value : goal.returns-else-is_bad_value
returns-else-is_bad_value g c =
    let row = c.args.self.now in
    neither_bad g.M.Measure.scale row.rows.laid.words.now row.rows.laid.layout.counts row.rows.names row.junction row.from c.args.number
    (sym c.if-is_bad_name.ensures) (ap (bad_value g.M.Measure.scale) (sym c.entry_word.ensures) ∙ sym c.if-is_bad_value.ensures)
