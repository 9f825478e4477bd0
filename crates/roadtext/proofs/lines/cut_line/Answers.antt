-- The first line ends at the first byte 10. Assumes nothing.
use Rattle.std.proofs.Common.{rules}
use Rattle.std.proofs.lemmas.List.{take_rest}
use Rattle.roadtext.proofs.Pieces.{line_cut, line_whole}
use Rattle.roadtext.proofs.lines.cut_line.Goals as goal

pub returns-in-None : goal.returns-in-None
returns-in-None c = line_whole c.args.text.now (search rules) c.in-None.ensures

pub returns-in-Some : goal.returns-in-Some
returns-in-Some c = rw take_rest (line_cut c.args.text.now c.in-Some.end c.in-Some.ensures)
