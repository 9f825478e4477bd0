use Rattle.std.proofs.Common.{rules}
use Rattle.drawing.proofs.Crossings.{borders_known}
use Rattle.drawing.proofs.rest.Rest.list_borders.Goals as goal

pub returns-in_err-used : goal.returns-in_err-used
returns-in_err-used c =
    let known =
    borders_known c.args.self.now c.args.junctions.now c.args.roads.now c.in_ok-used_parts.used_parts c.mark_borders.new.marks
    c.count-needed.result c.in_ok-used_parts.ensures c.mark_borders.ensures c.count-needed.ensures in
    search (rules, known.0, known.1.0, known.1.1)

pub returns : goal.returns
returns c =
    let known =
    borders_known c.args.self.now c.args.junctions.now c.args.roads.now c.in_ok-used_parts.used_parts c.mark_borders.new.marks
    c.count-needed.result c.in_ok-used_parts.ensures c.mark_borders.ensures c.count-needed.ensures in
    search (rules, known.0, known.1.0, known.1.1)
