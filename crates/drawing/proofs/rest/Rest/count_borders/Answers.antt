use Rattle.drawing.specs.Borders.{border_checks}
use Rattle.drawing.specs.Outcomes.{verdict}
use Rattle.drawing.proofs.Crossings.{borders_known, accepted}
use Rattle.drawing.proofs.rest.Rest.count_borders.Goals as goal

pub returns : goal.returns
returns c =
    let js = c.args.junctions.now in
    let rs = c.args.roads.now in
    let known =
    borders_known c.args.self.now js rs c.in_ok-used_parts.used_parts c.mark_borders.new.marks c.count.result c.in_ok-used_parts.ensures
    c.mark_borders.ensures c.count.ensures in
    accepted (verdict (border_checks c.args.self.now js rs)) c.count.result _ _ known.0 known.1.0
