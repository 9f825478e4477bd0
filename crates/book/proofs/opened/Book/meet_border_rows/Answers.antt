use Rattle.std.proofs.Common.{rules, ◌≡◌, ◌∙◌}
use Rattle.book.specs.Told.{with_border}
use Rattle.book.proofs.ByRank.{gives_the_border}
use Rattle.book.proofs.opened.Book.meet_border_rows.Goals as goal

pub returns : goal.returns
returns g c ws book shows left right =
    let mapped : c.map.result ≡ with_border c.in_ok-value.value c.border.result = search rules in
    mapped
    ∙ gives_the_border g.M.Measure.scale g.met.M.Measure.shows ws c.args.first.now c.args.second.now left right
    c.in_ok-value.value c.in_ok-value.rank c.border.result
    (c.in_ok-value.ensures left.row right.row) (c.border.ensures g.M.Measure.scale ws book shows)
