use Rattle.network.proofs.Conclusions.{border_rows_answer_lem}
use Rattle.network.proofs.border_rows_answer.Goals as goal

pub returns : goal.returns
returns g c = border_rows_answer_lem g.M.Measure.scale g.met.M.Measure.shows
