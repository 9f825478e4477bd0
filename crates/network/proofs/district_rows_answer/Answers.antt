use Rattle.network.proofs.Conclusions.{district_rows_answer_lem}
use Rattle.network.proofs.district_rows_answer.Goals as goal

pub returns : goal.returns
returns g c = district_rows_answer_lem g.M.Measure.scale g.met.M.Measure.shows
