use Rattle.network.proofs.Conclusions.{rows_ascend_lem}
use Rattle.network.proofs.rows_ascend.Goals as goal

pub returns : goal.returns
returns g c = rows_ascend_lem g.M.Measure.scale g.met.M.Measure.shows
