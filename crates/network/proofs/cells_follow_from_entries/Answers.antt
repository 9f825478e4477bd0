use Rattle.network.proofs.Conclusions.{cells_follow_from_entries_lem}
use Rattle.network.proofs.cells_follow_from_entries.Goals as goal

pub returns : goal.returns
returns g c = cells_follow_from_entries_lem g.M.Measure.scale g.met.M.Measure.shows
