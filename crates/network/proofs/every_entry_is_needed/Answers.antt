use Rattle.network.proofs.Conclusions.{every_entry_is_needed_lem}
use Rattle.network.proofs.every_entry_is_needed.Goals as goal

pub returns : goal.returns
returns g c = every_entry_is_needed_lem g.M.Measure.scale g.met.M.Measure.shows
