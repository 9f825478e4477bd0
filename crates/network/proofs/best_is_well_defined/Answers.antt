use Rattle.network.proofs.WellDefined.{best_is_well_defined_lem}
use Rattle.network.proofs.best_is_well_defined.Goals as goal

pub returns : goal.returns
returns g c = best_is_well_defined_lem g.M.Measure.scale g.met.M.Measure.shows
