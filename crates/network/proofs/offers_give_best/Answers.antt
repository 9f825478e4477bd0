use Rattle.network.proofs.Districts.{offers_give_the_best}
use Rattle.network.proofs.offers_give_best.Goals as goal

pub returns : goal.returns
returns g c = offers_give_the_best g.M.Measure.scale g.met.M.Measure.shows
