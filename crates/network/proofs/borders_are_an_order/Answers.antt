use Rattle.network.proofs.DistrictArcs.{borders_are_an_order_lem}
use Rattle.network.proofs.borders_are_an_order.Goals as goal

pub returns : goal.returns
returns g c = borders_are_an_order_lem g.M.Measure.scale
