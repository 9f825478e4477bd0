use Rattle.roadtext.proofs.FirstFault.{fault_is_the_first_lem}
use Rattle.roadtext.proofs.theorems.fault_is_the_first.Goals as goal

pub returns : goal.returns
returns g c = fault_is_the_first_lem g.M.Measure.scale
