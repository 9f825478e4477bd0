use Rattle.measure.proofs.NoMeasure.{no_measure}
use Rattle.measure.proofs.clearance_then_metres_is_no_measure.Goals as goal

pub returns : goal.returns
returns c = no_measure
