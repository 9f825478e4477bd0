use Rattle.roadtext.proofs.Written.{reads_back}
use Rattle.roadtext.proofs.theorems.written_networks_read_back.Goals as goal

pub returns : goal.returns
returns g c = reads_back g.M.Measure.scale
