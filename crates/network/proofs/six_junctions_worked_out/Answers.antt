use Rattle.std.proofs.Common.{refl}
use Rattle.network.proofs.six_junctions_worked_out.Goals as goal

pub returns : goal.returns
returns c = (refl, (refl, (refl, (refl, (refl, (refl, (refl, (refl, (refl, (refl, (refl, (refl, (refl, (refl, (refl, tt)))))))))))))))
