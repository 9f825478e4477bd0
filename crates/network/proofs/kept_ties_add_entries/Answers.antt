use Rattle.std.proofs.Common.{refl}
use Rattle.network.proofs.kept_ties_add_entries.Goals as goal

pub returns : goal.returns
returns c = (refl, refl)
