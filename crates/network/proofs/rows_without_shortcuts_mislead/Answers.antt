use Rattle.std.proofs.Common.{refl}
use Rattle.network.proofs.rows_without_shortcuts_mislead.Goals as goal

pub returns : goal.returns
returns c = (refl, refl)
