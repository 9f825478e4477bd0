use Rattle.std.proofs.Common.{◌-◌, sym, arith}
use Rattle.std.proofs.Math.Seq.{set_out}
use Rattle.search.proofs.sweeps.write.Goals as goal

pub returns-else-index-values : goal.returns-else-index-values
returns-else-index-values c = sym (set_out c.args.values.now (c.args.junction - 1) c.args.word (omega arith))
