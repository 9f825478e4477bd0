use Rattle.drawing.proofs.Crossings.{no_mark}
use Rattle.drawing.proofs.marks.Marks.new.Goals as goal

pub returns : goal.returns
returns c = λ v. no_mark 4097 v
