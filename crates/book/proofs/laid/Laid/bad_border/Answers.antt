use Rattle.std.proofs.Common.{◌≡◌, false, sym}
use Rattle.book.specs.Bad.{bad_border}
use Rattle.book.proofs.Searches.{one_word_more}
use Rattle.book.proofs.Borders.{border_marked}
use Rattle.book.proofs.laid.Laid.bad_border.Goals as goal

pub loop-j-preserved : goal.loop-j-preserved
loop-j-preserved c =
    let ws = c.args.self.now.words.now in
    let counts = c.args.self.now.layout.counts in
    let j = c.loop-j.j in
    let good : bad_border ws counts j ≡ false = sym {b = bad_border ws counts j} c.if-is_bad_border.ensures in (
      one_word_more (bad_border ws counts) 0 j c.loop-j.invariant.0 good,
      border_marked ws counts c.args.self.now.ready c.loop-j.seen c.mark.new.self j c.border.result c.loop-j-test.true c.border.ensures
          c.mark.ensures c.loop-j.invariant.1,
    )
