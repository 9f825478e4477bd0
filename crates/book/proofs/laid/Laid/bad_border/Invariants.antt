use Rattle.std.proofs.Common.{take, None}
use Rattle.book.specs.Layout.{words_in, order_at}
use Rattle.book.specs.Bad.{bad_border, Finds}
use Rattle.book.specs.Found.{MarkTheBorders}
use Rattle.book.proofs.laid.Laid.bad_border.Given as goal

-- no border before rank j is bad, and those borders are marked
abbrev pub invariant-loop-j : goal.invariant-loop-j
invariant-loop-j l =
    Finds (bad_border l.self.words.now l.self.layout.counts) 0 l.j None
    × MarkTheBorders l.seen (take l.j (words_in (order_at l.self.layout.counts) l.self.words.now))
