use Rattle.std.proofs.Common.{Some, None, refl, ◌∙◌}
use Rattle.book.proofs.BookParts.{book_by_counts, book_by_sections}
use Rattle.book.proofs.BookOpens.{counted, refused_rightly, opened_rightly}
use Rattle.book.proofs.opening.open.Goals as goal

pub returns-in-Some : goal.returns-in-Some
returns-in-Some g c =
    let s = g.M.Measure.scale in
    let ws = c.args.words.now in
    let counts = c.in_ok-counts.counts in
    rw c.bad_word.ensures
    (refused_rightly s ws counts c.in_ok-counts.ensures c.in-Some.place (book_by_counts s ws counts c.in-Some.place c.in-Some.ensures))

pub returns-in-Some-first_bad : goal.returns-in-Some-first_bad
returns-in-Some-first_bad g c =
    let s = g.M.Measure.scale in
    let ws = c.args.words.now in
    let counts = c.in_ok-counts.counts in
    let place = c.in-Some-first_bad.place in
    rw c.bad_word-in-Some-first_bad.ensures
    (refused_rightly s ws counts c.in_ok-counts.ensures place
    (book_by_sections s ws counts (Some place) c.in_default.ensures c.layout-layout.result.counts c.layout-layout.ensures c.in-Some-first_bad.ensures))

pub returns : goal.returns
returns g c =
    let s = g.M.Measure.scale in
    let ws = c.args.words.now in
    let counts = c.in_ok-counts.counts in (
      opened_rightly s ws counts c.in_ok-counts.ensures
          (book_by_sections s ws counts None c.in_default.ensures c.layout-layout.result.counts c.layout-layout.ensures c.in_default-first_bad.ensures),
      record { words = refl; counts = c.layout-layout.ensures ∙ counted s ws counts c.in_ok-counts.ensures },
    )
