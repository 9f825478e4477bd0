use Rattle.std.proofs.Common.{rules, ◌≡◌, ℕ, ◌<◌, ◌*◌, ◌≤◌, sym, ap, ◌∙◌, arith}
use Rattle.std.proofs.lemmas.Iterator.{serves_from_Range}
use Rattle.book.specs.Bad.{bad_entry, Finds}
use Rattle.book.specs.InRow.{bad_word_in}
use Rattle.book.proofs.BadInRow.{same_word}
use Rattle.book.proofs.Ranges.{goes_over, found_in_pieces}
use Rattle.book.proofs.Searches.{finds_alike}
use Rattle.book.proofs.RowsOfEntries.{next_offset}
use Rattle.book.proofs.row.Row.first_bad.Goals as goal

pub find_map-requires-clause-callable : goal.find_map-requires-clause-callable
find_map-requires-clause-callable g c = serves_from_Range (λ x q k. search rules) (λ x l m. search rules)

pub returns : goal.returns
returns g c =
    let s = g.M.Measure.scale in
    let row = c.args.self.now in
    let ws = row.rows.laid.words.now in
    let counts = row.rows.laid.layout.counts in
    let rises = next_offset ws counts row.rows.names row.rows.good row.junction row.lies.some_junction row.lies.no_other in
    let test = bad_word_in s ws counts row.rows.names row.junction row.from in
    let run = c.find_map.ensures.runs in
    let found : Finds test (2 * row.from) (2 * row.to) c.find_map.result =
    found_in_pieces run.0 _ row.from row.to test (λ k. 2 * k) (goes_over run.0 row.from row.to run.1) (λ k y q l m called. search rules)
    c.find_map.result (omega arith) (λ k l m. (omega arith, omega arith)) (λ a y q called. search rules) run.2 in
    let same : (j : ℕ) → 2 * row.from ≤ j → j < 2 * row.to → test j ≡ bad_entry s ws counts row.rows.names j = λ j l m.
    ap (λ n. bad_word_in s ws counts row.rows.names row.junction n j) row.lies.begins
    ∙ sym (same_word s ws counts row.rows.names row.rows.laid.ready row.rows.good row.junction row.lies.some_junction row.lies.no_other j (omega arith) (omega arith)) in
    finds_alike (bad_entry s ws counts row.rows.names) test (2 * row.from) (2 * row.to) c.find_map.result same found
