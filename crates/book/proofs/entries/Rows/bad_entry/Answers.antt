use Rattle.std.proofs.Common.{rules, ap, ◌∙◌, ◌*◌, ◌<◌}
use Rattle.book.specs.Bad.{part, entries_at, entry_count, bad_entry}
use Rattle.book.proofs.Parts.{first_of_part}
use Rattle.book.proofs.RowsSearched.{rows_searched}
use Rattle.book.proofs.Searches.{is_below}
use Rattle.book.specs.declared.span.Span.{Span}
use Rattle.book.proofs.RowAt.{spans_entries}
use Rattle.book.proofs.SectionWords.{entries_size}
use Rattle.book.proofs.entries.Rows.bad_entry.Goals as goal

pub map-requires : goal.map-requires
map-requires g c j is =
    let counts = c.args.self.now.laid.layout.counts in
    let test = bad_entry g.M.Measure.scale c.args.self.now.laid.words.now counts c.args.self.now.names in
    let found = rows_searched g.M.Measure.scale c.args.self.now.laid.words.now counts c.args.self.now.names _ c.find_map.result c.args.self.now.good
    (λ v y q l m called. search rules)
    (λ a y q called. search rules) c.find_map.ensures.runs in
    let less : j < 2 * entry_count counts c.args.self.now.names = is_below test 0 (2 * entry_count counts c.args.self.now.names) c.find_map.result found j is in
    search rules

pub returns : goal.returns
returns g c =
    let counts = c.args.self.now.laid.layout.counts in
    let test = bad_entry g.M.Measure.scale c.args.self.now.laid.words.now counts c.args.self.now.names in
    first_of_part (part (entries_at counts c.args.self.now.names) test) c.entries-entries.result.first (2 * entry_count counts c.args.self.now.names)
    (ap (λ (p : Span). p.first) c.entries-entries.ensures ∙ (spans_entries counts c.args.self.now.laid.layout.sections c.args.self.now.names c.args.self.now.laid.layout.laid).first) (entries_size counts c.args.self.now.names) _ _
    (rows_searched g.M.Measure.scale c.args.self.now.laid.words.now counts c.args.self.now.names _ c.find_map.result c.args.self.now.good
    (λ v y q l m called. search rules)
    (λ a y q called. search rules) c.find_map.ensures.runs)
    c.map.ensures.cases (λ j i k. search rules)
