use Rattle.std.proofs.Common.{rules, ap, ◌∙◌, ◌+◌}
use Rattle.book.specs.Bad.{part, offsets_at, bad_offset}
use Rattle.book.proofs.Parts.{first_of_part}
use Rattle.book.proofs.Ranges.{goes_over, found_first}
use Rattle.book.specs.declared.span.Span.{Span}
use Rattle.book.proofs.RowAt.{spans_offsets}
use Rattle.book.proofs.SectionWords.{offsets_size}
use Rattle.book.proofs.laid.Laid.bad_offset.Goals as goal

pub returns : goal.returns
returns c =
    let counts = c.args.self.now.layout.counts in
    let names = c.args.names in
    let test = bad_offset c.args.self.now.words.now counts names in
    let run = c.find.ensures.runs in
    first_of_part (part (offsets_at counts names) test) c.offsets-offsets.result.first (counts.junctions + 1)
    (ap (λ (p : Span). p.first) c.offsets-offsets.ensures ∙ (spans_offsets counts c.args.self.now.layout.sections names c.args.self.now.layout.laid).first) (offsets_size counts names) _ _
    (found_first run.0 _ 0 (counts.junctions + 1) test
    (goes_over run.0 0 (counts.junctions + 1) run.1)
    (λ a b q k. search rules) (λ x b q k. search rules) c.find.result run.2)
    c.map.ensures.cases (λ j i k. search rules)
