use Rattle.std.proofs.Common.{rules, refl}
use Rattle.book.specs.Layout.{places_at}
use Rattle.book.specs.Bad.{part, bad_district}
use Rattle.book.proofs.Parts.{first_of_part}
use Rattle.book.proofs.Ranges.{goes_over, found_first}
use Rattle.book.proofs.laid.Laid.bad_district.Goals as goal

pub returns : goal.returns
returns c =
    let counts = c.args.self.now.layout.counts in
    let test = bad_district c.args.self.now.words.now counts in
    let run = c.find.ensures.runs in
    first_of_part (part (places_at counts) test) c.args.self.now.layout.sections.places.first counts.junctions c.args.self.now.layout.laid.places.first refl _ _
    (found_first run.0 _ 0 counts.junctions test (goes_over run.0 0 counts.junctions run.1) (λ a b q k. search rules)
    (λ x b q k. search rules) c.find.result run.2)
    c.map.ensures.cases (λ j i k. search rules)
