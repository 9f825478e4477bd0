use Rattle.std.proofs.Common.{◌<◌, length, get_or, set, ap, ◌∙◌, arith}
use Rattle.std.proofs.lemmas.List.{get_or_default}
use Rattle.std.proofs.lemmas.List.Edits.{map_over_more}
use Rattle.measure.specs.Scale.{counts}
use Rattle.search.proofs.sweeps.make_values.Goals as goal

pub loop-word-preserved : goal.loop-word-preserved
loop-word-preserved g c =
    let words = c.loop-word.values in
    let i = c.loop-word.word-index in
    let word = get_or words i 0 in
    let within : i < length words = omega arith in
    ap (set words i) c.counted.ensures
    ∙ map_over_more (counts g.M.Measure.scale) c.args.values.now words i word (omega arith) c.loop-word.invariant
    (get_or_default words i 0 word within)
