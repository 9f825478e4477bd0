use Rattle.std.proofs.Common.{◌≡◌, ◌<◌, ◌∷◌, [], Iter, List, ℕ, length, get_or, drop, reverse, ap, ap₂, ◌∙◌}
use Rattle.std.proofs.lemmas.Iterator.Consumers.{YieldsList-at, YieldsList-turn}
use Rattle.std.proofs.lemmas.Iterator.Adapters.{YieldsList-from_rev_slice}
use Rattle.std.proofs.lemmas.List.{length-append}
use Rattle.std.proofs.lemmas.Bool.{or_parts}
use Rattle.drawing.specs.Borders.{places_in}
use Rattle.drawing.specs.declared.tables.Road.{Road}
use Rattle.search.specs.Sweeps.{arcs_over, after_arcs}
use Rattle.search.proofs.Turns.{roads_in_turn}
use Rattle.search.proofs.sweeps.Searched.go_back.Goals as goal

pub loop-road-preserved : goal.loop-road-preserved
loop-road-preserved g c =
    let s = g.M.Measure.scale in
    let it = c.args.self.now in
    let back = reverse it.used.roads.now in
    let k = length c.loop-road.yielded in
    let r = c.in-Some.road.now in
    let values = c.loop-road.values in
    let next : (k < length back) × (r ≡ get_or back k r) =
    YieldsList-turn
    (YieldsList-at c.into_iter-road-iterator.ensures.into_iter_gives
    (YieldsList-from_rev_slice it.used.roads.now (ap (λ (i : Iter Road). i.rest.now) c.rev-road-items.ensures.source ∙ c.iter.ensures.rest)))
    c.loop-road.yielded _ c.loop-road.yielded_by _ _ c.in-Some.road c.in-Some.is c.next.ensures.steps in
    let written = c.improve_ends-changed.ensures.written ∙ ap (λ q. after_arcs s values (arcs_over it (q ∷ []))) next.1 in (
      ap₂ (λ (l : List ℕ) (n : ℕ). after_arcs s l (arcs_over it (drop n back))) written (length-append c.loop-road.yielded (c.in-Some.road ∷ []))
          ∙ roads_in_turn s (places_in it.used.junctions.now) it.scope back values k r next.0
          ∙ c.loop-road.invariant.0,
      λ e.
          let both = or_parts c.loop-road.changed c.improve_ends-changed.result e in
          c.improve_ends-changed.ensures.told both.1 ∙ c.loop-road.invariant.1 both.0,
    )
