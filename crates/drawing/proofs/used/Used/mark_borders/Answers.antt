use Rattle.std.proofs.Common.{◌≡◌, ◌&&◌, ◌||◌, eqb, map, length, take, sym, ap, ◌∙◌, arith}
use Rattle.std.proofs.Math.Seq.{take-length}
use Rattle.network.specs.Networks.{arcs_of, at_a_crossing}
use Rattle.drawing.specs.Marked.{is_marked}
use Rattle.drawing.specs.Borders.{road_of, road_crosses}
use Rattle.drawing.proofs.Crossings.{road_at, one_road_more}
use Rattle.drawing.proofs.used.Used.mark_borders.Goals as goal

pub loop-road-preserved : goal.loop-road-preserved
loop-road-preserved c =
    let rs = c.args.self.now.roads.now in
    let r = road_at rs c.loop-road.road-index in
    λ net h v l.
    c.mark_ends.ensures v l
    ∙ ap (λ ps. is_marked c.loop-road.marks v || (road_crosses ps r && (eqb r.first v || eqb r.second v))) (sym h)
    ∙ ap (λ t. t || (road_crosses net.places r && (eqb r.first v || eqb r.second v))) (c.loop-road.invariant net h v l)
    ∙ one_road_more net rs c.loop-road.road-index v (omega arith)

pub returns : goal.returns
returns c =
    let rs = c.args.self.now.roads.now in
    let all : c.loop-road.road-index ≡ length rs = omega arith in
    λ net h k v l.
    c.loop-road.invariant net h v l
    ∙ ap (λ i. at_a_crossing net (arcs_of (map road_of (take i rs))) v) all
    ∙ ap (λ ps. at_a_crossing net (arcs_of (map road_of ps)) v) (take-length rs)
    ∙ ap (λ qs. at_a_crossing net (arcs_of qs) v) (sym k)
