use Rattle.std.proofs.Common.{◌≡◌, ℕ, ◌+◌, ◌<◌, List, [], ◌∷◌, ◌++◌, length, get_or, take, drop, set, filter, sym, refl, ap, ◌∙◌, arith, rules, tests}
use Rattle.std.proofs.Math.Seq.{take-length}
use Rattle.std.proofs.lemmas.Iterator.{YieldsList-from_range}
use Rattle.std.proofs.lemmas.Iterator.Consumers.{YieldsList-at, YieldsList-from_filter, YieldsList-from_enumerate, YieldsList-turn, YieldsList-end}
use Rattle.std.proofs.lemmas.List.FromFn.{length-enumerate_from, get_or-enumerate_from}
use Rattle.std.proofs.lemmas.List.{length-append}
use Rattle.std.specs.List.{range_with_len}
use Rattle.drawing.specs.Marked.{is_marked}
use Rattle.drawing.proofs.Listed.{put_next}
use Rattle.drawing.proofs.marks.Marks.list.Goals as goal

-- the next of the marked numbers, and its place among them
turn : (c : goal.In-Some)
    → (c.in-Some.i ≡ length c.loop-i.yielded)
    × (length c.loop-i.yielded < length (filter (is_marked c.args.self.now) (range_with_len 1 c.args.n)))
    × (c.in-Some.v ≡ get_or (filter (is_marked c.args.self.now) (range_with_len 1 c.args.n)) (length c.loop-i.yielded) c.in-Some.v)
turn c =
    let marked = filter (is_marked c.args.self.now) (range_with_len 1 c.args.n) in
    let k = length c.loop-i.yielded in
    let next =
    YieldsList-turn
    (YieldsList-at c.into_iter-i-iterator.ensures.into_iter_gives
    (YieldsList-from_enumerate
    (YieldsList-at c.enumerate-i-items.ensures.source
    (YieldsList-from_filter _ (is_marked c.args.self.now) (YieldsList-at c.filter.ensures.source (YieldsList-from_range 1 (c.args.n + 1) c.args.n refl (omega arith))) c.filter.ensures.closure (λ x r q k. search (rules, tests))))
    c.enumerate-i-items.ensures.count))
    c.loop-i.yielded _ c.loop-i.yielded_by _ _ (c.in-Some.i, c.in-Some.v) c.in-Some.is c.next.ensures.steps in
    let below : k < length marked = omega (arith, next.0, length-enumerate_from 0 marked) in
    let pair = next.1 ∙ get_or-enumerate_from 0 marked k (c.in-Some.i, c.in-Some.v) below in
    (ap (λ (p : ℕ × ℕ). p.0) pair ∙ omega arith, below, ap (λ (p : ℕ × ℕ). p.1) pair)

pub bounds-list-i : goal.bounds-list-i
bounds-list-i c = let t = turn c in omega (arith, t.0, t.1, c.requires.room, c.loop-i.auto.list)

pub offset_bounds-list-i : goal.offset_bounds-list-i
offset_bounds-list-i c = let below : c.in-Some.i < length c.loop-i.list = bounds-list-i c in search rules

pub loop-i-preserved : goal.loop-i-preserved
loop-i-preserved c =
    let marked : List ℕ = filter (is_marked c.args.self.now) (range_with_len 1 c.args.n) in
    let list : List ℕ = c.args.list.now in
    let k = length c.loop-i.yielded in
    let t = turn c in
    ap (λ i. set c.loop-i.list i c.in-Some.v) t.0
    ∙ ap (λ l. set l k c.in-Some.v) c.loop-i.invariant
    ∙ put_next marked list k c.in-Some.v t.1 (omega (arith, t.1, c.requires.room)) t.2
    ∙ ap (λ n. take n marked ++ drop n list) (sym (length-append c.loop-i.yielded ((c.in-Some.i, c.in-Some.v) ∷ [])))

pub returns : goal.returns
returns c =
    let marked : List ℕ = filter (is_marked c.args.self.now) (range_with_len 1 c.args.n) in
    let list : List ℕ = c.args.list.now in
    let all : length c.loop-i.yielded ≡ length marked =
    (YieldsList-end
    (YieldsList-at c.into_iter-i-iterator.ensures.into_iter_gives
    (YieldsList-from_enumerate
    (YieldsList-at c.enumerate-i-items.ensures.source
    (YieldsList-from_filter _ (is_marked c.args.self.now) (YieldsList-at c.filter.ensures.source (YieldsList-from_range 1 (c.args.n + 1) c.args.n refl (omega arith))) c.filter.ensures.closure (λ x r q k. search (rules, tests))))
    c.enumerate-i-items.ensures.count))
    c.loop-i.yielded _ c.loop-i.yielded_by _ _ c.in-None.is c.next.ensures.steps).1
    ∙ length-enumerate_from 0 marked in
    c.loop-i.invariant ∙ ap (λ n. take n marked ++ drop n list) all ∙ ap (λ f. f ++ drop (length marked) list) (take-length marked)
