-- What the checks of a line show of the road or the move that it adds. Assumes nothing.
use Rattle.std.proofs.Common.{◌≡◌, ℕ, true, false, eqb, ltb, List, Ok, sym, ap, ◌∙◌, arith}
use Rattle.std.proofs.lemmas.Bool.{not-false}
use Rattle.std.proofs.lemmas.Bool.Decides.{nat_tests}
use Rattle.measure.specs.Scale.{Scale}
use Rattle.drawing.specs.Edits.{within}
use Rattle.roadtext.specs.declared.parts.Arc.{Arc}
use Rattle.roadtext.specs.declared.steps.Progress.{Progress}
use Rattle.roadtext.specs.declared.steps.Step.{Step}
use Rattle.roadtext.specs.Lines.{passed, d_checks, arc_in, move_in, number_at}
use Rattle.roadtext.specs.Reading.{is_twin}
use Rattle.roadtext.specs.Steps.{Begun, Addable, Movable, twin_checks}
use Rattle.roadtext.proofs.Passed.{each_passes}

-- a move passes the checks of its `d` line
pub move_movable : (fs : List (List ℕ)) (p : Progress) (t : Step) → Begun p.stage → Ok t ≡ passed (d_checks p.junctions fs) t → Movable p (move_in fs)
move_movable fs p t b o =
    let all = each_passes (d_checks p.junctions fs) t o in
    record {
      begun = b;
      junction_within = not-false (within 1 p.junctions (number_at fs 2)) all.1.0;
      district_below = not-false (ltb (number_at fs 3) 64) all.1.1.1.0;
    }

-- twins have the same ends, exchanged, and the same value
twin_ends : (a b : Arc) → is_twin a b ≡ true → (b.to ≡ a.from) × (b.from ≡ a.to) × (b.worth ≡ a.worth)
twin_ends a b h = (grind (arith, nat_tests), grind (arith, nat_tests), grind (arith, nat_tests))

-- an arc passes the checks of its twin's line
pub twin_addable : (s : Scale) (fs : List (List ℕ)) (p : Progress) (a : Arc) (t : Step) → Begun p.stage → Ok t ≡ passed (twin_checks s p fs a) t → Addable s p a
twin_addable s fs p a t b o =
    let all = each_passes (twin_checks s p fs a) t o in
    let ends = twin_ends a (arc_in fs) (not-false (is_twin a (arc_in fs)) all.1.1.1.1.1.1.1.1.0) in
    record {
      begun = b;
      from_within = sym (ap (within 1 p.junctions) ends.0) ∙ not-false (within 1 p.junctions (number_at fs 3)) all.1.1.1.0;
      to_within = sym (ap (within 1 p.junctions) ends.1) ∙ not-false (within 1 p.junctions (number_at fs 2)) all.1.0;
      apart = rw (← ends.0, ← ends.1) (apart_either_way (number_at fs 2) (number_at fs 3) all.1.1.1.1.0);
      worth_lawful = sym (ap s.lawful ends.2) ∙ not-false (s.lawful (number_at fs 4)) all.1.1.1.1.1.1.0;
      room_left = all.1.1.1.1.1.1.1.1.1.0;
    }
  where
    apart_either_way : (x y : ℕ) → eqb x y ≡ false → eqb y x ≡ false
    apart_either_way x y h = grind (arith, nat_tests)
