-- What has been drawn so far, one event more, and that none is refused. Assumes nothing.
use Rattle.std.proofs.Common.{◌≡◌, ℕ, ◌+◌, ◌≤◌, false, cond, not, ◌||◌, ltb, leb, List, [], ◌∷◌, ◌++◌, length, set, Some, None, Option, Ok, Err, Result, sym, refl, ap, ◌∙◌, subst, arith, length-append, eq-eqb}
use Rattle.std.specs.List.{AllByRecursion}
use Rattle.std.proofs.lemmas.Bool.Decides.{nat_tests}
use Rattle.measure.specs.Scale.{Scale}
use Rattle.drawing.specs.Outcomes.{Check, verdict, Ends}
use Rattle.drawing.specs.Edits.{within, AppendsAnOpenRoad, MovesOneJunction, OneRoadMore, add_checks, assign_checks, with_entry, in_district, open_road}
use Rattle.drawing.specs.declared.refusal.Refusal.{Refusal}
use Rattle.drawing.specs.declared.rest.Rest.{Rest}
use Rattle.drawing.specs.declared.tables.Junction.{Junction}
use Rattle.drawing.specs.declared.tables.Road.{Road}
use Rattle.roadtext.specs.declared.parts.Arc.{Arc}
use Rattle.roadtext.specs.declared.parts.Move.{Move}
use Rattle.roadtext.specs.declared.steps.Event.{Event}
use Rattle.roadtext.specs.declared.steps.Event.TheVariants.{Road as RoadRead, Move as MoveRead, Ask as AskRead}
use Rattle.roadtext.specs.declared.steps.Progress.{Progress}
use Rattle.roadtext.specs.Drawn.{Leaves, DrawsEvent}
use Rattle.roadtext.specs.Read.{AddsAll, MovesAll}
use Rattle.roadtext.specs.Steps.{Begun, Drawable, with_road, with_move}

-- a call that answers has done what it says
pub ends_ok : {A : Type 0} (v : Result Unit Refusal) (a : A) (same : Type 0) (done : A → Type 0) → Ends v (Ok a) same done → done a
ends_ok (Ok u) a same done h = h
ends_ok (Err x) a same done h = let e = h.0 in cc

-- a call whose checks all pass is not refused
ends_accepted : {A : Type 0} (cs : List Check) (x : Refusal) (same : Type 0) (done : A → Type 0) → AllByRecursion (λ c. c.fails ≡ false) cs → Ends (verdict cs) (Err x) same done → ⊥
ends_accepted [] x same done h e = e
ends_accepted (c ∷ cs) x same done h e =
    ends_accepted cs x same done h.1 (subst (λ b. Ends (cond b (Err c.refusal) (verdict cs)) (Err x) same done) h.0 e)

-- one road more
adds_more : (s : Scale) (d : Rest) (table : List Road) (roads : List Arc) (e : Rest) (then : List Road) (a : Arc) (number : ℕ) (f : Rest) (after : List Road)
    → AddsAll s d table roads e then → AppendsAnOpenRoad s e then a.from a.to a.worth (Ok number) f after → AddsAll s d table (roads ++ (a ∷ [])) f after
adds_more s d table [] e then a number f after h k = (
  number,
  f,
  after,
  subst (λ t. AppendsAnOpenRoad s d t a.from a.to a.worth (Ok number) f after) h.1
      (subst (λ q. AppendsAnOpenRoad s q then a.from a.to a.worth (Ok number) f after) h.0 k),
  (refl, refl),
)
adds_more s d table (b ∷ roads) e then a number f after h k =
    (h.0, h.1, h.2, h.3, adds_more s h.1 h.2 roads e then a number f after h.4 k)

-- one move more
moves_more : (d : Rest) (table : List Junction) (moves : List Move) (then : List Junction) (m : Move) (after : List Junction)
    → MovesAll d table moves then → MovesOneJunction d then m.junction m.district (Ok tt) after → MovesAll d table (moves ++ (m ∷ [])) after
moves_more d table [] then m after h k = (after, subst (λ t. MovesOneJunction d t m.junction m.district (Ok tt) after) h k, refl)
moves_more d table (n ∷ moves) then m after h k = (h.0, h.1, moves_more d h.0 moves then m after h.2 k)

-- moving a junction asks only how many junctions and districts there are
moves_one_alike : (d e : Rest) (table : List Junction) (v k : ℕ) (after : List Junction) → e.junctions ≡ d.junctions → e.districts ≡ d.districts
    → MovesOneJunction d table v k (Ok tt) after → MovesOneJunction e table v k (Ok tt) after
moves_one_alike d e table v k after p q h = rw (p, q) h

moves_alike : (d e : Rest) (table : List Junction) (moves : List Move) (after : List Junction) → e.junctions ≡ d.junctions → e.districts ≡ d.districts
    → MovesAll d table moves after → MovesAll e table moves after
moves_alike d e table [] after p q h = h
moves_alike d e table (m ∷ moves) after p q h =
    (h.0, moves_one_alike d e table m.junction m.district h.0 p q h.1, moves_alike d e h.0 moves after p q h.2)

-- The drawing d and the two tables, after these roads and these moves: n junctions, 64 districts, and as many roads.
pub record SoFar (s : Scale) (n : ℕ) (fresh : Rest) (cleared : List Junction) (blank : List Road) (roads : List Arc) (moves : List Move) (d : Rest) (junctions : List Junction) (table : List Road) : Type 0 where
  pub tag_is : d.tag ≡ s.tag
  pub junctions_are : d.junctions ≡ n
  pub districts_are : d.districts ≡ 64
  pub roads_are : d.roads ≡ length roads
  pub adds : AddsAll s fresh blank roads d table
  pub moved : MovesAll d cleared moves junctions

-- a table that is not full has room for the roads that stand
room_in : (size k : ℕ) → leb 16384 k || leb size k ≡ false → ltb size k ≡ false
room_in size k h = grind (arith, nat_tests)

module _ (s : Scale) (n : ℕ) (fresh : Rest) (cleared : List Junction) (blank : List Road) (roads : List Arc) (moves : List Move) (d : Rest) (junctions : List Junction) (table : List Road)
    (far : SoFar s n fresh cleared blank roads moves d junctions table) where
  -- nothing has been drawn
  leaves_far : (e : Rest) (then : List Junction) (after : List Road) → Leaves d junctions table (Ok tt) e then after → SoFar s n fresh cleared blank roads moves e then after
  leaves_far e then after h =
      subst (λ q. SoFar s n fresh cleared blank roads moves q then after) (sym h.0)
      (subst (λ q. SoFar s n fresh cleared blank roads moves d q after) (sym h.1)
      (subst (λ q. SoFar s n fresh cleared blank roads moves d junctions q) (sym h.2) far))

  -- one event more
  pub event_far : (ev : Option Event) (e : Rest) (then : List Junction) (after : List Road) → DrawsEvent s d junctions table ev (Ok tt) e then after
      → SoFar s n fresh cleared blank (with_road ev roads) (with_move ev moves) e then after
  event_far None e then after h = leaves_far e then after h
  event_far (Some (AskRead q)) e then after h = leaves_far e then after h
  event_far (Some (RoadRead a)) e then after h =
      let number = h.0.0 in
      let more = ends_ok (verdict (add_checks s d table a.from a.to a.worth)) number ((e ≡ d) × (after ≡ table)) (λ k. (k ≡ d.roads + 1) × OneRoadMore d e × (after ≡ set table d.roads (open_road a.from a.to a.worth))) h.0.1 in
      record {
        tag_is = more.1.tag ∙ far.tag_is;
        junctions_are = more.1.junctions ∙ far.junctions_are;
        districts_are = more.1.districts ∙ far.districts_are;
        roads_are = more.1.roads ∙ (ap (λ k. k + 1) far.roads_are ∙ sym (length-append roads (a ∷ [])));
        adds = adds_more s fresh blank roads d table a number e after far.adds h.0.1;
        moved = subst (λ q. MovesAll e cleared moves q) (sym h.1) (moves_alike d e cleared moves junctions more.1.junctions more.1.districts far.moved);
      }
  event_far (Some (MoveRead m)) e then after h =
      subst (λ q. SoFar s n fresh cleared blank roads (moves ++ (m ∷ [])) q then after) (sym h.1)
      (subst (λ q. SoFar s n fresh cleared blank roads (moves ++ (m ∷ [])) d then q) (sym h.2)
      (record {
        tag_is = far.tag_is;
        junctions_are = far.junctions_are;
        districts_are = far.districts_are;
        roads_are = far.roads_are;
        adds = far.adds;
        moved = moves_more d cleared moves junctions m then far.moved h.0;
      }))

  -- no event of a text without fault is refused
  pub never_refused : (p : Progress) (ev : Option Event) → Drawable s p ev → (Begun p.stage → p.junctions ≡ n) → p.roads ≡ length roads → p.room.records ≡ length table → n ≤ length junctions
      → (x : Refusal) (e : Rest) (then : List Junction) (after : List Road) → DrawsEvent s d junctions table ev (Err x) e then after → ⊥
  never_refused p None can same count size long x e then after h = h
  never_refused p (Some (AskRead q)) can same count size long x e then after h = h
  never_refused p (Some (RoadRead a)) can same count size long x e then after h =
      let j : d.junctions ≡ p.junctions = far.junctions_are ∙ sym (same can.begun) in
      let full : leb 16384 d.roads || leb (length table) d.roads ≡ false =
      ap (λ k. leb 16384 k || leb (length table) k) (far.roads_are ∙ sym count) ∙ (ap (λ k. leb 16384 p.roads || leb k p.roads) (sym size) ∙ can.room_left) in
      ends_accepted (add_checks s d table a.from a.to a.worth) x ((e ≡ d) × (after ≡ table)) (λ k. (k ≡ d.roads + 1) × OneRoadMore d e × (after ≡ set table d.roads (open_road a.from a.to a.worth))) (
        ap not (eq-eqb d.tag s.tag far.tag_is),
        (
          room_in (length table) d.roads full,
          (
            ap not (ap (λ q. within 1 q a.from) j ∙ can.from_within),
            (
              ap not (ap (λ q. within 1 q a.to) j ∙ can.to_within),
              (can.apart, (ap not can.worth_lawful, (full, tt))),
            ),
          ),
        ),
      )
      h.0
  never_refused p (Some (MoveRead m)) can same count size long x e then after h =
      let j : d.junctions ≡ p.junctions = far.junctions_are ∙ sym (same can.begun) in
      let fits : d.junctions ≤ length junctions = omega (arith, far.junctions_are) in
      ends_accepted (assign_checks d junctions m.junction m.district) x (then ≡ junctions) (λ _. then ≡ with_entry (in_district 0) (λ _. in_district m.district) m.junction junctions) (
        grind (arith, nat_tests),
        (ap not (ap (λ q. within 1 q m.junction) j ∙ can.junction_within), (ap not (ap (ltb m.district) far.districts_are ∙ can.district_below), tt)),
      )
      h.0
