-- One line, seen by a reader that keeps only how far it has come, and what the line adds. Assumes nothing.
use Rattle.std.specs.Prelude.{◌≡◌, ℕ, ◌+◌, ◌-◌, true, false, not, ◌||◌, ◌==◌, List, [], ◌∷◌, ◌++◌, length, IfOk, Some, None, Option, Ok, Err, Result, nat_le, nat_lt}
use Rattle.measure.specs.Scale.{Scale}
use Rattle.drawing.specs.Edits.{within}
use Rattle.drawing.specs.declared.refusal.Refusal.TheVariants.{RoadsFull}
use Rattle.roadtext.specs.declared.fault.Cause.TheVariants.{Twin as NoTwin, Drawing}
use Rattle.roadtext.specs.declared.parts.Room.{Room}
use Rattle.roadtext.specs.declared.parts.Arc.{Arc}
use Rattle.roadtext.specs.declared.parts.Head.{Head}
use Rattle.roadtext.specs.declared.parts.LineFault.{LineFault}
use Rattle.roadtext.specs.declared.parts.Move.{Move}
use Rattle.roadtext.specs.declared.parts.Ask.{Ask}
use Rattle.roadtext.specs.declared.parts.Stage.{Stage}
use Rattle.roadtext.specs.declared.parts.Stage.TheVariants.{Head as HeadAwaited, Arc as ArcAwaited, Twin, Tail, Asks}
use Rattle.roadtext.specs.declared.steps.Event.{Event}
use Rattle.roadtext.specs.declared.steps.Event.TheVariants.{Road, Move as MoveRead, Ask as AskRead}
use Rattle.roadtext.specs.declared.steps.Progress.{Progress}
use Rattle.roadtext.specs.declared.steps.Step.{Step}
use Rattle.roadtext.specs.Lines.{Check, check, arc_in, a_checks}
use Rattle.roadtext.specs.Reading.{State, at_line, read_line, arcs_to_come_lem, is_twin}

-- how far a reader has come that has read this
abbrev pub progress_of : Room → State → Progress
progress_of room st =
    record { room = room; stage = st.stage; junctions = st.junctions; roads = length st.roads }

-- what an event adds to the roads, to the moves and to the asks
abbrev pub with_road : Option Event → List Arc → List Arc
with_road None roads = roads
with_road (Some (Road a)) roads = roads ++ (a ∷ [])
with_road (Some (MoveRead m)) roads = roads
with_road (Some (AskRead q)) roads = roads

abbrev pub with_move : Option Event → List Move → List Move
with_move None moves = moves
with_move (Some (Road a)) moves = moves
with_move (Some (MoveRead m)) moves = moves ++ (m ∷ [])
with_move (Some (AskRead q)) moves = moves

abbrev pub with_ask : Option Event → List Ask → List Ask
with_ask None asks = asks
with_ask (Some (Road a)) asks = asks
with_ask (Some (MoveRead m)) asks = asks
with_ask (Some (AskRead q)) asks = asks ++ (q ∷ [])

-- what has been read after a step
abbrev pub stepped : State → Step → State
stepped st t =
    record {
      stage = t.progress.stage;
      junctions = t.progress.junctions;
      roads = with_road t.event st.roads;
      moves = with_move t.event st.moves;
      asks = with_ask t.event st.asks;
    }

abbrev pub stepped_by : State → Result Step LineFault → Result State LineFault
stepped_by st (Ok t) = Ok (stepped st t)
stepped_by st (Err f) = Err f

-- a drawing with so many junctions can be started in a table of so many entries
pub record Startable (places n : ℕ) : Type 0 where
  pub in_limits : within 1 4096 n ≡ true
  pub in_table : nat_lt places n ≡ false

-- after the `p` line, it can be
abbrev pub Counted : Progress → Stage → Type 0
Counted p HeadAwaited = Unit {0}
Counted p (ArcAwaited k) = Startable p.room.places p.junctions
Counted p (Twin a k) = Startable p.room.places p.junctions
Counted p Tail = Startable p.room.places p.junctions
Counted p Asks = Startable p.room.places p.junctions

-- the `p` line has been read
abbrev pub Begun : Stage → Type 0
Begun HeadAwaited = ⊥
Begun (ArcAwaited k) = Unit {0}
Begun (Twin a k) = Unit {0}
Begun Tail = Unit {0}
Begun Asks = Unit {0}

-- a road that can be added
pub record Addable (s : Scale) (p : Progress) (a : Arc) : Type 0 where
  pub begun : Begun p.stage
  pub from_within : within 1 p.junctions a.from ≡ true
  pub to_within : within 1 p.junctions a.to ≡ true
  pub apart : (a.from == a.to) ≡ false
  pub worth_lawful : s.lawful a.worth ≡ true
  pub room_left : nat_le 16384 p.roads || nat_le p.room.records p.roads ≡ false

-- a junction that can be moved
pub record Movable (p : Progress) (m : Move) : Type 0 where
  pub begun : Begun p.stage
  pub junction_within : within 1 p.junctions m.junction ≡ true
  pub district_below : nat_lt m.district 64 ≡ true

-- what an event adds can be added
abbrev pub Drawable : Scale → Progress → Option Event → Type 0
Drawable s p None = Unit {0}
Drawable s p (Some (Road a)) = Addable s p a
Drawable s p (Some (MoveRead m)) = Movable p m
Drawable s p (Some (AskRead q)) = Unit {0}

-- The line's fields, where what has been read has come as far as p: the line's fault, or the step to what is read with it.
pub record Steps (s : Scale) (fs : List (List ℕ)) (p : Progress) (r : Result Step LineFault) : Type 0 where
  pub read : (room : Room) (st : State) → progress_of room st ≡ p → (l : ℕ) → read_line s room l fs st ≡ at_line l (stepped_by st r)
  pub keeps : (room : Room) (st : State) → progress_of room st ≡ p → IfOk r (λ t. progress_of room (stepped st t) ≡ t.progress)
  pub counts : Counted p p.stage → IfOk r (λ t. Counted t.progress t.progress.stage)
  pub draws : IfOk r (λ t. Drawable s p t.event)

-- further on: at this stage, with this event
abbrev pub moved_to : Progress → Stage → Option Event → Step
moved_to p s e =
    record { progress = record { room = p.room; stage = s; junctions = p.junctions; roads = p.roads }; event = e }

-- the step of each kind of line
abbrev pub head_step : Progress → Head → Step
head_step p h =
    record { progress = record { room = p.room; stage = arcs_to_come_lem h.arcs; junctions = h.junctions; roads = p.roads }; event = None }

abbrev pub arc_step : Progress → ℕ → Arc → Step
arc_step p left a = moved_to p (Twin a (left - 2)) None

-- the second arc is the twin of the first, and there is room for one road more
abbrev pub road_checks : Progress → Arc → Arc → List Check
road_checks p a b =
    check 1 NoTwin (not (is_twin a b)) ∷ check 1 (Drawing RoadsFull) (nat_le 16384 p.roads || nat_le p.room.records p.roads) ∷ []

-- the checks of the twin of an arc, after its letter
abbrev pub twin_checks : Scale → Progress → List (List ℕ) → Arc → List Check
twin_checks s p fs a = a_checks s p.junctions fs ++ road_checks p a (arc_in fs)

abbrev pub twin_step : Progress → Arc → ℕ → Step
twin_step p a left =
    record { progress = record { room = p.room; stage = arcs_to_come_lem left; junctions = p.junctions; roads = p.roads + 1 }; event = Some (Road a) }
