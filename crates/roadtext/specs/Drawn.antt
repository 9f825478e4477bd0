-- What drawing a text, line by line, does to the drawing and to the tables. Assumes nothing.
use Rattle.std.specs.Prelude.{◌≡◌, ℕ, List, length, Some, None, Option, Ok, Err, Result, MatchResult}
use Rattle.measure.specs.Scale.{Scale}
use Rattle.drawing.specs.Edits.{AppendsAnOpenRoad, MovesOneJunction}
use Rattle.drawing.specs.declared.refusal.Refusal.{Refusal}
use Rattle.drawing.specs.declared.rest.Rest.{Rest}
use Rattle.drawing.specs.declared.tables.Junction.{Junction}
use Rattle.drawing.specs.declared.tables.Road.{Road}
use Rattle.roadtext.specs.declared.steps.Event.{Event}
use Rattle.roadtext.specs.declared.steps.Event.TheVariants.{Road as RoadRead, Move as MoveRead, Ask as AskRead}
use Rattle.roadtext.specs.Read.{Draws, room_of}
use Rattle.roadtext.specs.Reading.{State, read_text}
use Rattle.roadtext.specs.Steps.{Startable}

-- nothing is drawn
abbrev pub Leaves : Rest → List Junction → List Road → Result Unit Refusal → Rest → List Junction → List Road → Type 0
Leaves d junctions roads (Ok _) e junctions_after roads_after = (e ≡ d) × (junctions_after ≡ junctions) × (roads_after ≡ roads)
Leaves d junctions roads (Err x) e junctions_after roads_after = ⊥

-- a road is added
abbrev pub AddsOne : Scale → Rest → List Road → ℕ → ℕ → ℕ → Result Unit Refusal → Rest → List Road → Type 0
AddsOne s d roads u v x (Ok _) e after = (number : ℕ) × AppendsAnOpenRoad s d roads u v x (Ok number) e after
AddsOne s d roads u v x (Err y) e after = AppendsAnOpenRoad s d roads u v x (Err y) e after

-- what an event adds is drawn
abbrev pub DrawsEvent : Scale → Rest → List Junction → List Road → Option Event → Result Unit Refusal → Rest → List Junction → List Road → Type 0
DrawsEvent s d junctions roads None r e junctions_after roads_after = Leaves d junctions roads r e junctions_after roads_after
DrawsEvent s d junctions roads (Some (RoadRead a)) r e junctions_after roads_after =
    AddsOne s d roads a.from a.to a.worth r e roads_after × (junctions_after ≡ junctions)
DrawsEvent s d junctions roads (Some (MoveRead m)) r e junctions_after roads_after =
    MovesOneJunction d junctions m.junction m.district r junctions_after × (e ≡ d) × (roads_after ≡ roads)
DrawsEvent s d junctions roads (Some (AskRead q)) r e junctions_after roads_after = Leaves d junctions roads r e junctions_after roads_after

-- a text without fault, with n junctions, is drawn, and nothing in it is refused
abbrev pub DrawsText : Scale → List ℕ → ℕ → List Junction → List Road → Result Rest Refusal → List Junction → List Road → Type 0
DrawsText s text n junctions roads r junctions_after roads_after =
    (st : State) → read_text s (room_of junctions roads) text ≡ Ok st → st.junctions ≡ n → Startable (length junctions) n
    → MatchResult r (λ d. Draws s st junctions roads d junctions_after roads_after) (λ _. ⊥)
