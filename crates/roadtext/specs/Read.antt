-- What the call that reads a text promises: the drawing that start, add and assign would have made, or the first fault. Assumes
-- nothing.
use Rattle.std.specs.Prelude.{◌≡◌, ℕ, List, [], ◌∷◌, length, Ok, Err, vec_items, Result}
use Rattle.measure.specs.Scale.{Scale}
use Rattle.drawing.specs.Edits.{StartsWithNoRoad, AppendsAnOpenRoad, MovesOneJunction}
use Rattle.drawing.specs.declared.rest.Rest.{Rest}
use Rattle.drawing.specs.declared.tables.Junction.{Junction}
use Rattle.drawing.specs.declared.tables.Road.{Road}
use Rattle.roadtext.specs.declared.parts.Room.{Room}
use Rattle.roadtext.specs.declared.parts.Arc.{Arc}
use Rattle.roadtext.specs.declared.parts.Move.{Move}
use Rattle.roadtext.specs.declared.outcome.Reading.{Reading}
use Rattle.roadtext.specs.declared.outcome.Unread.{Unread}
use Rattle.roadtext.specs.declared.outcome.Unread.TheVariants.{Refused, Memory}
use Rattle.roadtext.specs.Reading.{State, read_text}

-- the roads added one after the other, each by an accepted add
abbrev pub AddsAll : Scale → Rest → List Road → List Arc → Rest → List Road → Type 0
AddsAll s d table [] e after = (e ≡ d) × (after ≡ table)
AddsAll s d table (a ∷ more) e after =
    (number : ℕ) × (next : Rest) × (then : List Road) × AppendsAnOpenRoad s d table a.from a.to a.worth (Ok number) next then
    × AddsAll s next then more e after

-- the junctions moved one after the other, each by an accepted assign
abbrev pub MovesAll : Rest → List Junction → List Move → List Junction → Type 0
MovesAll d table [] after = after ≡ table
MovesAll d table (m ∷ more) after =
    (then : List Junction) × MovesOneJunction d table m.junction m.district (Ok tt) then × MovesAll d then more after

-- What has been read is drawn: an accepted start with its junctions and 64 districts, then its roads, then its moves.
abbrev pub Draws : Scale → State → List Junction → List Road → Rest → List Junction → List Road → Type 0
Draws s st junctions roads d junctions_after roads_after =
    (fresh : Rest) × (cleared : List Junction) × StartsWithNoRoad s st.junctions 64 junctions (Ok fresh) cleared
    × AddsAll s fresh roads st.roads d roads_after × MovesAll d cleared st.moves junctions_after

abbrev pub room_of : List Junction → List Road → Room
room_of junctions roads = record { places = length junctions; records = length roads }

-- nothing has changed
abbrev pub Unchanged : List Junction → List Road → List Junction → List Road → Type 0
Unchanged junctions roads junctions_after roads_after = (junctions_after ≡ junctions) × (roads_after ≡ roads)

-- The text is read, and what it says is drawn, with its asks in order; or it is refused with its first fault, and nothing has
-- changed. Where there is no memory for the asks of a text without fault, nothing has changed either.
abbrev pub ReadsTheText : Scale → List ℕ → List Junction → List Road → Result Reading Unread → List Junction → List Road → Type 0
ReadsTheText s text junctions roads (Ok r) junctions_after roads_after =
    (st : State) × (read_text s (room_of junctions roads) text ≡ Ok st)
    × Draws s st junctions roads r.drawing junctions_after roads_after × (vec_items r.asks ≡ st.asks)
ReadsTheText s text junctions roads (Err (Refused f)) junctions_after roads_after =
    (read_text s (room_of junctions roads) text ≡ Err f) × Unchanged junctions roads junctions_after roads_after
ReadsTheText s text junctions roads (Err Memory) junctions_after roads_after =
    (st : State) × (read_text s (room_of junctions roads) text ≡ Ok st) × Unchanged junctions roads junctions_after roads_after
