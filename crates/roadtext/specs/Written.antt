-- That a network within the limits and its asks, written out as a text of at most 65,536 bytes, are read back, whatever
-- comments stand between the lines. Assumes nothing.
use Rattle.std.specs.Prelude.{◌≡◌, ℕ, ◌*◌, ◌^◌, ◌<◌, ◌≤◌, not, List, [], ◌∷◌, ◌++◌, map, length, Ok, decimal, filter, ◌≢◌}
use Rattle.std.specs.List.{AllByRecursion}
use Rattle.measure.specs.Scale.{Scale, Lawful}
use Rattle.roadtext.specs.declared.parts.Room.{Room}
use Rattle.roadtext.specs.declared.parts.Arc.{Arc}
use Rattle.roadtext.specs.declared.parts.Move.{Move}
use Rattle.roadtext.specs.declared.parts.Ask.{Ask}
use Rattle.roadtext.specs.Text.{lines, fields}
use Rattle.roadtext.specs.Reading.{State, is_comment, read_text}

-- fields parted by single spaces
abbrev pub spaced : List ℕ → List (List ℕ) → List ℕ
spaced f [] = f
spaced f (g ∷ more) = f ++ (32 ∷ spaced g more)

-- `p sp N A`
abbrev pub head_line : ℕ → ℕ → List ℕ
head_line n a = spaced (112 ∷ []) ((115 ∷ 112 ∷ []) ∷ decimal n ∷ decimal a ∷ [])

-- `a U V W`
abbrev pub arc_line : ℕ → ℕ → ℕ → List ℕ
arc_line u v x = spaced (97 ∷ []) (decimal u ∷ decimal v ∷ decimal x ∷ [])

-- `d J D`
abbrev pub move_line : ℕ → ℕ → List ℕ
move_line j d = spaced (100 ∷ []) (decimal j ∷ decimal d ∷ [])

-- `q S T`
abbrev pub ask_line : ℕ → ℕ → List ℕ
ask_line u v = spaced (113 ∷ []) (decimal u ∷ decimal v ∷ [])

-- the two arcs of each road
abbrev pub arc_lines : List Arc → List (List ℕ)
arc_lines [] = []
arc_lines (a ∷ more) = arc_line a.from a.to a.worth ∷ arc_line a.to a.from a.worth ∷ arc_lines more

abbrev pub move_lines : List Move → List (List ℕ)
move_lines moves = map (λ m. move_line m.junction m.district) moves

abbrev pub ask_lines : List Ask → List (List ℕ)
ask_lines asks = map (λ q. ask_line q.from q.to) asks

-- the lines of a network with n junctions, its roads and its moves, and of the asks
abbrev pub written_lines : ℕ → List Arc → List Move → List Ask → List (List ℕ)
written_lines n roads moves asks =
    head_line n (2 * length roads) ∷ (arc_lines roads ++ (move_lines moves ++ ask_lines asks))

-- the text with these lines, each ended by byte 10
abbrev pub text_of : List (List ℕ) → List ℕ
text_of [] = []
text_of (line ∷ rest) = line ++ (10 ∷ text_of rest)

-- the byte is not in the list
abbrev pub Lacks : ℕ → List ℕ → Type 0
Lacks byte bs = AllByRecursion (λ b. b ≢ byte) bs

-- the lines that are no comments
abbrev pub without_comments : List (List ℕ) → List (List ℕ)
without_comments ls = filter (λ l. not (is_comment (fields l))) ls

-- v is one of the junctions 1 to n
abbrev pub JunctionOf : ℕ → ℕ → Type 0
JunctionOf n v = (1 ≤ v) × (v ≤ n)

-- a road between two junctions, with a lawful value that a field can write
pub record WritableRoad (s : Scale) (n : ℕ) (a : Arc) : Type 0 where
  pub from_a_junction : JunctionOf n a.from
  pub to_a_junction : JunctionOf n a.to
  pub ends_differ : a.from ≡ a.to → ⊥
  pub lawful_worth : Lawful s a.worth
  pub at_most_ten_digits : a.worth < 10 ^ 10

-- a junction and one of 64 districts
abbrev pub WritableMove : ℕ → Move → Type 0
WritableMove n m = JunctionOf n m.junction × (m.district < 64)

-- two junctions
abbrev pub WritableAsk : ℕ → Ask → Type 0
WritableAsk n q = JunctionOf n q.from × JunctionOf n q.to

-- The network is within the limits, and there is room for it; the asks are of its junctions.
pub record Writable (s : Scale) (room : Room) (n : ℕ) (roads : List Arc) (moves : List Move) (asks : List Ask) : Type 0 where
  pub some_junction : 1 ≤ n
  pub few_junctions : n ≤ 4096
  pub enough_places : n ≤ room.places
  pub few_roads : length roads ≤ 16384
  pub enough_records : length roads ≤ room.records
  pub each_road : AllByRecursion (WritableRoad s n) roads
  pub each_move : AllByRecursion (WritableMove n) moves
  pub each_ask : AllByRecursion (WritableAsk n) asks

-- what has been read is this network and these asks
pub record IsRead (s : Scale) (room : Room) (text : List ℕ) (n : ℕ) (roads : List Arc) (moves : List Move) (asks : List Ask) : Type 0 where
  pub state : State
  pub without_fault : read_text s room text ≡ Ok state
  pub same_junctions : state.junctions ≡ n
  pub same_roads : state.roads ≡ roads
  pub same_moves : state.moves ≡ moves
  pub same_asks : state.asks ≡ asks

-- Any text of at most 65,536 bytes whose lines, comments aside, are the written lines, is read back. There are such texts:
-- lines without byte 10 are the lines of a text, and the written lines have no byte 10, and are no comments.
pub record ReadsBack (s : Scale) (room : Room) (n : ℕ) (roads : List Arc) (moves : List Move) (asks : List Ask) : Type 0 where
  pub is_read_back :
      (text : List ℕ) → length text ≤ 65536 → without_comments (lines text) ≡ written_lines n roads moves asks
      → IsRead s room text n roads moves asks
  pub lines_make_a_text : (ls : List (List ℕ)) → AllByRecursion (Lacks 10) ls → lines (text_of ls) ≡ ls
  pub written_lines_are_lines : AllByRecursion (Lacks 10) (written_lines n roads moves asks)
  pub written_lines_are_no_comments : without_comments (written_lines n roads moves asks) ≡ written_lines n roads moves asks
