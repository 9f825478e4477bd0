-- Each written line passes its checks, and adds to what has been read what it says. Assumes nothing.
use Rattle.std.proofs.Common.{◌≡◌, ℕ, ◌-◌, ◌%◌, ◌^◌, ◌<◌, ◌≤◌, false, cond, not, ◌||◌, leb, List, [], ◌∷◌, ◌++◌, length, decimal, sym, refl, ap, ◌∙◌, subst, ap₂, arith}
use Rattle.std.proofs.ByRecursion.{All-append}
use Rattle.std.proofs.lemmas.Bool.{or_from, lt-leb}
use Rattle.measure.specs.Scale.{Scale}
use Rattle.drawing.specs.declared.refusal.Refusal.TheVariants.{RoadsFull}
use Rattle.roadtext.specs.declared.fault.Cause.TheVariants.{Twin as NoTwin, Drawing}
use Rattle.roadtext.specs.declared.parts.Room.{Room}
use Rattle.roadtext.specs.declared.parts.Arc.{Arc}
use Rattle.roadtext.specs.declared.parts.Move.{Move}
use Rattle.roadtext.specs.declared.parts.Ask.{Ask}
use Rattle.roadtext.specs.declared.parts.Stage.{Stage}
use Rattle.roadtext.specs.declared.parts.Stage.TheVariants.{Arc as ArcAwaited, Twin, Tail, Asks}
use Rattle.roadtext.specs.Text.{fields}
use Rattle.roadtext.specs.Lines.{check, a_checks, q_checks, arc_in, ask_in}
use Rattle.roadtext.specs.Reading.{State, nothing_read, is_comment, is_twin, reversed, line_checks, arcs_to_come_lem, after_line}
use Rattle.roadtext.specs.FirstFault.{checks_of, with_line, AllPass}
use Rattle.roadtext.specs.Written.{head_line, arc_line, move_line, ask_line, JunctionOf, WritableRoad}
use Rattle.roadtext.proofs.WrittenNumbers.{number_decimal}
use Rattle.roadtext.proofs.WrittenFields.{fields_of_spaced, head_line_lacks, fields_of_letter_line}
use Rattle.roadtext.proofs.WrittenChecks.{Writes, head_fields, arc_fields, two_fields, its_value, head_passes, arc_passes, arc_is_read}
use Rattle.roadtext.proofs.WrittenChecks.{reversed_is_twin, reversed_is_writable, move_passes, ask_passes, move_is_read, ask_is_read}

-- what has been read, part by part
abbrev pub reading : Stage → ℕ → List Arc → List Move → List Ask → State
reading stage n roads moves asks = record { stage = stage; junctions = n; roads = roads; moves = moves; asks = asks }

-- the written line of an arc, and the fields of each line

abbrev pub line_of_arc : Arc → List ℕ
line_of_arc a = arc_line a.from a.to a.worth

abbrev words_of_arc : Arc → List (List ℕ)
words_of_arc a = arc_fields (decimal a.from) (decimal a.to) (decimal a.worth)

abbrev words_of_move : Move → List (List ℕ)
words_of_move m = two_fields 100 (decimal m.junction) (decimal m.district)

abbrev words_of_ask : Ask → List (List ℕ)
words_of_ask q = two_fields 113 (decimal q.from) (decimal q.to)

-- the line has no fault, and this has been read after it
pub record Adds (s : Scale) (room : Room) (st : State) (line : List ℕ) (after : State) : Type 0 where
  pub no_fault : AllPass (checks_of s room st line)
  pub is_read : with_line st line ≡ after

module _ (s : Scale) (room : Room) where
  by_its_fields :
      (st : State) (line : List ℕ) (fs : List (List ℕ)) (after : State) → fields line ≡ fs
      → AllPass (cond (is_comment fs) [] (line_checks s room st fs st.stage))
      → cond (is_comment fs) st (after_line st fs st.stage) ≡ after → Adds s room st line after
  by_its_fields st line fs after e h k = record {
    no_fault = subst (λ x. AllPass (cond (is_comment x) [] (line_checks s room st x st.stage))) (sym e) h;
    is_read = ap (λ x. cond (is_comment x) st (after_line st x st.stage)) e ∙ k;
  }

  pub head_adds :
      (n a : ℕ) → JunctionOf 4096 n → n ≤ room.places → a % 2 ≡ 0 → a < 10 ^ 10
      → Adds s room nothing_read (head_line n a) (reading (arcs_to_come_lem a) n [] [] [])
  head_adds n a few fits even small =
      let p = number_decimal n (omega arith) in
      let q = number_decimal a small in
      by_its_fields nothing_read (head_line n a) (head_fields (decimal n) (decimal a)) (reading (arcs_to_come_lem a) n [] [] [])
      (fields_of_spaced (112 ∷ []) ((115 ∷ 112 ∷ []) ∷ decimal n ∷ decimal a ∷ [])
      (head_line_lacks 32 (omega arith) n a (omega arith) small))
      (refl, head_passes room.places (decimal n) (decimal a) n a p q few fits even)
      (ap₂ (λ y z. reading (arcs_to_come_lem z) y [] [] []) (its_value (decimal n) n p) (its_value (decimal a) a q))

  -- the lines after the head, in a network of n junctions
  module _ (n : ℕ) (few : n ≤ 4096) where
    module _ (a : Arc) (road : WritableRoad s n a) where
      from_is_written : Writes (decimal a.from) a.from
      from_is_written = number_decimal a.from (omega arith)

      to_is_written : Writes (decimal a.to) a.to
      to_is_written = number_decimal a.to (omega arith)

      worth_is_written : Writes (decimal a.worth) a.worth
      worth_is_written = number_decimal a.worth (omega arith)

      fields_of_arc : fields (line_of_arc a) ≡ words_of_arc a
      fields_of_arc =
          fields_of_letter_line 97 (λ e. omega arith) (a.from ∷ a.to ∷ a.worth ∷ [])
          (omega arith, (omega arith, (omega arith, tt)))

      checks_of_arc : AllPass (a_checks s n (words_of_arc a))
      checks_of_arc =
          arc_passes (decimal a.from) (decimal a.to) (decimal a.worth) a from_is_written to_is_written worth_is_written
          s n road

      arc_of_line : arc_in (words_of_arc a) ≡ a
      arc_of_line =
          arc_is_read (decimal a.from) (decimal a.to) (decimal a.worth) a from_is_written to_is_written worth_is_written

    module _ (roads : List Arc) (moves : List Move) (asks : List Ask) where
      abbrev at : Stage → State
      at stage = reading stage n roads moves asks

      pub arc_adds :
          (a : Arc) → WritableRoad s n a → (k : ℕ)
          → Adds s room (reading (ArcAwaited k) n roads moves asks) (line_of_arc a) (reading (Twin a (k - 2)) n roads moves asks)
      arc_adds a road k =
          by_its_fields (at (ArcAwaited k)) (line_of_arc a) (words_of_arc a) (at (Twin a (k - 2)))
          (fields_of_arc a road) (refl, checks_of_arc a road) (ap (λ y. at (Twin y (k - 2))) (arc_of_line a road))

      room_for_a_road :
          length roads < 16384 → length roads < room.records
          → (leb 16384 (length roads) || leb room.records (length roads)) ≡ false
      room_for_a_road h k = or_from _ _ (lt-leb 16384 (length roads) h) (lt-leb room.records (length roads) k)

      pub twin_adds :
          (a : Arc) → WritableRoad s n a → (k : ℕ) → length roads < 16384 → length roads < room.records
          → Adds s room (reading (Twin a k) n roads moves asks) (line_of_arc (reversed a))
          (reading (arcs_to_come_lem k) n (roads ++ (a ∷ [])) moves asks)
      twin_adds a road k h j =
          let back = reversed_is_writable s n a road in
          let fs = words_of_arc (reversed a) in
          let full = leb 16384 (length roads) || leb room.records (length roads) in
          by_its_fields (at (Twin a k)) (line_of_arc (reversed a)) fs (reading (arcs_to_come_lem k) n (roads ++ (a ∷ [])) moves asks)
          (fields_of_arc (reversed a) back) (
            refl,
            All-append (λ c. c.fails ≡ false) (a_checks s n fs) (check 1 NoTwin (not (is_twin a (arc_in fs))) ∷ check 1 (Drawing RoadsFull) full ∷ [])
                (checks_of_arc (reversed a) back) (
                  ap (λ y. not (is_twin a y)) (arc_of_line (reversed a) back) ∙ ap not (reversed_is_twin a),
                  (room_for_a_road h j, tt),
                ),
          )
          refl

      pub move_adds :
          (m : Move) → JunctionOf n m.junction → m.district < 64
          → Adds s room (reading Tail n roads moves asks) (move_line m.junction m.district) (reading Tail n roads (moves ++ (m ∷ [])) asks)
      move_adds m h k =
          let p : m.junction < 10 ^ 10 = omega arith in
          let q : m.district < 10 ^ 10 = omega arith in
          by_its_fields (at Tail) (move_line m.junction m.district) (words_of_move m) (reading Tail n roads (moves ++ (m ∷ [])) asks)
          (fields_of_letter_line 100 (λ e. omega arith) (m.junction ∷ m.district ∷ []) (p, (q, tt)))
          (move_passes 100 (decimal m.junction) (decimal m.district) m (number_decimal m.junction p) (number_decimal m.district q) n h k)
          (ap (λ y. reading Tail n roads (moves ++ (y ∷ [])) asks)
          (move_is_read 100 (decimal m.junction) (decimal m.district) m (number_decimal m.junction p) (number_decimal m.district q)))

      module _ (q : Ask) (h : JunctionOf n q.from) (k : JunctionOf n q.to) where
        abbrev with_ask : Ask → State
        with_ask y = reading Asks n roads moves (asks ++ (y ∷ []))

        from_is_asked : Writes (decimal q.from) q.from
        from_is_asked = number_decimal q.from (omega arith)

        to_is_asked : Writes (decimal q.to) q.to
        to_is_asked = number_decimal q.to (omega arith)

        fields_of_ask : fields (ask_line q.from q.to) ≡ words_of_ask q
        fields_of_ask = fields_of_letter_line 113 (λ e. omega arith) (q.from ∷ q.to ∷ []) (omega arith, (omega arith, tt))

        checks_of_ask : AllPass (q_checks n (words_of_ask q))
        checks_of_ask = ask_passes 113 (decimal q.from) (decimal q.to) q from_is_asked to_is_asked n h k

        ask_of_line : with_ask (ask_in (words_of_ask q)) ≡ with_ask q
        ask_of_line = ap with_ask (ask_is_read 113 (decimal q.from) (decimal q.to) q from_is_asked to_is_asked)

        pub first_ask_adds :
            Adds s room (reading Tail n roads moves asks) (ask_line q.from q.to) (reading Asks n roads moves (asks ++ (q ∷ [])))
        first_ask_adds =
            by_its_fields (at Tail) (ask_line q.from q.to) (words_of_ask q) (with_ask q) fields_of_ask (refl, checks_of_ask) ask_of_line

        pub ask_adds :
            Adds s room (reading Asks n roads moves asks) (ask_line q.from q.to) (reading Asks n roads moves (asks ++ (q ∷ [])))
        ask_adds =
            by_its_fields (at Asks) (ask_line q.from q.to) (words_of_ask q) (with_ask q) fields_of_ask (refl, checks_of_ask) ask_of_line
