-- A written network is read back. Assumes nothing.
use Rattle.std.proofs.Common.{◌≡◌, ℕ, ◌*◌, ◌≤◌, false, List, [], ◌++◌, length, sym, refl, ap, ◌∙◌, subst, arith}
use Rattle.measure.specs.Scale.{Scale}
use Rattle.roadtext.specs.declared.parts.Room.{Room}
use Rattle.roadtext.specs.declared.parts.Arc.{Arc}
use Rattle.roadtext.specs.declared.parts.Move.{Move}
use Rattle.roadtext.specs.declared.parts.Ask.{Ask}
use Rattle.roadtext.specs.declared.parts.Stage.{Stage}
use Rattle.roadtext.specs.Text.{lines}
use Rattle.roadtext.specs.Reading.{nothing_read}
use Rattle.roadtext.specs.FirstFault.{awaits}
use Rattle.roadtext.specs.Written.{arc_lines, move_lines, ask_lines, written_lines, without_comments, Writable, IsRead, ReadsBack}
use Rattle.roadtext.proofs.FirstFault.{fault_is_the_first_lem}
use Rattle.roadtext.proofs.WrittenFields.{lines_of_text}
use Rattle.roadtext.proofs.WrittenLines.{reading, head_adds}
use Rattle.roadtext.proofs.WrittenParts.{Reads, line_first, lines_first, past_comments, roads_are_read, moves_are_read, all_asks_are_read}
use Rattle.roadtext.proofs.WrittenPlain.{written_lines_lack_line_ends, no_written_line_is_a_comment}

module _ (s : Scale) (room : Room) (n : ℕ) (roads : List Arc) (moves : List Move) (asks : List Ask) (w : Writable s room n roads moves asks) where
  all_is_read :
      (stage : Stage) × (awaits stage ≡ false)
      × Reads s room nothing_read (written_lines n roads moves asks) (reading stage n roads moves asks)
  all_is_read =
      let few = w.few_junctions in
      let last = all_asks_are_read s room n few roads moves asks w.each_ask in (
        last.0,
        last.1,
        line_first (head_adds s room n (2 * length roads) (w.some_junction, few) w.enough_places (omega arith) (omega arith))
            (lines_first (arc_lines roads) (move_lines moves ++ ask_lines asks)
            (roads_are_read s room n few roads [] (2 * length roads) refl (omega arith) (omega arith) w.each_road)
            (lines_first (move_lines moves) (ask_lines asks) (moves_are_read s room n few roads moves [] w.each_move) last.2)),
      )

  is_read_back :
      (text : List ℕ) → length text ≤ 65536 → without_comments (lines text) ≡ written_lines n roads moves asks
      → IsRead s room text n roads moves asks
  is_read_back text short e =
      let all = all_is_read in
      let end = reading all.0 n roads moves asks in
      let r = past_comments s room (lines text) nothing_read end (subst (λ ls. Reads s room nothing_read ls end) (sym e) all.2) in
      record {
        state = end;
        without_fault = (fault_is_the_first_lem s room text).is_accepted end record {
          not_too_long = short;
          lines_have_none = r.no_fault;
          nothing_awaited = ap (λ st. awaits st.stage) r.is_read ∙ all.1;
          what_is_read = sym r.is_read;
        };
        same_junctions = refl;
        same_roads = refl;
        same_moves = refl;
        same_asks = refl;
      }

  pub reads_back : ReadsBack s room n roads moves asks
  reads_back = record {
    is_read_back = is_read_back;
    lines_make_a_text = lines_of_text;
    written_lines_are_lines = written_lines_lack_line_ends s room n roads moves asks w;
    written_lines_are_no_comments = no_written_line_is_a_comment s room n roads moves asks w;
  }
