-- A text without fault, drawn line by line: no line is refused, and at the end all of it is drawn. Assumes nothing.
use Rattle.std.proofs.Common.{◌≡◌, ℕ, ◌≤◌, true, false, cond, ltb, List, [], length, Some, None, Option, Ok, Err, Result, sym, refl, ap, ◌∙◌, subst}
use Rattle.std.proofs.lemmas.Bool.{ltb-false}
use Rattle.measure.specs.Scale.{Scale}
use Rattle.drawing.specs.Outcomes.{verdict}
use Rattle.drawing.specs.Edits.{Fresh, StartsWithNoRoad, start_checks, all_in_district_0}
use Rattle.drawing.specs.declared.refusal.Refusal.{Refusal}
use Rattle.drawing.specs.declared.rest.Rest.{Rest}
use Rattle.drawing.specs.declared.tables.Junction.{Junction}
use Rattle.drawing.specs.declared.tables.Road.{Road}
use Rattle.roadtext.specs.declared.fault.Cause.TheVariants.{TooLong}
use Rattle.roadtext.specs.declared.parts.Room.{Room}
use Rattle.roadtext.specs.declared.steps.Event.{Event}
use Rattle.roadtext.specs.declared.walk.Walk.{Walk}
use Rattle.roadtext.specs.Drawn.{DrawsEvent}
use Rattle.roadtext.specs.Read.{Draws, AddsAll, MovesAll, room_of}
use Rattle.roadtext.specs.declared.fault.Fault.{Fault}
use Rattle.roadtext.specs.Reading.{State, fault, nothing_read, read_lines, read_text}
use Rattle.roadtext.specs.Steps.{Startable, Begun}
use Rattle.roadtext.specs.Walked.{WalkGives}
use Rattle.roadtext.specs.Text.{lines}
use Rattle.roadtext.proofs.Added.{SoFar, ends_ok, never_refused}
use Rattle.roadtext.proofs.Midway.{Midway, midway_end}
use Rattle.roadtext.proofs.Stays.{ended_ok, junctions_stay}

-- a text that is read is not too long, so its lines are read
pub lines_of_text : (s : Scale) (room : Room) (text : List ℕ) (st : State) → read_text s room text ≡ Ok st → read_lines s room 1 (lines text) nothing_read ≡ Ok st
lines_of_text s room text st h =
    elim (ltb 65536 (length text))
    as (λ b. cond b (Err (fault 0 0 TooLong)) (read_lines s room 1 (lines text) nothing_read) ≡ Ok st → read_lines s room 1 (lines text) nothing_read ≡ Ok st)
    [ true ↦ λ e. cc | false ↦ λ e. e ]
    h

-- a drawing that was started, before the first line
pub started_far : (s : Scale) (n : ℕ) (blank : List Junction) (fresh : Rest) (cleared : List Junction) (table : List Road) → StartsWithNoRoad s n 64 blank (Ok fresh) cleared → SoFar s n fresh cleared table [] [] fresh cleared table
started_far s n blank fresh cleared table h =
    let done = ends_ok (verdict (start_checks n 64 blank)) fresh (cleared ≡ blank) (λ d. Fresh s n 64 d × (cleared ≡ all_in_district_0 n blank)) h in
    record {
      tag_is = done.0.tag;
      junctions_are = done.0.junctions;
      districts_are = done.0.districts;
      roads_are = done.0.roads;
      adds = (refl, refl);
      moved = refl;
    }

module _ {M : Type 0} {s : Scale} {room : Room} {text : List ℕ} {w : Walk M} {st : State} (here : Midway s room text w st) (end : State) (good : read_text s room text ≡ Ok end) where
  -- at its end all has been read
  pub all_read : (v : Walk M) → WalkGives s w None v → st ≡ end
  all_read v e = ended_ok s room w.number st end st.stage (sym (midway_end here v e) ∙ lines_of_text s room text end good)

module _ {M : Type 0} {s : Scale} {text : List ℕ} {n : ℕ} (blank : List Junction) (unused : List Road) {w : Walk M} {st : State} (here : Midway s (room_of blank unused) text w st) (end : State)
    (good : read_text s (room_of blank unused) text ≡ Ok end) (count : end.junctions ≡ n)
    {fresh : Rest} {cleared : List Junction} {d : Rest} {junctions : List Junction} {table : List Road} (far : SoFar s n fresh cleared unused st.roads st.moves d junctions table) where
  -- the line here is not refused
  pub line_accepted : {item : Result (Option Event) Fault} (v : Walk M) → WalkGives s w (Some item) v → (event : Option Event) → item ≡ Ok event
      → Startable (length blank) n → length junctions ≡ length blank → length table ≡ length unused
      → (x : Refusal) (e : Rest) (then : List Junction) (after : List Road) → DrawsEvent s d junctions table event (Err x) e then after → ⊥
  line_accepted v gives event is can long size x e then after draws =
      let h = subst (λ r. WalkGives s w (Some r) v) is gives in
      let whole : read_lines s (room_of blank unused) w.number (lines w.rest.now) st ≡ Ok end = here.left ∙ lines_of_text s (room_of blank unused) text end good in
      let same = here.came in
      let fits : n ≤ length junctions = rw long (ltb-false (length blank) n can.in_table) in
      never_refused s n fresh cleared unused st.roads st.moves d junctions table far w.progress event h.3.draws
      (λ b. sym (ap (λ q. q.junctions) same) ∙ (sym (junctions_stay s (room_of blank unused) w.number (lines w.rest.now) st end (subst (λ q. Begun q.stage) (sym same) b) whole) ∙ count))
      (sym (ap (λ q. q.roads) same))
      (sym (ap (λ q. q.room.records) same) ∙ sym size)
      fits
      x
      e
      then
      after
      draws

  -- at the end all of it is drawn
  pub all_drawn : (v : Walk M) → WalkGives s w None v → StartsWithNoRoad s n 64 blank (Ok fresh) cleared → Draws s end blank unused d junctions table
  all_drawn v no_more started =
      let last : st ≡ end = all_read here end good v no_more in (
        fresh,
        cleared,
        subst (λ k. StartsWithNoRoad s k 64 blank (Ok fresh) cleared) (sym count) started,
        subst (λ q. AddsAll s fresh unused q.roads d table) last far.adds,
        subst (λ q. MovesAll d cleared q.moves junctions) last far.moved,
      )
