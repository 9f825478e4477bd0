-- Midway through a text: what has been read, what is left, and what one more line brings. Assumes nothing.
use Rattle.std.proofs.Common.{◌≡◌, ℕ, ◌+◌, List, Some, None, Option, Ok, Result, sym, ap, ◌∙◌, subst}
use Rattle.measure.specs.Scale.{Scale}
use Rattle.roadtext.specs.declared.fault.Fault.{Fault}
use Rattle.roadtext.specs.declared.parts.Room.{Room}
use Rattle.roadtext.specs.declared.steps.Event.{Event}
use Rattle.roadtext.specs.declared.walk.Walk.{Walk}
use Rattle.roadtext.specs.Text.{lines, fields, CutLine}
use Rattle.roadtext.specs.Reading.{State, read_line, then_lines, read_lines, nothing_read, ended}
use Rattle.roadtext.specs.Steps.{progress_of, stepped, Counted}
use Rattle.roadtext.specs.Walked.{WalkGives}

-- st has been read, as far as the walk has come; reading the rest is reading the text
pub record Midway {M : Type 0} (s : Scale) (room : Room) (text : List ℕ) (w : Walk M) (st : State) : Type 0 where
  pub came : progress_of room st ≡ w.progress
  pub left : read_lines s room w.number (lines w.rest.now) st ≡ read_lines s room 1 (lines text) nothing_read

-- before the first line
pub midway_start : {M : Type 0} (s : Scale) (room : Room) (text : List ℕ) (w : Walk M) → w.progress ≡ progress_of room nothing_read → w.number ≡ 1 → w.rest.now ≡ text → Midway s room text w nothing_read
midway_start s room text w p n r = record {
  came = sym p;
  left = ap (λ k. read_lines s room k (lines w.rest.now) nothing_read) n ∙ ap (λ t. read_lines s room 1 (lines t) nothing_read) r;
}

module _ {M : Type 0} {s : Scale} {room : Room} {text : List ℕ} {w : Walk M} {st : State} (here : Midway s room text w st) where
  -- what a line cut off does to what is left
  first_line : {line more : List ℕ} → CutLine w.rest.now line more → then_lines (read_lines s room (w.number + 1) (lines more)) (read_line s room w.number (fields line) st) ≡ read_lines s room 1 (lines text) nothing_read
  first_line cut = sym (ap (λ ls. read_lines s room w.number ls st) cut.lines_are) ∙ here.left

  module _ {item : Result (Option Event) Fault} (v : Walk M) (gives : WalkGives s w (Some item) v) where
    -- after a line without fault
    pub midway_on : (event : Option Event) → item ≡ Ok event → Midway s room text v (stepped st (record { progress = v.progress; event = event }))
    midway_on event e =
        let h = subst (λ r. WalkGives s w (Some r) v) e gives in
        let next = h.3 in record {
          came = next.keeps room st here.came;
          left =
              ap (λ k. read_lines s room k (lines v.rest.now) (stepped st (record { progress = v.progress; event = event }))) h.2
              ∙ sym (ap (then_lines (read_lines s room (w.number + 1) (lines v.rest.now))) (next.read room st here.came w.number)) ∙ first_line h.1;
        }

    -- after the `p` line a drawing with as many junctions can be started, and still so one line on
    pub midway_counted : (event : Option Event) → item ≡ Ok event → Counted w.progress w.progress.stage → Counted v.progress v.progress.stage
    midway_counted event e counted = let h = subst (λ r. WalkGives s w (Some r) v) e gives in h.3.counts counted

  -- where no line is left, the end of the text decides
  pub midway_end : (v : Walk M) → WalkGives s w None v → read_lines s room 1 (lines text) nothing_read ≡ ended w.number st st.stage
  midway_end v e = sym here.left ∙ ap (λ ls. read_lines s room w.number ls st) e.0
