-- The step of each kind of line is what the line means. Assumes nothing.
use Rattle.std.proofs.Common.{◌≡◌, ℕ, Bool, true, false, cond, eqb, List, [], ◌∷◌, IfOk, Some, Ok, Err, Result, sym, refl, ap, ◌∙◌, subst, length-append}
use Rattle.std.proofs.lemmas.Bool.{not-false, ne_eqb}
use Rattle.measure.specs.Scale.{Scale}
use Rattle.drawing.specs.Edits.{within}
use Rattle.roadtext.specs.declared.fault.Cause.TheVariants.{Letter}
use Rattle.roadtext.specs.declared.parts.Room.{Room}
use Rattle.roadtext.specs.declared.parts.Arc.{Arc}
use Rattle.roadtext.specs.declared.parts.LineFault.{LineFault}
use Rattle.roadtext.specs.declared.parts.Stage.{Stage}
use Rattle.roadtext.specs.declared.parts.Stage.TheVariants.{Head, Arc as ArcAwaited, Twin, Tail, Asks}
use Rattle.roadtext.specs.declared.steps.Event.TheVariants.{Move as MoveRead, Ask as AskRead}
use Rattle.roadtext.specs.declared.steps.Progress.{Progress}
use Rattle.roadtext.specs.declared.steps.Step.{Step}
use Rattle.roadtext.specs.Text.{letter_of}
use Rattle.roadtext.specs.Lines.{Check, passed, p_checks, a_checks, d_checks, q_checks, head_in, arc_in, move_in, ask_in, number_at}
use Rattle.roadtext.specs.Reading.{State, at_line, read_line, line_checks, after_line, has_letter, letter_check, arcs_to_come_lem}
use Rattle.roadtext.specs.Steps.{Steps, progress_of, stepped, stepped_by, moved_to, head_step, arc_step, twin_checks, twin_step, Startable, Begun, Counted, Drawable}
use Rattle.roadtext.proofs.Passed.{fault_of, passed_gives, each_passes}
use Rattle.roadtext.proofs.Letters.{letter_is, in_place}
use Rattle.roadtext.proofs.Allowed.{twin_addable, move_movable}

-- a step after checks is what is read after them
pub stepped_passed : (st : State) (cs : List Check) (t : Step) → stepped_by st (passed cs t) ≡ passed cs (stepped st t)
stepped_passed st [] t = refl
stepped_passed st (c ∷ cs) t =
    elim c.fails
    as (λ b. stepped_by st (cond b (Err (fault_of c)) (passed cs t)) ≡ cond b (Err (fault_of c)) (passed cs (stepped st t)))
    [ true ↦ refl | false ↦ stepped_passed st cs t ]

-- arcs to come, or none: it is after the `p` line
counted_arcs : (p : Progress) (k : ℕ) → Startable p.room.places p.junctions → Counted p (arcs_to_come_lem k)
counted_arcs p k h = elim (eqb k 0) as (λ b. Counted p (cond b Tail (ArcAwaited k))) [ true ↦ h | false ↦ h ]

-- A line that is no comment, at stage g, has the checks C and makes the step T.
module _ (s : Scale) (fs : List (List ℕ)) (quiet : false ≡ has_letter fs 99) (g : Stage) (C : Progress → List Check) (T : Progress → Step) where
  at_stage : (room : Room) (st : State) (l : ℕ) (r : Result Step LineFault) → st.stage ≡ g → stepped_by st r ≡ passed (line_checks s room st fs g) (after_line st fs g) → read_line s room l fs st ≡ at_line l (stepped_by st r)
  at_stage room st l r e h =
      ap (λ b. cond b (Ok st) (at_line l (passed (line_checks s room st fs st.stage) (after_line st fs st.stage)))) (sym quiet)
      ∙ ap (λ v. at_line l (passed (line_checks s room st fs v) (after_line st fs v))) e
      ∙ ap (at_line l) (sym h)

  over : (p : Progress) (r : Result Step LineFault) → r ≡ passed (C p) (T p) → (P : Step → Type 0) → (Ok (T p) ≡ passed (C p) (T p) → P (T p)) → IfOk r P
  over p r e P h = subst (λ q. IfOk q P) (sym e) (passed_gives (C p) (T p) P h)

  pub steps_by :
      ((room : Room) (st : State) → passed (C (progress_of room st)) (stepped st (T (progress_of room st))) ≡ passed (line_checks s room st fs g) (after_line st fs g))
      → ((room : Room) (st : State) → progress_of room (stepped st (T (progress_of room st))) ≡ (T (progress_of room st)).progress)
      → ((p : Progress) → Ok (T p) ≡ passed (C p) (T p) → Counted p g → Counted (T p).progress (T p).progress.stage)
      → ((p : Progress) → p.stage ≡ g → Ok (T p) ≡ passed (C p) (T p) → Drawable s p (T p).event)
      → (p : Progress) (r : Result Step LineFault) → p.stage ≡ g → r ≡ passed (C p) (T p) → Steps s fs p r
  steps_by same kept counted drawn p r at e =
      record {
        read =
            λ room st h l.
            at_stage room st l r (ap (λ q. q.stage) h ∙ at)
            (ap (stepped_by st) e
            ∙ stepped_passed st (C p) (T p)
            ∙ subst (λ q. passed (C q) (stepped st (T q)) ≡ passed (line_checks s room st fs g) (after_line st fs g)) h (same room st));
        keeps =
            λ room st h.
            over p r e (λ t. progress_of room (stepped st t) ≡ t.progress)
            (λ _. subst (λ q. progress_of room (stepped st (T q)) ≡ (T q).progress) h (kept room st));
        counts = λ k. over p r e (λ t. Counted t.progress t.progress.stage) (λ o. counted p o (subst (Counted p) at k));
        draws = over p r e (λ t. Drawable s p t.event) (drawn p at);
      }

module _ (s : Scale) (fs : List (List ℕ)) (p : Progress) (r : Result Step LineFault) where
  pub head_steps : Some 112 ≡ letter_of fs → p.stage ≡ Head → r ≡ passed (p_checks p.room.places fs) (head_step p (head_in fs)) → Steps s fs p r
  head_steps k =
      steps_by s fs (sym (letter_is fs 112 99 k)) Head (λ q. p_checks q.room.places fs) (λ q. head_step q (head_in fs))
      (λ room st. in_place fs 112 (p_checks room.places fs) (stepped st (head_step (progress_of room st) (head_in fs))) (letter_is fs 112 112 k))
      (λ _ _. refl)
      (λ q o _.
      let all = each_passes (p_checks q.room.places fs) (head_step q (head_in fs)) o in
      counted_arcs (head_step q (head_in fs)).progress (head_in fs).arcs
      (record { in_limits = not-false (within 1 4096 (number_at fs 3)) all.1.1.0; in_table = all.1.1.1.0 }))
      (λ _ _ _. tt)
      p
      r

  pub arc_steps : (left : ℕ) → Some 97 ≡ letter_of fs → p.stage ≡ ArcAwaited left → r ≡ passed (a_checks s p.junctions fs) (arc_step p left (arc_in fs)) → Steps s fs p r
  arc_steps left k =
      steps_by s fs (sym (letter_is fs 97 99 k)) (ArcAwaited left) (λ q. a_checks s q.junctions fs) (λ q. arc_step q left (arc_in fs))
      (λ room st. in_place fs 97 (a_checks s st.junctions fs) (stepped st (arc_step (progress_of room st) left (arc_in fs))) (letter_is fs 97 97 k))
      (λ _ _. refl)
      (λ _ _ h. h)
      (λ _ _ _. tt)
      p
      r

  pub twin_steps : (a : Arc) (left : ℕ) → Some 97 ≡ letter_of fs → p.stage ≡ Twin a left → r ≡ passed (twin_checks s p fs a) (twin_step p a left) → Steps s fs p r
  twin_steps a left k =
      steps_by s fs (sym (letter_is fs 97 99 k)) (Twin a left) (λ q. twin_checks s q fs a) (λ q. twin_step q a left)
      (λ room st. in_place fs 97 (twin_checks s (progress_of room st) fs a) (stepped st (twin_step (progress_of room st) a left)) (letter_is fs 97 97 k))
      (λ room st. ap (λ n. record { room = room; stage = arcs_to_come_lem left; junctions = st.junctions; roads = n }) (length-append st.roads (a ∷ [])))
      (λ q _ h. counted_arcs (twin_step q a left).progress left h)
      (λ q at o. twin_addable s fs q a (twin_step q a left) (subst Begun (sym at) tt) o)
      p
      r

  pub asks_step : Some 113 ≡ letter_of fs → p.stage ≡ Asks → r ≡ passed (q_checks p.junctions fs) (moved_to p Asks (Some (AskRead (ask_in fs)))) → Steps s fs p r
  asks_step k =
      steps_by s fs (sym (letter_is fs 113 99 k)) Asks (λ q. q_checks q.junctions fs) (λ q. moved_to q Asks (Some (AskRead (ask_in fs))))
      (λ room st. in_place fs 113 (q_checks st.junctions fs) (stepped st (moved_to (progress_of room st) Asks (Some (AskRead (ask_in fs))))) (letter_is fs 113 113 k))
      (λ _ _. refl)
      (λ _ _ h. h)
      (λ _ _ _. tt)
      p
      r

  -- a `d` line or another, by its letter
  tail_at : (room : Room) (st : State) (b : Bool) → b ≡ has_letter fs 100
      → passed (cond b (d_checks st.junctions fs) (letter_check fs 113 ∷ q_checks st.junctions fs)) (cond b (stepped st (moved_to (progress_of room st) Tail (Some (MoveRead (move_in fs))))) (stepped st (moved_to (progress_of room st) Asks (Some (AskRead (ask_in fs))))))
      ≡ passed (line_checks s room st fs Tail) (after_line st fs Tail)
  tail_at room st b e =
      ap (λ v. passed (cond v (d_checks st.junctions fs) (letter_check fs 113 ∷ q_checks st.junctions fs)) (cond v (stepped st (moved_to (progress_of room st) Tail (Some (MoveRead (move_in fs))))) (stepped st (moved_to (progress_of room st) Asks (Some (AskRead (ask_in fs))))))) e

  -- the first `q` line
  pub tail_asks : Some 113 ≡ letter_of fs → p.stage ≡ Tail → r ≡ passed (q_checks p.junctions fs) (moved_to p Asks (Some (AskRead (ask_in fs)))) → Steps s fs p r
  tail_asks k =
      steps_by s fs (sym (letter_is fs 113 99 k)) Tail (λ q. q_checks q.junctions fs) (λ q. moved_to q Asks (Some (AskRead (ask_in fs))))
      (λ room st.
      in_place fs 113 (q_checks st.junctions fs) (stepped st (moved_to (progress_of room st) Asks (Some (AskRead (ask_in fs))))) (letter_is fs 113 113 k)
      ∙ tail_at room st false (sym (letter_is fs 113 100 k)))
      (λ _ _. refl)
      (λ _ _ h. h)
      (λ _ _ _. tt)
      p
      r

  pub tail_moves : Some 100 ≡ letter_of fs → p.stage ≡ Tail → r ≡ passed (d_checks p.junctions fs) (moved_to p Tail (Some (MoveRead (move_in fs)))) → Steps s fs p r
  tail_moves k =
      steps_by s fs (sym (letter_is fs 100 99 k)) Tail (λ q. d_checks q.junctions fs) (λ q. moved_to q Tail (Some (MoveRead (move_in fs))))
      (λ room st. tail_at room st true (sym (letter_is fs 100 100 k)))
      (λ _ _. refl)
      (λ _ _ h. h)
      (λ q at o. move_movable fs q (moved_to q Tail (Some (MoveRead (move_in fs)))) (subst Begun (sym at) tt) o)
      p
      r

-- A line with none of the five letters is refused, whatever is awaited.
module _ (s : Scale) (fs : List (List ℕ)) (n : ℕ) (letter : Some n ≡ letter_of fs) where
  lacks : (b : ℕ) → (n ≡ b → ⊥) → has_letter fs b ≡ false
  lacks b other = letter_is fs n b letter ∙ ne_eqb n b other

  module _ (c : n ≡ 99 → ⊥) (h : n ≡ 112 → ⊥) (a : n ≡ 97 → ⊥) (d : n ≡ 100 → ⊥) (q : n ≡ 113 → ⊥) where
    refused_at : (room : Room) (st : State) (g : Stage) → passed (line_checks s room st fs g) (after_line st fs g) ≡ Err (record { field = 1; cause = Letter })
    refused_at room st Head = simp (lacks 112 h)
    refused_at room st (ArcAwaited k) = simp (lacks 97 a)
    refused_at room st (Twin b k) = simp (lacks 97 a)
    refused_at room st Tail = simp (lacks 100 d, lacks 113 q)
    refused_at room st Asks = simp (lacks 113 q)

    pub other_letter_steps : (p : Progress) → Steps s fs p (Err (record { field = 1; cause = Letter }))
    other_letter_steps p = record {
      read =
          λ room st e l.
          ap (λ b. cond b (Ok st) (at_line l (passed (line_checks s room st fs st.stage) (after_line st fs st.stage)))) (lacks 99 c)
          ∙ ap (at_line l) (refused_at room st st.stage);
      keeps = λ _ _ _. tt;
      counts = λ _. tt;
      draws = tt;
    }
