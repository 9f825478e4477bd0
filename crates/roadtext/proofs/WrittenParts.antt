-- The written roads, moves and asks are read, each kind one after the other, and comments are passed over. Assumes nothing.
use Rattle.std.proofs.Common.{◌≡◌, ℕ, ◌+◌, ◌-◌, ◌*◌, ◌≤◌, Bool, true, false, cond, not, eqb, List, [], ◌∷◌, ◌++◌, length, sym, refl, ap, ◌∙◌, subst, ap₂, ⊎_elim, append_assoc, append-nil, arith, length-append}
use Rattle.std.specs.List.{AllByRecursion}
use Rattle.std.proofs.lemmas.Bool.{cases_Bool, cond-false, ne_eqb}
use Rattle.measure.specs.Scale.{Scale}
use Rattle.roadtext.specs.declared.parts.Room.{Room}
use Rattle.roadtext.specs.declared.parts.Arc.{Arc}
use Rattle.roadtext.specs.declared.parts.Move.{Move}
use Rattle.roadtext.specs.declared.parts.Ask.{Ask}
use Rattle.roadtext.specs.declared.parts.Stage.{Stage}
use Rattle.roadtext.specs.declared.parts.Stage.TheVariants.{Arc as ArcAwaited, Tail, Asks}
use Rattle.roadtext.specs.Text.{fields}
use Rattle.roadtext.specs.Reading.{State, is_comment, line_checks, after_line, arcs_to_come_lem}
use Rattle.roadtext.specs.FirstFault.{with_line, with_lines, AllPass, NoFault, awaits}
use Rattle.roadtext.specs.Written.{arc_lines, move_lines, ask_lines, without_comments, WritableRoad, WritableMove, WritableAsk}
use Rattle.roadtext.proofs.WrittenLines.{reading, Adds, arc_adds, twin_adds, move_adds, first_ask_adds, ask_adds}

-- the lines have no fault, and this has been read after them
pub record Reads (s : Scale) (room : Room) (st : State) (ls : List (List ℕ)) (after : State) : Type 0 where
  pub no_fault : NoFault s room st ls
  pub is_read : with_lines st ls ≡ after

module _ {s : Scale} {room : Room} where
  pub no_line : {st after : State} → st ≡ after → Reads s room st [] after
  no_line e = record { no_fault = tt; is_read = e }

  pub line_first :
      {st mid after : State} {line : List ℕ} {ls : List (List ℕ)}
      → Adds s room st line mid → Reads s room mid ls after → Reads s room st (line ∷ ls) after
  line_first {ls = ls} a r = record {
    no_fault = (a.no_fault, subst (λ x. NoFault s room x ls) (sym a.is_read) r.no_fault);
    is_read = ap (λ x. with_lines x ls) a.is_read ∙ r.is_read;
  }

  pub lines_first :
      (ls more : List (List ℕ)) {st mid after : State} → Reads s room st ls mid → Reads s room mid more after
      → Reads s room st (ls ++ more) after
  lines_first [] more {after = after} a r = subst (λ x. Reads s room x more after) (sym a.is_read) r
  lines_first (line ∷ ls) more a r =
      let k = lines_first ls more record { no_fault = a.no_fault.1; is_read = a.is_read } r in
      record { no_fault = (a.no_fault.0, k.no_fault); is_read = k.is_read }

  -- what has been read at the end, said in other words
  said_as : {st end after : State} {ls : List (List ℕ)} → end ≡ after → Reads s room st ls end → Reads s room st ls after
  said_as e r = record { no_fault = r.no_fault; is_read = r.is_read ∙ e }

module _ (s : Scale) (room : Room) where
  comment_adds_nothing : (st : State) (line : List ℕ) → is_comment (fields line) ≡ true → Adds s room st line st
  comment_adds_nothing st line e = record {
    no_fault = subst (λ b. AllPass (cond b [] (line_checks s room st (fields line) st.stage))) (sym e) tt;
    is_read = ap (λ b. cond b st (after_line st (fields line) st.stage)) e;
  }

  pub past_comments : (ls : List (List ℕ)) (st after : State) → Reads s room st (without_comments ls) after → Reads s room st ls after
  past_comments [] st after r = r
  past_comments (line ∷ ls) st after r =
      let kept : Bool → List (List ℕ) = λ b. cond (not b) (line ∷ without_comments ls) (without_comments ls) in
      let Kept : Bool → Type 0 = λ b. Reads s room st (kept b) after in
      ⊎_elim (λ e. line_first (comment_adds_nothing st line e) (past_comments ls st after (subst Kept e r)))
      (λ e. let k : Kept false = subst Kept e r in
      line_first record { no_fault = k.no_fault.0; is_read = refl }
      (past_comments ls (with_line st line) after record { no_fault = k.no_fault.1; is_read = k.is_read }))
      (cases_Bool (is_comment (fields line)))

  -- the lines after the head, in a network of n junctions
  module _ (n : ℕ) (few : n ≤ 4096) where
    pub roads_are_read :
        (todo done : List Arc) (k : ℕ) → k ≡ 2 * length todo → length done + length todo ≤ 16384
        → length done + length todo ≤ room.records → AllByRecursion (WritableRoad s n) todo
        → Reads s room (reading (arcs_to_come_lem k) n done [] []) (arc_lines todo) (reading Tail n (done ++ todo) [] [])
    roads_are_read [] done k e h j t =
        no_line (ap₂ (λ stage roads. reading stage n roads [] []) (ap arcs_to_come_lem e) (sym (append-nil done)))
    roads_are_read (a ∷ rest) done k e h j (road, t) =
        let some : arcs_to_come_lem k ≡ ArcAwaited k = cond-false (eqb k 0) Tail (ArcAwaited k) (ne_eqb k 0 (λ z. omega arith)) in
        let longer : length (done ++ (a ∷ [])) ≡ length done + 1 = length-append done (a ∷ []) in
        let end : List Arc → State = λ roads. reading Tail n roads [] [] in
        subst (λ stage. Reads s room (reading stage n done [] []) (arc_lines (a ∷ rest)) (end (done ++ (a ∷ rest)))) (sym some)
        (said_as (ap end (append_assoc done (a ∷ []) rest))
        (line_first (arc_adds s room n few done [] [] a road k)
        (line_first (twin_adds s room n few done [] [] a road (k - 2) (omega arith) (omega arith))
        (roads_are_read rest (done ++ (a ∷ [])) (k - 2) (omega arith) (omega arith) (omega arith) t))))

    module _ (roads : List Arc) where
      pub moves_are_read :
          (todo done : List Move) → AllByRecursion (WritableMove n) todo
          → Reads s room (reading Tail n roads done []) (move_lines todo) (reading Tail n roads (done ++ todo) [])
      moves_are_read [] done t = no_line (ap (λ x. reading Tail n roads x []) (sym (append-nil done)))
      moves_are_read (m ∷ rest) done (h, t) =
          said_as (ap (λ x. reading Tail n roads x []) (append_assoc done (m ∷ []) rest))
          (line_first (move_adds s room n few roads done [] m h.0 h.1) (moves_are_read rest (done ++ (m ∷ [])) t))

      module _ (moves : List Move) where
        asks_are_read :
            (todo done : List Ask) → AllByRecursion (WritableAsk n) todo
            → Reads s room (reading Asks n roads moves done) (ask_lines todo) (reading Asks n roads moves (done ++ todo))
        asks_are_read [] done t = no_line (ap (λ x. reading Asks n roads moves x) (sym (append-nil done)))
        asks_are_read (q ∷ rest) done (h, t) =
            said_as (ap (λ x. reading Asks n roads moves x) (append_assoc done (q ∷ []) rest))
            (line_first (ask_adds s room n few roads moves done q h.0 h.1) (asks_are_read rest (done ++ (q ∷ [])) t))

        -- at a stage that awaits no `p` line and no arc
        pub all_asks_are_read :
            (asks : List Ask) → AllByRecursion (WritableAsk n) asks
            → (stage : Stage) × (awaits stage ≡ false)
            × Reads s room (reading Tail n roads moves []) (ask_lines asks) (reading stage n roads moves asks)
        all_asks_are_read [] t = (Tail, refl, no_line refl)
        all_asks_are_read (q ∷ rest) (h, t) =
            (Asks, refl, line_first (first_ask_adds s room n few roads moves [] q h.0 h.1) (asks_are_read rest (q ∷ []) t))
