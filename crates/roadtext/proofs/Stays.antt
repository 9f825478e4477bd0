-- After the `p` line the number of junctions stays, and the end of a text is what has been read. Assumes nothing.
use Rattle.std.proofs.Common.{◌≡◌, ℕ, ◌+◌, Bool, true, false, cond, eqb, List, [], ◌∷◌, ◌++◌, IfOk, Ok, Err, Result, sym, refl, ap, ◌∙◌, subst}
use Rattle.measure.specs.Scale.{Scale}
use Rattle.roadtext.specs.declared.fault.Fault.{Fault}
use Rattle.roadtext.specs.declared.parts.Room.{Room}
use Rattle.roadtext.specs.declared.parts.LineFault.{LineFault}
use Rattle.roadtext.specs.declared.parts.Stage.{Stage}
use Rattle.roadtext.specs.declared.parts.Stage.TheVariants.{Head, Arc as ArcAwaited, Twin, Tail, Asks}
use Rattle.roadtext.specs.Text.{fields}
use Rattle.roadtext.specs.Lines.{move_in, ask_in}
use Rattle.roadtext.specs.Reading.{State, at_line, is_comment, has_letter, line_checks, after_line, arcs_to_come_lem, judged, read_line, then_lines, read_lines, ended}
use Rattle.roadtext.specs.Steps.{Begun}
use Rattle.roadtext.proofs.Passed.{passed_gives}

-- b has been read after a, and its junctions are the same
abbrev pub Stays : State → State → Type 0
Stays a b = Begun b.stage × (b.junctions ≡ a.junctions)

begun_arcs : (k : ℕ) → Begun (arcs_to_come_lem k)
begun_arcs k = elim (eqb k 0) as (λ b. Begun (cond b Tail (ArcAwaited k))) [ true ↦ tt | false ↦ tt ]

stays_either : (st a b : State) (v : Bool) → Stays st a → Stays st b → Stays st (cond v a b)
stays_either st a b true h k = h
stays_either st a b false h k = k

after_stays : (st : State) (fs : List (List ℕ)) (g : Stage) → Begun g → Stays st (after_line st fs g)
after_stays st fs Head h = absurd h
after_stays st fs (ArcAwaited k) h = (tt, refl)
after_stays st fs (Twin a k) h = (begun_arcs k, refl)
after_stays st fs Tail h =
    stays_either st
    (record { stage = Tail; junctions = st.junctions; roads = st.roads; moves = st.moves ++ (move_in fs ∷ []); asks = st.asks })
    (record { stage = Asks; junctions = st.junctions; roads = st.roads; moves = st.moves; asks = st.asks ++ (ask_in fs ∷ []) })
    (has_letter fs 100)
    (tt, refl)
    (tt, refl)
after_stays st fs Asks h = (tt, refl)

-- what holds of what a line gives
at_line_gives : (l : ℕ) (q : Result State LineFault) (P : State → Type 0) (y : State) → IfOk q P → Ok y ≡ at_line l q → P y
at_line_gives l (Ok x) P y h e = let same : x ≡ y = cc in subst P same h
at_line_gives l (Err f) P y h e = cc

module _ (s : Scale) (room : Room) where
  line_stays : (l : ℕ) (fs : List (List ℕ)) (st y : State) → Begun st.stage → Ok y ≡ read_line s room l fs st → Stays st y
  line_stays l fs st y h =
      elim (is_comment fs)
      as (λ b. Ok y ≡ cond b (Ok st) (at_line l (judged s room fs st)) → Stays st y) [
        | true ↦ λ e. let same : st ≡ y = cc in subst (Stays st) same (h, refl)
        | false ↦ λ e.
            at_line_gives l (judged s room fs st) (Stays st) y
            (passed_gives (line_checks s room st fs st.stage) (after_line st fs st.stage) (Stays st) (λ _. after_stays st fs st.stage h))
            e
      ]

  -- the end of a text without fault
  pub ended_ok : (l : ℕ) (st end : State) (g : Stage) → ended l st g ≡ Ok end → st ≡ end
  ended_ok l st end Head e = cc
  ended_ok l st end (ArcAwaited k) e = cc
  ended_ok l st end (Twin a k) e = cc
  ended_ok l st end Tail e = cc
  ended_ok l st end Asks e = cc

  pub junctions_stay : (l : ℕ) (ls : List (List ℕ)) (st end : State) → Begun st.stage → read_lines s room l ls st ≡ Ok end → end.junctions ≡ st.junctions
  junctions_stay l [] st end h e = ap (λ q. q.junctions) (sym (ended_ok l st end st.stage e))
  junctions_stay l (line ∷ ls) st end h e = next (λ y. junctions_stay (l + 1) ls y end) (read_line s room l (fields line) st) refl e
    where
      next : ((y : State) → Begun y.stage → read_lines s room (l + 1) ls y ≡ Ok end → end.junctions ≡ y.junctions) → (r : Result State Fault) → r ≡ read_line s room l (fields line) st → then_lines (read_lines s room (l + 1) ls) r ≡ Ok end → end.junctions ≡ st.junctions
      next more (Ok y) k e = let there = line_stays l (fields line) st y h k in more y there.0 e ∙ there.1
      next more (Err f) k e = cc
