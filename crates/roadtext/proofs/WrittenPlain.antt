-- Written lines have no byte 10, and are no comments. Assumes nothing.
use Rattle.std.proofs.Common.{◌≡◌, ℕ, ◌*◌, ◌^◌, ◌<◌, ◌≤◌, false, cond, not, ◌⊎◌, List, [], ◌∷◌, ◌++◌, map, length, decimal, refl, ap, ◌∙◌, inl, inr, arith}
use Rattle.std.specs.List.{AllByRecursion}
use Rattle.std.proofs.ByRecursion.{All-append, All-map, All-weaker}
use Rattle.std.proofs.lemmas.Bool.{ne_eqb}
use Rattle.measure.specs.Scale.{Scale}
use Rattle.roadtext.specs.declared.parts.Room.{Room}
use Rattle.roadtext.specs.declared.parts.Arc.{Arc}
use Rattle.roadtext.specs.declared.parts.Move.{Move}
use Rattle.roadtext.specs.declared.parts.Ask.{Ask}
use Rattle.roadtext.specs.Text.{fields}
use Rattle.roadtext.specs.Reading.{is_comment}
use Rattle.roadtext.specs.Written.{spaced, head_line, arc_lines, move_line, move_lines, ask_line, ask_lines, written_lines}
use Rattle.roadtext.specs.Written.{Lacks, without_comments, WritableRoad, WritableMove, WritableAsk, Writable}
use Rattle.roadtext.proofs.WrittenFields.{fields_of_spaced, spaced_lacks, letter_line_lacks, head_line_lacks, fields_of_letter_line}

-- no byte 10, and no comment
abbrev Plain : List ℕ → Type 0
Plain line = Lacks 10 line × (is_comment (fields line) ≡ false)

letter_line_is_plain :
    (letter : ℕ) → 99 < letter ⊎ letter ≡ 97 → (ns : List ℕ) → AllByRecursion (λ n. n < 10 ^ 10) ns → Plain (spaced (letter ∷ []) (map decimal ns))
letter_line_is_plain letter other ns small = (
  spaced_lacks 10 (λ e. omega arith) (letter ∷ []) (map decimal ns)
      (letter_line_lacks 10 letter (omega arith) (λ e. omega arith) ns small),
  ap is_comment (fields_of_letter_line letter (λ e. omega arith) ns small) ∙ ne_eqb letter 99 (λ e. omega arith),
)

head_is_plain : (n a : ℕ) → n < 10 ^ 10 → a < 10 ^ 10 → Plain (head_line n a)
head_is_plain n a h k =
    let rest : List (List ℕ) = (115 ∷ 112 ∷ []) ∷ decimal n ∷ decimal a ∷ [] in (
      spaced_lacks 10 (λ e. omega arith) (112 ∷ []) rest (head_line_lacks 10 (omega arith) n a h k),
      ap is_comment (fields_of_spaced (112 ∷ []) rest (head_line_lacks 32 (omega arith) n a h k)),
    )

arcs_are_plain : (s : Scale) (n : ℕ) → n ≤ 4096 → (roads : List Arc) → AllByRecursion (WritableRoad s n) roads → AllByRecursion Plain (arc_lines roads)
arcs_are_plain s n few [] t = tt
arcs_are_plain s n few (a ∷ more) (h, t) = (
  letter_line_is_plain 97 (inr refl) (a.from ∷ a.to ∷ a.worth ∷ []) (omega arith, (omega arith, (omega arith, tt))),
  (
    letter_line_is_plain 97 (inr refl) (a.to ∷ a.from ∷ a.worth ∷ []) (omega arith, (omega arith, (omega arith, tt))),
    arcs_are_plain s n few more t,
  ),
)

-- comments taken out of lines of which none is one
nothing_taken_out : (ls : List (List ℕ)) → AllByRecursion Plain ls → without_comments ls ≡ ls
nothing_taken_out [] t = refl
nothing_taken_out (line ∷ ls) (h, t) =
    ap (λ b. cond (not b) (line ∷ without_comments ls) (without_comments ls)) h.1 ∙ ap (λ x. line ∷ x) (nothing_taken_out ls t)

module _ (s : Scale) (room : Room) (n : ℕ) (roads : List Arc) (moves : List Move) (asks : List Ask) (w : Writable s room n roads moves asks) where
  moves_are_plain : AllByRecursion Plain (move_lines moves)
  moves_are_plain =
      All-map Plain (λ m. move_line m.junction m.district) moves
      (All-weaker (WritableMove n) (λ m. Plain (move_line m.junction m.district))
      (λ m h. letter_line_is_plain 100 (inl (omega arith)) (m.junction ∷ m.district ∷ []) (omega arith, (omega arith, tt)))
      moves w.each_move)

  asks_are_plain : AllByRecursion Plain (ask_lines asks)
  asks_are_plain =
      All-map Plain (λ q. ask_line q.from q.to) asks
      (All-weaker (WritableAsk n) (λ q. Plain (ask_line q.from q.to))
      (λ q h. letter_line_is_plain 113 (inl (omega arith)) (q.from ∷ q.to ∷ []) (omega arith, (omega arith, tt)))
      asks w.each_ask)

  all_are_plain : AllByRecursion Plain (written_lines n roads moves asks)
  all_are_plain = (
    head_is_plain n (2 * length roads) (omega arith) (omega arith),
    All-append Plain (arc_lines roads) (move_lines moves ++ ask_lines asks)
        (arcs_are_plain s n w.few_junctions roads w.each_road)
        (All-append Plain (move_lines moves) (ask_lines asks) moves_are_plain asks_are_plain),
  )

  pub written_lines_lack_line_ends : AllByRecursion (Lacks 10) (written_lines n roads moves asks)
  written_lines_lack_line_ends = All-weaker Plain (Lacks 10) (λ line h. h.0) (written_lines n roads moves asks) all_are_plain

  pub no_written_line_is_a_comment : without_comments (written_lines n roads moves asks) ≡ written_lines n roads moves asks
  no_written_line_is_a_comment = nothing_taken_out (written_lines n roads moves asks) all_are_plain
