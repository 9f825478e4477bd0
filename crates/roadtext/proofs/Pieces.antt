-- The first piece of a text that a byte parts: the lines of a text, the fields of a line. Assumes nothing.
use Rattle.std.proofs.Common.{◌≡◌, ℕ, suc, ◌+◌, ◌<◌, ◌≤◌, true, false, cond, not, eqb, List, [], ◌∷◌, length, Some, None, take, drop, refl, ap, ◌∙◌, ⊎_elim, add_comm, add-one, arith, length-drop}
use Rattle.std.specs.List.{position, position_or_len}
use Rattle.std.proofs.lemmas.Bool.{cases_lt, cond-true, cond-false, lt-ltb, le-ltb}
use Rattle.roadtext.specs.Text.{put_first, lines, fields, CutLine}

-- the byte, and what it parts: a function that takes a text to its pieces, with the step that it takes at one byte
module _ (s : ℕ) (pieces : List ℕ → List (List ℕ))
    (step : (b : ℕ) (bs : List ℕ) → pieces (b ∷ bs) ≡ cond (eqb b s) ([] ∷ pieces bs) (put_first b (pieces bs))) where
  -- the place of the first such byte, or the length where there is none
  abbrev end_of : List ℕ → ℕ
  end_of text = position_or_len (λ b. eqb b s) text

  -- where there is such a byte, the first piece ends at the first
  cut_at : (bs : List ℕ) → end_of bs < length bs → pieces bs ≡ take (end_of bs) bs ∷ pieces (drop (suc (end_of bs)) bs)
  cut_at [] h = absurd (omega arith)
  cut_at (b ∷ bs) h =
      step b bs
      ∙ elim (eqb b s) as (λ v. cond (not v) (1 + end_of bs) 0 < suc (length bs) →
      cond v ([] ∷ pieces bs) (put_first b (pieces bs))
      ≡ take (cond (not v) (1 + end_of bs) 0) (b ∷ bs) ∷ pieces (drop (suc (cond (not v) (1 + end_of bs) 0)) (b ∷ bs)))
      [ true ↦ λ _. refl | false ↦ λ k. rw (add_comm 1 (end_of bs), add-one) (ap (put_first b) (cut_at bs (omega arith))) ] h

  module _ (text : List ℕ) where
    place_of_end : end_of text < length text → position (λ b. eqb b s) text ≡ Some (end_of text)
    place_of_end h = cond-true _ (Some (end_of text)) None (lt-ltb (end_of text) (length text) h)

    no_end : length text ≤ end_of text → position (λ b. eqb b s) text ≡ None
    no_end h = cond-false _ (Some (end_of text)) None (le-ltb (end_of text) (length text) h)

    -- where the byte is found, the first piece ends there
    piece_cut : (end : ℕ) → Some end ≡ position (λ b. eqb b s) text → (end < length text) × (pieces text ≡ take end text ∷ pieces (drop (end + 1) text))
    piece_cut end e =
        ⊎_elim
        (λ (h : end_of text < length text). let p = place_of_end h in let same : end ≡ end_of text = cc in rw same (h, rw add-one (cut_at text h)))
        (λ (h : length text ≤ end_of text). let p = no_end h in cc)
        (cases_lt (end_of text) (length text))

    without : None ≡ position (λ b. eqb b s) text → length text ≤ end_of text
    without e =
        ⊎_elim
        (λ (h : end_of text < length text). let p = place_of_end h in cc)
        (λ (h : length text ≤ end_of text). h)
        (cases_lt (end_of text) (length text))

  -- where it is not found, all is one piece
  module _ (one : (b : ℕ) → put_first b (pieces []) ≡ (b ∷ []) ∷ []) where
    uncut : (b : ℕ) (bs : List ℕ) → length (b ∷ bs) ≤ end_of (b ∷ bs) → pieces (b ∷ bs) ≡ (b ∷ bs) ∷ []
    uncut b [] h =
        step b []
        ∙ elim (eqb b s) as (λ v. 1 ≤ cond (not v) (1 + 0) 0 → cond v ([] ∷ pieces []) (put_first b (pieces [])) ≡ (b ∷ []) ∷ [])
        [ true ↦ λ k. absurd (omega arith) | false ↦ λ _. one b ] h
    uncut b (c ∷ bs) h =
        step b (c ∷ bs)
        ∙ elim (eqb b s) as (λ v. suc (suc (length bs)) ≤ cond (not v) (1 + end_of (c ∷ bs)) 0 →
        cond v ([] ∷ pieces (c ∷ bs)) (put_first b (pieces (c ∷ bs))) ≡ (b ∷ c ∷ bs) ∷ [])
        [ true ↦ λ k. absurd (omega arith) | false ↦ λ k. ap (put_first b) (uncut c bs (omega arith)) ] h

    piece_whole : (b : ℕ) (bs : List ℕ) → None ≡ position (λ b. eqb b s) (b ∷ bs) → pieces (b ∷ bs) ≡ (b ∷ bs) ∷ []
    piece_whole b bs e = uncut b bs (without (b ∷ bs) e)

-- the first line of a text, where a line end is found, and where none is
pub line_cut : (text : List ℕ) (end : ℕ) → Some end ≡ position (λ b. eqb b 10) text → CutLine text (take end text) (drop (end + 1) text)
line_cut text end e =
    let cut = piece_cut 10 lines (λ _ _. refl) text end e in
    record { lines_are = cut.1; shorter = simp length-drop (omega (arith, cut.0)) }

pub line_whole : (text : List ℕ) → 0 < length text → None ≡ position (λ b. eqb b 10) text → CutLine text text []
line_whole [] some e = absurd (omega arith)
line_whole (b ∷ bs) some e = record { lines_are = piece_whole 10 lines (λ _ _. refl) (λ _. refl) b bs e; shorter = some }

-- the first field of a line, where a space is found, and where none is
pub field_cut : (text : List ℕ) (end : ℕ) → Some end ≡ position (λ b. eqb b 32) text → fields text ≡ take end text ∷ fields (drop (end + 1) text)
field_cut text end e = (piece_cut 32 fields (λ _ _. refl) text end e).1

pub field_whole : (text : List ℕ) → None ≡ position (λ b. eqb b 32) text → fields text ≡ text ∷ []
field_whole [] e = refl
field_whole (b ∷ bs) e = piece_whole 32 fields (λ _ _. refl) (λ _. refl) b bs e
