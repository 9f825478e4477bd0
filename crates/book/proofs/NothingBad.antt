-- Counts within their limits, districts and borders as a network has them: none of their words is bad. Assumes nothing.
use Rattle.std.proofs.Common.{◌≡◌, ℕ, zero, suc, ◌+◌, ◌*◌, ◌<◌, ◌≤◌, false, not, eqb, List, [], ◌∷◌, length, get_or, take, refl, ap, ◌∙◌, subst, arith}
use Rattle.std.specs.List.{AllByRecursion}
use Rattle.std.proofs.lemmas.Bool.{or_from, not_from_true, eq-eqb, ne_eqb, lt-leb, le-ltb}
use Rattle.std.proofs.ByRecursion.{All-get_or}
use Rattle.drawing.specs.Edits.{within}
use Rattle.network.specs.Lists.{In, Distinct}
use Rattle.network.proofs.Lists.{getD_in}
use Rattle.book.specs.Layout.{word, places_at, order_at, words_in, total}
use Rattle.book.specs.Bad.{among, count_faults, bad_count, bad_district, bad_border}
use Rattle.book.specs.Ready.{Ready}
use Rattle.book.specs.declared.counts.Counts.{Counts}
use Rattle.drawing.proofs.Within.{is_within}
use Rattle.book.proofs.SectionWords.{word_of_section}

pub no_count_is_bad : (ws : List ℕ) (c : Counts) → Ready ws c → 1 ≤ c.districts → (i : ℕ) → i < 8 → bad_count c i ≡ false
no_count_is_bad ws c r some i l =
    All-get_or (λ b. b ≡ false) (count_faults c) i false l (
      refl,
      (
        refl,
        (
          not_from_true (within 1 4096 c.junctions) (is_within 1 4096 c.junctions r.some_junctions r.few_junctions),
          (
            not_from_true (within 1 64 c.districts) (is_within 1 64 c.districts some r.few_districts),
            (
              le-ltb c.junctions c.borders r.few_borders,
              (
                le-ltb (c.junctions * c.borders) c.border_entries r.few_border_entries,
                (
                  le-ltb (c.junctions * c.junctions) c.district_entries r.few_district_entries,
                  (
                    not_from_true (eqb c.words (total c)) (eq-eqb c.words (total c) r.words_are_counted),
                    tt,
                  ),
                ),
              ),
            ),
          ),
        ),
      ),
    )

-- an element of a list without repeats is not among those before it
pub none_stood_before : (xs : List ℕ) (j : ℕ) → Distinct xs → j < length xs → among (get_or xs j 0) (take j xs) ≡ false
none_stood_before [] j d l = absurd (omega arith)
none_stood_before (x ∷ xs) zero d l = refl
none_stood_before (x ∷ xs) (suc j) (other, d) l =
    or_from (eqb (get_or xs j 0) x) (among (get_or xs j 0) (take j xs))
    (ne_eqb (get_or xs j 0) x (λ e. other (subst (λ y. In y xs) e (getD_in 0 xs j (omega arith)))))
    (none_stood_before xs j d (omega arith))

module _ (ws : List ℕ) (c : Counts) where
  pub no_district_is_bad : (places : List ℕ) → words_in (places_at c) ws ≡ places → length places ≡ c.junctions
      → AllByRecursion (λ d. d < c.districts) places → (j : ℕ) → j < c.junctions → bad_district ws c j ≡ false
  no_district_is_bad places lie long below j l =
      let is : word ws ((places_at c).first + j) ≡ get_or places j 0 = word_of_section (places_at c) ws places j lie l in
      let small : get_or places j 0 < c.districts = All-get_or (λ d. d < c.districts) places j 0 (omega arith) below in
      lt-leb c.districts (word ws ((places_at c).first + j)) (omega arith)

  pub no_border_is_bad : (order : List ℕ) → words_in (order_at c) ws ≡ order → length order ≡ c.borders
      → AllByRecursion (λ v. (1 ≤ v) × (v ≤ c.junctions)) order → Distinct order → (j : ℕ) → j < c.borders → bad_border ws c j ≡ false
  no_border_is_bad order lie long junctions distinct j l =
      let x : ℕ = word ws ((order_at c).first + j) in
      let is : x ≡ get_or order j 0 = word_of_section (order_at c) ws order j lie l in
      let in_range : (1 ≤ get_or order j 0) × (get_or order j 0 ≤ c.junctions) =
      All-get_or (λ v. (1 ≤ v) × (v ≤ c.junctions)) order j 0 (omega arith) junctions in
      or_from (not (within 1 c.junctions x)) (among x (take j (words_in (order_at c) ws)))
      (not_from_true (within 1 c.junctions x)
      (ap (within 1 c.junctions) is ∙ is_within 1 c.junctions (get_or order j 0) in_range.0 in_range.1))
      (ap (λ y. among y (take j (words_in (order_at c) ws))) is
      ∙ ap (λ l. among (get_or order j 0) (take j l)) lie
      ∙ none_stood_before order j distinct (omega arith))
