-- The checks of each kind of line pass where its fields write what they must. Assumes nothing.
use Rattle.std.proofs.Common.{◌≡◌, ℕ, ◌%◌, ◌<◌, ◌≤◌, true, false, not, eqb, ltb, List, [], ◌∷◌, is_some, Some, unwrap_or, sym, refl, ap, ◌∙◌, ap₂}
use Rattle.std.proofs.lemmas.Bool.{and_from, eq-eqb, ne_eqb, lt-ltb, le-ltb}
use Rattle.measure.specs.Scale.{Scale}
use Rattle.drawing.specs.Edits.{within}
use Rattle.roadtext.specs.declared.parts.Arc.{Arc}
use Rattle.roadtext.specs.declared.parts.Move.{Move}
use Rattle.roadtext.specs.declared.parts.Ask.{Ask}
use Rattle.roadtext.specs.Text.{number}
use Rattle.roadtext.specs.Lines.{p_checks, a_checks, d_checks, q_checks, arc_in, move_in, ask_in}
use Rattle.roadtext.specs.Reading.{is_twin, reversed}
use Rattle.roadtext.specs.FirstFault.{AllPass}
use Rattle.roadtext.specs.Written.{JunctionOf, WritableRoad}
use Rattle.drawing.proofs.Within as limits

-- the field writes the number
abbrev pub Writes : List ℕ → ℕ → Type 0
Writes f x = number f ≡ Some x

-- the fields of a line, letter first
abbrev pub head_fields : List ℕ → List ℕ → List (List ℕ)
head_fields f g = (112 ∷ []) ∷ (115 ∷ 112 ∷ []) ∷ f ∷ g ∷ []

abbrev pub arc_fields : List ℕ → List ℕ → List ℕ → List (List ℕ)
arc_fields f g h = (97 ∷ []) ∷ f ∷ g ∷ h ∷ []

abbrev pub two_fields : ℕ → List ℕ → List ℕ → List (List ℕ)
two_fields letter f g = (letter ∷ []) ∷ f ∷ g ∷ []

abbrev pub arc : ℕ → ℕ → ℕ → Arc
arc u v x = record { from = u; to = v; worth = x }

-- a field that writes the number x
module _ (f : List ℕ) (x : ℕ) (e : Writes f x) where
  is_number : not (is_some (number f)) ≡ false
  is_number = ap (λ o. not (is_some o)) e

  pub its_value : unwrap_or (number f) 0 ≡ x
  its_value = ap (λ o. unwrap_or o 0) e

  is_within : (low high : ℕ) → (low ≤ x) × (x ≤ high) → not (within low high (unwrap_or (number f) 0)) ≡ false
  is_within low high (h, k) = ap (λ y. not (within low high y)) its_value ∙ ap not (limits.is_within low high x h k)

pub head_passes :
    (places : ℕ) (f g : List ℕ) (n a : ℕ) → Writes f n → Writes g a → JunctionOf 4096 n → n ≤ places → a % 2 ≡ 0
    → AllPass (p_checks places (head_fields f g))
head_passes places f g n a p q few fits even = (
  refl,
  (
    is_number f n p,
    (
      is_within f n p 1 4096 few,
      (
        ap (λ y. ltb places y) (its_value f n p) ∙ le-ltb places n fits,
        (
          is_number g a q,
          (ap (λ y. not (eqb (y % 2) 0)) (its_value g a q) ∙ ap not (eq-eqb (a % 2) 0 even), (refl, tt)),
        ),
      ),
    ),
  ),
)

module _ (f g h : List ℕ) (a : Arc) (p : Writes f a.from) (q : Writes g a.to) (r : Writes h a.worth) where
  pub arc_passes : (s : Scale) (n : ℕ) → WritableRoad s n a → AllPass (a_checks s n (arc_fields f g h))
  arc_passes s n road = (
    is_number f a.from p,
    (
      is_within f a.from p 1 n road.from_a_junction,
      (
        is_number g a.to q,
        (
          is_within g a.to q 1 n road.to_a_junction,
          (
            ap₂ eqb (its_value f a.from p) (its_value g a.to q) ∙ ne_eqb a.from a.to road.ends_differ,
            (
              is_number h a.worth r,
              (ap (λ y. not (s.lawful y)) (its_value h a.worth r) ∙ ap not road.lawful_worth, (refl, tt)),
            ),
          ),
        ),
      ),
    ),
  )

  pub arc_is_read : arc_in (arc_fields f g h) ≡ a
  arc_is_read =
      ap (λ y. arc y (unwrap_or (number g) 0) (unwrap_or (number h) 0)) (its_value f a.from p)
      ∙ ap₂ (λ y z. arc a.from y z) (its_value g a.to q) (its_value h a.worth r)

-- an arc with its ends exchanged is a twin, and can be written
pub reversed_is_twin : (a : Arc) → is_twin a (reversed a) ≡ true
reversed_is_twin a =
    and_from _ _ (eq-eqb a.from a.from refl) (and_from _ _ (eq-eqb a.to a.to refl) (eq-eqb a.worth a.worth refl))

pub reversed_is_writable : (s : Scale) (n : ℕ) (a : Arc) → WritableRoad s n a → WritableRoad s n (reversed a)
reversed_is_writable s n a road = record {
  from_a_junction = road.to_a_junction;
  to_a_junction = road.from_a_junction;
  ends_differ = λ e. road.ends_differ (sym e);
  lawful_worth = road.lawful_worth;
  at_most_ten_digits = road.at_most_ten_digits;
}

module _ (letter : ℕ) (f g : List ℕ) where
  module _ (m : Move) (p : Writes f m.junction) (q : Writes g m.district) where
    pub move_passes : (n : ℕ) → JunctionOf n m.junction → m.district < 64 → AllPass (d_checks n (two_fields letter f g))
    move_passes n junction low = (
      is_number f m.junction p,
      (
        is_within f m.junction p 1 n junction,
        (
          is_number g m.district q,
          (ap (λ y. not (ltb y 64)) (its_value g m.district q) ∙ ap not (lt-ltb m.district 64 low), (refl, tt)),
        ),
      ),
    )

    pub move_is_read : move_in (two_fields letter f g) ≡ m
    move_is_read = ap₂ (λ y z. let r : Move = record { junction = y; district = z } in r) (its_value f m.junction p) (its_value g m.district q)

  module _ (a : Ask) (p : Writes f a.from) (q : Writes g a.to) where
    pub ask_passes : (n : ℕ) → JunctionOf n a.from → JunctionOf n a.to → AllPass (q_checks n (two_fields letter f g))
    ask_passes n from to = (
      is_number f a.from p,
      (
        is_within f a.from p 1 n from,
        (is_number g a.to q, (is_within g a.to q 1 n to, (refl, tt))),
      ),
    )

    pub ask_is_read : ask_in (two_fields letter f g) ≡ a
    ask_is_read = ap₂ (λ y z. let r : Ask = record { from = y; to = z } in r) (its_value f a.from p) (its_value g a.to q)
