-- Each field is the first of those that are left after the fields before it. Assumes nothing.
use Rattle.std.proofs.Common.{◌≡◌, ℕ, suc, List, Option, Bor, ◌∙◌}
use Rattle.std.specs.Option.{option_map}
use Rattle.roadtext.specs.Text.{fields, left, field}
use Rattle.roadtext.proofs.FieldNumbers.{field_on}
use Rattle.roadtext.proofs.fields.Fields.of.Goals as goal

-- the fields that are left
abbrev what_is_left : Option (Bor (List ℕ)) → List (List ℕ)
what_is_left o = left (option_map (λ x. x.now) o)

pub invariant_of-result : goal.invariant_of-result
invariant_of-result c =
    let fs : List (List ℕ) = fields c.args.line.now in
    let after_letter = what_is_left c.cut.result.1 in
    let after_second = what_is_left c.cut-2.result.1 in
    let after_third = what_is_left c.cut-3.result.1 in
    let after_fourth = what_is_left c.cut-4.result.1 in
    let from_letter : (i : ℕ) → field after_letter (suc i) ≡ field fs (suc (suc i)) = λ i. field_on fs after_letter i c.cut.ensures.after in
    let from_second : (i : ℕ) → field after_second (suc i) ≡ field fs (suc (suc (suc i))) =
    λ i. field_on after_letter after_second i c.cut-2.ensures.after ∙ from_letter (suc i) in
    let from_third : (i : ℕ) → field after_third (suc i) ≡ field fs (suc (suc (suc (suc i)))) =
    λ i. field_on after_second after_third i c.cut-3.ensures.after ∙ from_second (suc i) in
    let from_fourth : (i : ℕ) → field after_fourth (suc i) ≡ field fs (suc (suc (suc (suc (suc i))))) =
    λ i. field_on after_third after_fourth i c.cut-4.ensures.after ∙ from_third (suc i) in
    record {
      second_is = c.cut-2.ensures.first ∙ from_letter 0;
      third_is = c.cut-3.ensures.first ∙ from_second 0;
      fourth_is = c.cut-4.ensures.first ∙ from_third 0;
      fifth_is = c.cut-5.ensures.first ∙ from_fourth 0;
    }
