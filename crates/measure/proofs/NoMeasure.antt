-- No measure has the order "clearance first, then metres". Assumes nothing.
use Rattle.std.proofs.Common.{◌≡◌, ℕ, true, refl, ⊎_elim}
use Rattle.std.proofs.lemmas.Bool.{both_ways}
use Rattle.measure.specs.Scale.{Scale, Value, Laws, NoWorse}
use Rattle.measure.specs.Pairs.{Pair, pair, pair_join, HasThePairs, ClearanceThenMetresIsNoMeasure}

-- what is better is no worse
pub better_is_no_worse : (s : Scale) → Laws s → (a b : ℕ) → Value s a → Value s b → s.better a b ≡ true → NoWorse s a b
better_is_no_worse s laws a b va vb t =
    ⊎_elim (λ h. h) (λ h. absurd (both_ways (s.better a b) h t)) (laws.any_two_compare a b va vb)

module _ (s : Scale) (laws : Laws s) (has : HasThePairs s) where
  high : Pair
  high = pair 400 900

  low : Pair
  low = pair 300 100

  impossible : ⊥
  unfolding high low
  impossible =
      let code = has.code in
      let value = has.code_is_a_value in
      let beats = better_is_no_worse s laws (code high) (code low) (value high) (value low) (has.code_keeps_better high low) in
      let kept = laws.join_keeps_the_order (code high) (code low) (code low) (value high) (value low) (value low) beats in
      both_ways (s.better (s.join (code low) (code low)) (s.join (code high) (code low))) kept
      (simp has.code_keeps_join (has.code_keeps_better (pair_join low low) (pair_join high low)))

pub no_measure : ClearanceThenMetresIsNoMeasure
no_measure = record { it_beats = refl; joined_it_loses = refl; no_measure_has_it = impossible }
