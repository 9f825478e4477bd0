-- What a word counts as is a value. Assumes nothing.
use Rattle.std.proofs.Common.{◌≡◌, ℕ}
use Rattle.std.proofs.lemmas.Bool.{cond_both, cond-true}
use Rattle.measure.specs.Scale.{Scale, Value, Laws, counts}

-- a value counts as itself
pub value_counts : (s : Scale) (x : ℕ) → Value s x → counts s x ≡ x
value_counts s x v = cond-true (s.value x) x s.none v

pub counts_is_a_value : (s : Scale) (laws : Laws s) (x : ℕ) → Value s (counts s x)
counts_is_a_value s laws x = cond_both (s.value x) x s.none (Value s) (λ t. t) (λ f. laws.none_is_a_value)
