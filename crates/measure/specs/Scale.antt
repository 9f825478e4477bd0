-- What a measure is, and the laws that every measure owes. Assumes nothing.
use Rattle.std.specs.Prelude.{◌≡◌, ℕ, ◌^◌, ◌<◌, ◌≤◌, Bool, true, false, cond, ◌⊎◌, List, [], ◌∷◌, length, ◌≢◌}

-- A measure says how roads are valued. This is one as mathematics has it: its tag, the value of the walk of no road,
-- the value that stands for no walk, which words are values, which of them a road may have, which of two is better, and
-- how the values of two walks, one after the other, join into one.
pub record Scale : Type 0 where
  pub tag : ℕ
  pub start : ℕ
  pub none : ℕ
  pub value : ℕ → Bool
  pub lawful : ℕ → Bool
  pub better : ℕ → ℕ → Bool
  pub join : ℕ → ℕ → ℕ

-- the tag, the start and the none of a measure are these three numbers
pub record HasConstants (s : Scale) (a b c : ℕ) : Type 0 where
  pub tag : a ≡ s.tag
  pub start : b ≡ s.start
  pub none : c ≡ s.none

-- w is one of the measure's values
abbrev pub Value : Scale → ℕ → Type 0
Value s w = s.value w ≡ true

-- w is a value that a road may have
abbrev pub Lawful : Scale → ℕ → Type 0
Lawful s w = s.lawful w ≡ true

-- a is no worse than b: b is not better
abbrev pub NoWorse : Scale → ℕ → ℕ → Type 0
NoWorse s a b = s.better b a ≡ false

-- what a word counts as: itself if it is a value, else none
abbrev pub counts : Scale → ℕ → ℕ
counts s w = cond (s.value w) w s.none

-- each word of a list is lawful for a road
abbrev pub AllLawful : Scale → List ℕ → Type 0
AllLawful s [] = Unit {0}
AllLawful s (w ∷ ws) = Lawful s w × AllLawful s ws

-- the values of a list joined into one; of no value, start
abbrev pub joined : Scale → List ℕ → ℕ
joined s [] = s.start
joined s (w ∷ ws) = s.join w (joined s ws)

-- The laws. A walk that passes no junction twice has at most 4,095 roads, one fewer than there may be junctions.
pub record Laws (s : Scale) : Type 0 where
  -- what is a value
  pub values_are_small : (a : ℕ) → Value s a → a < 2 ^ 63
  pub start_is_a_value : Value s s.start
  pub none_is_a_value : Value s s.none
  pub lawful_is_a_value : (a : ℕ) → Lawful s a → Value s a
  pub join_is_a_value : (a b : ℕ) → Value s a → Value s b → Value s (s.join a b)
  -- the order
  pub any_two_compare : (a b : ℕ) → Value s a → Value s b → NoWorse s a b ⊎ NoWorse s b a
  pub order_is_transitive : (a b c : ℕ) → Value s a → Value s b → Value s c → NoWorse s a b → NoWorse s b c → NoWorse s a c
  pub no_worse_both_ways_is_equal : (a b : ℕ) → Value s a → Value s b → NoWorse s a b → NoWorse s b a → a ≡ b
  pub start_is_best : (a : ℕ) → Value s a → NoWorse s s.start a
  pub none_is_worst : (a : ℕ) → Value s a → NoWorse s a s.none
  -- joining
  pub join_is_associative : (a b c : ℕ) → Value s a → Value s b → Value s c → s.join (s.join a b) c ≡ s.join a (s.join b c)
  pub join_is_commutative : (a b : ℕ) → Value s a → Value s b → s.join a b ≡ s.join b a
  pub start_changes_nothing : (a : ℕ) → Value s a → s.join s.start a ≡ a
  pub none_stays_none : (a : ℕ) → Value s a → s.join s.none a ≡ s.none
  -- joining and the order
  pub join_keeps_the_order : (a b c : ℕ) → Value s a → Value s b → Value s c → NoWorse s a b → NoWorse s (s.join a c) (s.join b c)
  -- a walk of lawful roads has a value other than none
  pub few_roads_are_not_none : (ws : List ℕ) → AllLawful s ws → length ws ≤ 4095 → joined s ws ≢ s.none
