-- The order of a measure's values, and what joining does to it. Assumes nothing.
use Rattle.std.proofs.Common.{◌≡◌, ℕ, true, ◌⊎◌, refl, ◌∙◌, subst, inl, inr, ⊎_elim}
use Rattle.std.proofs.lemmas.Bool.{both_ways, cases_Bool, cond_both}
pub use Rattle.measure.proofs.NoMeasure.{better_is_no_worse}
use Rattle.measure.specs.Scale.{Scale, Value, Laws, NoWorse}
use Rattle.network.specs.Walks.{pick}

module _ (s : Scale) (laws : Laws s) where
  pub no_worse_than_itself : (a : ℕ) → Value s a → NoWorse s a a
  no_worse_than_itself a va = ⊎_elim (λ h. h) (λ h. h) (laws.any_two_compare a a va va)

  pub equal_is_no_worse : (a b : ℕ) → Value s a → a ≡ b → NoWorse s a b
  equal_is_no_worse a b va e = subst (λ x. NoWorse s a x) e (no_worse_than_itself a va)

  pub better_then_no_worse :
      (a b c : ℕ) → Value s a → Value s b → Value s c → s.better a b ≡ true → NoWorse s b c → s.better a c ≡ true
  better_then_no_worse a b c va vb vc t n =
      ⊎_elim (λ h. h)
      (λ h. absurd (both_ways (s.better a b) (laws.order_is_transitive b c a vb vc va n h) t))
      (cases_Bool (s.better a c))

  pub no_worse_then_better :
      (a b c : ℕ) → Value s a → Value s b → Value s c → NoWorse s a b → s.better b c ≡ true → s.better a c ≡ true
  no_worse_then_better a b c va vb vc n t =
      ⊎_elim (λ h. h)
      (λ h. absurd (both_ways (s.better b c) (laws.order_is_transitive c a b vc va vb h n) t))
      (cases_Bool (s.better a c))

  -- nothing but none is as bad as none
  pub none_alone_is_as_bad : (a : ℕ) → Value s a → NoWorse s s.none a → a ≡ s.none
  none_alone_is_as_bad a va h =
      laws.no_worse_both_ways_is_equal a s.none va laws.none_is_a_value (laws.none_is_worst a va) h

  pub pick_is_one : (a b : ℕ) → (pick s a b ≡ a) ⊎ (pick s a b ≡ b)
  pick_is_one a b =
      cond_both (s.better b a) b a (λ x. (x ≡ a) ⊎ (x ≡ b)) (λ t. inr refl) (λ t. inl refl)

  pub pick_is_a_value : (a b : ℕ) → Value s a → Value s b → Value s (pick s a b)
  pick_is_a_value a b va vb = cond_both (s.better b a) b a (λ x. Value s x) (λ t. vb) (λ t. va)

  pub pick_is_no_worse_than_the_first : (a b : ℕ) → Value s a → Value s b → NoWorse s (pick s a b) a
  pick_is_no_worse_than_the_first a b va vb =
      cond_both (s.better b a) b a (λ x. NoWorse s x a) (better_is_no_worse s laws b a vb va) (λ t. no_worse_than_itself a va)

  pub pick_is_no_worse_than_the_second : (a b : ℕ) → Value s a → Value s b → NoWorse s (pick s a b) b
  pick_is_no_worse_than_the_second a b va vb =
      cond_both (s.better b a) b a (λ x. NoWorse s x b) (λ t. no_worse_than_itself b vb) (λ t. t)

  pub start_changes_nothing_behind : (a : ℕ) → Value s a → s.join a s.start ≡ a
  start_changes_nothing_behind a va =
      laws.join_is_commutative a s.start va laws.start_is_a_value ∙ laws.start_changes_nothing a va

  pub none_stays_none_behind : (a : ℕ) → Value s a → s.join a s.none ≡ s.none
  none_stays_none_behind a va =
      laws.join_is_commutative a s.none va laws.none_is_a_value ∙ laws.none_stays_none a va

  pub join_keeps_the_order_behind : (a b c : ℕ) → Value s a → Value s b → Value s c → NoWorse s a b → NoWorse s (s.join c a) (s.join c b)
  join_keeps_the_order_behind a b c va vb vc h =
      rw (laws.join_is_commutative c a vc va, laws.join_is_commutative c b vc vb) (laws.join_keeps_the_order a b c va vb vc h)

  pub join_keeps_the_order_twice :
      (a b c d : ℕ) → Value s a → Value s b → Value s c → Value s d → NoWorse s a b → NoWorse s c d
      → NoWorse s (s.join a c) (s.join b d)
  join_keeps_the_order_twice a b c d va vb vc vd h k =
      laws.order_is_transitive (s.join a c) (s.join b c) (s.join b d)
      (laws.join_is_a_value a c va vc) (laws.join_is_a_value b c vb vc) (laws.join_is_a_value b d vb vd)
      (laws.join_keeps_the_order a b c va vb vc h) (join_keeps_the_order_behind c d b vc vd vb k)

  -- what is joined on in front never makes a value better
  pub joining_is_never_better : (a b : ℕ) → Value s a → Value s b → NoWorse s b (s.join a b)
  joining_is_never_better a b va vb =
      subst (λ x. NoWorse s x (s.join a b)) (laws.start_changes_nothing b vb)
      (laws.join_keeps_the_order s.start a b laws.start_is_a_value va vb (laws.start_is_best a va))
