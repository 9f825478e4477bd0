-- Metres and clearance keep the laws. Assumes nothing.
use Rattle.std.specs.Prelude.{ℕ, ◌*◌, ◌<◌, ◌≤◌, List, [], ◌∷◌, length, refl}
use Rattle.std.proofs.Common.{arith}
use Rattle.std.proofs.lemmas.Bool.Decides.{nat_tests}
use Rattle.measure.specs.Scale.{Laws, AllLawful, joined}
use Rattle.measure.specs.Measures.{metres, clearance}

-- lawful roads are at most a million metres each
metres_grow : (ws : List ℕ) → AllLawful metres ws → joined metres ws ≤ 1000000 * length ws
metres_grow [] t = omega arith
metres_grow (w ∷ ws) (h, t) = let k = metres_grow ws t in grind (arith, nat_tests)

-- the lowest of lawful heights is at least one centimetre
clearance_stays : (ws : List ℕ) → AllLawful clearance ws → 0 < joined clearance ws
clearance_stays [] t = omega arith
clearance_stays (w ∷ ws) (h, t) = let k = clearance_stays ws t in grind (arith, nat_tests)

pub metres_laws : Laws metres
metres_laws = record {
  values_are_small = λ a h. grind (arith, nat_tests);
  start_is_a_value = refl;
  none_is_a_value = refl;
  lawful_is_a_value = λ a h. grind (arith, nat_tests);
  join_is_a_value = λ a b h k. grind (arith, nat_tests);
  any_two_compare = λ a b h k. grind (arith, nat_tests);
  order_is_transitive = λ a b c h k l p q. grind (arith, nat_tests);
  no_worse_both_ways_is_equal = λ a b h k p q. grind (arith, nat_tests);
  start_is_best = λ a h. grind (arith, nat_tests);
  none_is_worst = λ a h. grind (arith, nat_tests);
  join_is_associative = λ a b c h k l. omega arith;
  join_is_commutative = λ a b h k. omega arith;
  start_changes_nothing = λ a h. grind (arith, nat_tests);
  none_stays_none = λ a h. omega arith;
  join_keeps_the_order = λ a b c h k l p. grind (arith, nat_tests);
  few_roads_are_not_none = λ ws h k e. let g = metres_grow ws h in omega arith;
}

pub clearance_laws : Laws clearance
clearance_laws = record {
  values_are_small = λ a h. grind (arith, nat_tests);
  start_is_a_value = refl;
  none_is_a_value = refl;
  lawful_is_a_value = λ a h. grind (arith, nat_tests);
  join_is_a_value = λ a b h k. grind (arith, nat_tests);
  any_two_compare = λ a b h k. grind (arith, nat_tests);
  order_is_transitive = λ a b c h k l p q. grind (arith, nat_tests);
  no_worse_both_ways_is_equal = λ a b h k p q. grind (arith, nat_tests);
  start_is_best = λ a h. grind (arith, nat_tests);
  none_is_worst = λ a h. grind (arith, nat_tests);
  join_is_associative = λ a b c h k l. omega arith;
  join_is_commutative = λ a b h k. omega arith;
  start_changes_nothing = λ a h. grind (arith, nat_tests);
  none_stays_none = λ a h. omega arith;
  join_keeps_the_order = λ a b c h k l p. grind (arith, nat_tests);
  few_roads_are_not_none = λ ws h k e. let g = clearance_stays ws h in omega arith;
}
