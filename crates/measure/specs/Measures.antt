-- The two measures. Assumes nothing.
use Rattle.std.specs.Prelude.{◌≡◌, ◌+◌, min, ◌&&◌, nat_le, nat_lt}
use Rattle.measure.specs.Scale.{Scale}

-- The length of a walk in metres: the less, the better; the lengths of the parts add up, but never beyond none.
abbrev pub metres : Scale
metres = record {
  tag = 1;
  start = 0;
  none = 4294967295;
  value = λ w. nat_le w 4294967295;
  lawful = λ w. nat_le 1 w && nat_le w 1000000;
  better = λ a b. nat_lt a b;
  join = λ a b. min (a + b) 4294967295;
}

-- The clearance of a walk in centimetres, the height of its lowest road: the more, the better.
abbrev pub clearance : Scale
clearance = record {
  tag = 2;
  start = 65535;
  none = 0;
  value = λ w. nat_le w 65535;
  lawful = λ w. nat_le 1 w && nat_le w 2000;
  better = λ a b. nat_lt b a;
  join = λ a b. min a b;
}

-- no two measures share a tag
abbrev pub TagsDiffer : Type 0
TagsDiffer = metres.tag ≡ clearance.tag → ⊥
