-- The number so far, with the digits that are left, gives what all digits give. Assumes nothing.
use Rattle.std.proofs.Common.{◌≡◌, ◌^◌, ◌<◌, drop}
use Rattle.roadtext.specs.Text.{all_digits, digits_after}
use Rattle.roadtext.proofs.fields.read_digits.Given as goal

abbrev pub invariant-loop-b : goal.invariant-loop-b
invariant-loop-b l =
    (digits_after l.n (drop l.b-index l.text) ≡ digits_after 0 l.text)
    × (all_digits (drop l.b-index l.text) ≡ all_digits l.text)
    × (l.n < 10 ^ l.b-index)
