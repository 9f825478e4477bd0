-- Each digit read makes ten of one and adds itself. Assumes nothing.
use Rattle.std.proofs.Common.{◌≡◌, true, false, not, ap, get_or, arith}
use Rattle.drawing.specs.Edits.{within}
use Rattle.drawing.proofs.Within.{between}
use Rattle.roadtext.proofs.Numbers.{no_number_here, digit_read, digits_on, power_on, digits_fit}
use Rattle.roadtext.proofs.fields.read_digits.Goals as goal

pub overflow_mul-n : goal.overflow_mul-n
overflow_mul-n c = omega (arith, digits_fit c.loop-b.n 0 c.loop-b.b-index c.loop-b.invariant.2 (omega arith) (omega arith))

pub overflow_add-n : goal.overflow_add-n
overflow_add-n c =
    let digit : within 48 57 (get_or c.args.text.now c.loop-b.b-index 0) ≡ true = cc in
    let range = between 48 57 (get_or c.args.text.now c.loop-b.b-index 0) (ap not digit) in
    record { fits = digits_fit c.loop-b.n c.from.result c.loop-b.b-index c.loop-b.invariant.2 (omega arith) (omega arith) }

pub returns-then-not-is_ascii_digit : goal.returns-then-not-is_ascii_digit
returns-then-not-is_ascii_digit c =
    let other : within 48 57 (get_or c.args.text.now c.loop-b.b-index 0) ≡ false = cc in
    no_number_here c.args.text.now c.loop-b.b-index c.loop-b.n c.loop-b.invariant.0 c.loop-b.invariant.1 c.loop-b-test.true other

pub loop-b-preserved : goal.loop-b-preserved
loop-b-preserved c =
    let digit : within 48 57 (get_or c.args.text.now c.loop-b.b-index 0) ≡ true = cc in
    let range = between 48 57 (get_or c.args.text.now c.loop-b.b-index 0) (ap not digit) in (
      rw c.from.ensures (digit_read c.args.text.now c.loop-b.b-index c.loop-b.n c.loop-b.invariant.0 c.loop-b.invariant.1 c.loop-b-test.true),
      digits_on c.args.text.now c.loop-b.b-index c.loop-b.n c.loop-b.invariant.0 c.loop-b.invariant.1 c.loop-b-test.true digit,
      power_on c.loop-b.n c.from.result c.loop-b.b-index c.loop-b.invariant.2 (omega arith),
    )
