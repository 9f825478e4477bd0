-- Lists of checks of a line: what a list says of another value, and of a longer list. Assumes nothing.
use Rattle.std.proofs.Common.{◌≡◌, true, false, cond, List, [], ◌∷◌, ◌++◌, IsErrAnd, IfOk, Ok, Err, Result, refl, ap, ◌∙◌}
use Rattle.std.specs.List.{AllByRecursion}
use Rattle.std.proofs.lemmas.Result.{err_from_is_err_and}
use Rattle.roadtext.specs.declared.parts.LineFault.{LineFault}
use Rattle.roadtext.specs.Lines.{Check, passed}

-- the fault of a check that fails
abbrev pub fault_of : Check → LineFault
fault_of c = record { field = c.field_number; cause = c.cause }

module _ {A B : Type 0} where
  -- no check fails, whatever the value
  pub passes_with : (cs : List Check) (x y : A) (z : B) → Ok y ≡ passed cs x → Ok z ≡ passed cs z
  passes_with [] x y z h = refl
  passes_with (c ∷ cs) x y z h =
      elim c.fails
      as (λ b. Ok y ≡ cond b (Err (fault_of c)) (passed cs x) → Ok z ≡ cond b (Err (fault_of c)) (passed cs z))
      [ true ↦ λ e. cc | false ↦ λ e. passes_with cs x y z e ]
      h

  -- the same check fails, whatever the value
  pub fails_with : (cs : List Check) (x : A) (z : B) (f : LineFault) → Err f ≡ passed cs x → Err f ≡ passed cs z
  fails_with [] x z f h = cc
  fails_with (c ∷ cs) x z f h =
      elim c.fails
      as (λ b. Err f ≡ cond b (Err (fault_of c)) (passed cs x) → Err f ≡ cond b (Err (fault_of c)) (passed cs z))
      [ true ↦ λ e. cc | false ↦ λ e. fails_with cs x z f e ]
      h

  -- after checks that pass come the others
  pub passes_on : (cs ds : List Check) (x y : A) (z : B) (r : Result B LineFault) → Ok y ≡ passed cs x → r ≡ passed ds z → r ≡ passed (cs ++ ds) z
  passes_on [] ds x y z r h k = k
  passes_on (c ∷ cs) ds x y z r h k =
      elim c.fails
      as (λ b. Ok y ≡ cond b (Err (fault_of c)) (passed cs x) → r ≡ cond b (Err (fault_of c)) (passed (cs ++ ds) z))
      [ true ↦ λ e. cc | false ↦ λ e. passes_on cs ds x y z r e k ]
      h

  -- after a check that fails nothing else matters
  pub fails_first : (cs ds : List Check) (x : A) (z : B) (f : LineFault) → Err f ≡ passed cs x → Err f ≡ passed (cs ++ ds) z
  fails_first [] ds x z f h = cc
  fails_first (c ∷ cs) ds x z f h =
      elim c.fails
      as (λ b. Err f ≡ cond b (Err (fault_of c)) (passed cs x) → Err f ≡ cond b (Err (fault_of c)) (passed (cs ++ ds) z))
      [ true ↦ λ e. cc | false ↦ λ e. fails_first cs ds x z f e ]
      h

-- the value of checks that pass
pub value_passed : {A : Type 0} (cs : List Check) (x y : A) → Ok y ≡ passed cs x → y ≡ x
value_passed cs x y h = let k = passes_with cs x y x h in cc

-- what a `?` passes on
pub passed_on : {B : Type 0} (r : Result B LineFault) (f : LineFault) → IsErrAnd r (λ y. y ≡ f) → r ≡ Err f
passed_on r f h = let p = err_from_is_err_and r h in p.1 ∙ ap Err p.2

-- what a `?` passes on from the same checks with another value
pub goes_up : {A B : Type 0} (cs : List Check) (x : A) (z : B) (r : Result B LineFault) (f : LineFault) → IsErrAnd r (λ y. y ≡ f) → Err f ≡ passed cs x → r ≡ passed cs z
goes_up cs x z r f h e = passed_on r f h ∙ fails_with cs x z f e

-- what is shown of the value by the checks that have passed
pub passed_gives : {A : Type 0} (cs : List Check) (z : A) (P : A → Type 0) → (Ok z ≡ passed cs z → P z) → IfOk (passed cs z) P
passed_gives [] z P h = h refl
passed_gives (c ∷ cs) z P h =
    elim c.fails
    as (λ b. (Ok z ≡ cond b (Err (fault_of c)) (passed cs z) → P z) → IfOk (cond b (Err (fault_of c)) (passed cs z)) P)
    [ true ↦ λ k. tt | false ↦ λ k. passed_gives cs z P k ]
    h

-- where a list of checks passes, each of them does
pub each_passes : {A : Type 0} (cs : List Check) (z : A) → Ok z ≡ passed cs z → AllByRecursion (λ c. c.fails ≡ false) cs
each_passes [] z h = tt
each_passes (c ∷ cs) z h =
    elim c.fails
    as (λ b. Ok z ≡ cond b (Err (fault_of c)) (passed cs z) → (b ≡ false) × AllByRecursion (λ c. c.fails ≡ false) cs)
    [ true ↦ λ e. cc | false ↦ λ e. (refl, each_passes cs z e) ]
    h
