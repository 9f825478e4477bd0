-- The first check of a list that fails. Assumes nothing.
use Rattle.std.proofs.Common.{◌≡◌, ℕ, true, false, ◌⊎◌, List, [], ◌∷◌, ◌++◌, Ok, Err, refl, ap, inl, inr, ⊎_elim}
use Rattle.std.proofs.lemmas.Bool.{cases_Bool}
use Rattle.roadtext.specs.declared.fault.Cause.{Cause}
use Rattle.roadtext.specs.Lines.{Check, passed}
use Rattle.roadtext.specs.FirstFault.{AllPass, FailsFirst}
use Rattle.roadtext.proofs.Passed.{fault_of}

pub passed_where_all_pass : {A : Type 0} (cs : List Check) (x : A) → AllPass cs → passed cs x ≡ Ok x
passed_where_all_pass [] x t = refl
passed_where_all_pass (c ∷ cs) x (h, t) = simp h (passed_where_all_pass cs x t)

pub passed_at_a_failing :
    {A : Type 0} (cs : List Check) (c : Check) (more : List Check) (x : A) → AllPass cs → c.fails ≡ true
    → passed (cs ++ (c ∷ more)) x ≡ Err (fault_of c)
passed_at_a_failing [] c more x t e = simp e
passed_at_a_failing (d ∷ cs) c more x (h, t) e = simp h (passed_at_a_failing cs c more x t e)

first_here : (c : Check) (cs : List Check) → c.fails ≡ true → FailsFirst (c ∷ cs) c.field_number c.cause
first_here c cs h = record {
  earlier = [];
  failing = c;
  later = cs;
  in_order = refl;
  earlier_pass = tt;
  it_fails = h;
  its_field = refl;
  its_cause = refl;
}

first_later :
    (c : Check) (cs : List Check) (field : ℕ) (cause : Cause) → c.fails ≡ false → FailsFirst cs field cause → FailsFirst (c ∷ cs) field cause
first_later c cs field cause h r = record {
  earlier = c ∷ r.earlier;
  failing = r.failing;
  later = r.later;
  in_order = ap (λ l. c ∷ l) r.in_order;
  earlier_pass = (h, r.earlier_pass);
  it_fails = r.it_fails;
  its_field = r.its_field;
  its_cause = r.its_cause;
}

-- checks have a first that fails, or all pass
pub fails_or_passes : (cs : List Check) → ((field : ℕ) × (cause : Cause) × FailsFirst cs field cause) ⊎ AllPass cs
fails_or_passes [] = inr tt
fails_or_passes (c ∷ cs) =
    ⊎_elim (λ h. inl (c.field_number, c.cause, first_here c cs h))
    (λ h. ⊎_elim (λ r. inl (r.0, r.1, first_later c cs r.0 r.1 h r.2)) (λ t. inr (h, t)) (fails_or_passes cs))
    (cases_Bool c.fails)
