-- The fault that reading a text gives is the text's first. Assumes nothing.
use Rattle.std.proofs.Common.{◌≡◌, ℕ, ◌+◌, ◌≤◌, Bool, true, false, cond, ◌⊎◌, List, [], ◌∷◌, ◌++◌, length, Ok, Err, Result, sym, refl, ap, ◌∙◌, subst, ap₂, inl, inr, ⊎_elim, append-nil, arith}
use Rattle.std.proofs.lemmas.Bool.{cases_Bool, cases_lt, both_ways, lt-ltb, le-ltb}
use Rattle.measure.specs.Scale.{Scale}
use Rattle.roadtext.specs.declared.fault.Cause.{Cause}
use Rattle.roadtext.specs.declared.fault.Cause.TheVariants.{Letter, TooLong}
use Rattle.roadtext.specs.declared.fault.Fault.{Fault}
use Rattle.roadtext.specs.declared.parts.Room.{Room}
use Rattle.roadtext.specs.declared.parts.Stage.{Stage}
use Rattle.roadtext.specs.declared.parts.Stage.TheVariants.{Head, Arc as ArcAwaited, Twin, Tail, Asks}
use Rattle.roadtext.specs.Text.{lines, fields}
use Rattle.roadtext.specs.Lines.{Check, passed}
use Rattle.roadtext.specs.Reading.{State, nothing_read, fault}
use Rattle.roadtext.specs.Reading.{is_comment, line_checks, after_line, at_line, read_line, ended, then_lines, read_lines, read_text}
use Rattle.roadtext.specs.FirstFault.{checks_of, with_line, with_lines, AllPass, NoFault, FailsFirst}
use Rattle.roadtext.specs.FirstFault.{AtALine, awaits, FirstFault, Faultless, FaultIsTheFirst}
use Rattle.roadtext.proofs.FirstFailing.{passed_where_all_pass, passed_at_a_failing, fails_or_passes}

-- At the end of the lines.

ended_while_awaiting :
    (l : ℕ) (st : State) (stage : Stage) → awaits stage ≡ true → ended l st stage ≡ Err (fault l 1 Letter)
ended_while_awaiting l st Head e = refl
ended_while_awaiting l st (ArcAwaited k) e = refl
ended_while_awaiting l st (Twin a k) e = refl
ended_while_awaiting l st Tail e = absurd (both_ways false refl e)
ended_while_awaiting l st Asks e = absurd (both_ways false refl e)

ended_well : (l : ℕ) (st : State) (stage : Stage) → awaits stage ≡ false → ended l st stage ≡ Ok st
ended_well l st Head e = absurd (both_ways true e refl)
ended_well l st (ArcAwaited k) e = absurd (both_ways true e refl)
ended_well l st (Twin a k) e = absurd (both_ways true e refl)
ended_well l st Tail e = refl
ended_well l st Asks e = refl

fault_of_parts :
    (f : Fault) (l field : ℕ) (cause : Cause) → f.line ≡ l → f.field ≡ field → f.cause ≡ cause → f ≡ fault l field cause
fault_of_parts f l field cause p q r = ap (λ x. fault x f.field f.cause) p ∙ ap₂ (λ x y. fault l x y) q r

module _ {A B : Type 0} (r : Result A B) where
  same_error : (x y : B) → r ≡ Err x → r ≡ Err y → x ≡ y
  same_error x y p q = cc

  same_value : (x y : A) → r ≡ Ok x → r ≡ Ok y → x ≡ y
  same_value x y p q = cc

  not_both : (x : A) (y : B) → r ≡ Ok x → r ≡ Err y → ⊥
  not_both x y p q = cc

comment_or_not :
    (b : Bool) (l : ℕ) (cs : List Check) (x y : State)
    → cond b (Ok x) (at_line l (passed cs y)) ≡ at_line l (passed (cond b [] cs) (cond b x y))
comment_or_not true l cs x y = refl
comment_or_not false l cs x y = refl

module _ (s : Scale) (room : Room) where
  line_by_its_checks :
      (l : ℕ) (line : List ℕ) (st : State)
      → read_line s room l (fields line) st ≡ at_line l (passed (checks_of s room st line) (with_line st line))
  line_by_its_checks l line st =
      comment_or_not (is_comment (fields line)) l (line_checks s room st (fields line) st.stage) st
      (after_line st (fields line) st.stage)

  -- lines without fault are read, and reading goes on
  pub past_faultless_lines :
      (l : ℕ) (st : State) (ls more : List (List ℕ)) → NoFault s room st ls
      → read_lines s room l (ls ++ more) st ≡ read_lines s room (l + length ls) more (with_lines st ls)
  past_faultless_lines l st [] more t = ap (λ n. read_lines s room n more st) (omega arith)
  past_faultless_lines l st (line ∷ ls) more (h, t) =
      ap (then_lines (read_lines s room (l + 1) (ls ++ more)))
      (line_by_its_checks l line st ∙ ap (at_line l) (passed_where_all_pass (checks_of s room st line) (with_line st line) h))
      ∙ past_faultless_lines (l + 1) (with_line st line) ls more t
      ∙ ap (λ n. read_lines s room n more (with_lines (with_line st line) ls)) (omega arith)

  refused_at_a_line :
      (l : ℕ) (st : State) (ls : List (List ℕ)) (f : Fault) → AtALine s room l st ls f → read_lines s room l ls st ≡ Err f
  refused_at_a_line l st ls f a =
      let here = with_lines st a.earlier in
      let after = with_line here a.faulty in
      let n = l + length a.earlier in
      let first = a.first_of_its_line in
      let c = first.failing in
      ap (λ x. read_lines s room l x st) a.in_order
      ∙ past_faultless_lines l st a.earlier (a.faulty ∷ a.later) a.earlier_have_none
      ∙ ap (then_lines (read_lines s room (n + 1) a.later))
      (line_by_its_checks n a.faulty here
      ∙ ap (λ cs. at_line n (passed cs after)) first.in_order
      ∙ ap (at_line n) (passed_at_a_failing first.earlier c first.later after first.earlier_pass first.it_fails))
      ∙ ap Err (sym (fault_of_parts f n c.field_number c.cause a.its_number first.its_field first.its_cause))

  fault_here :
      (l : ℕ) (st : State) (line : List ℕ) (ls : List (List ℕ)) (field : ℕ) (cause : Cause)
      → FailsFirst (checks_of s room st line) field cause → AtALine s room l st (line ∷ ls) (fault l field cause)
  fault_here l st line ls field cause h = record {
    earlier = [];
    faulty = line;
    later = ls;
    in_order = refl;
    its_number = omega arith;
    earlier_have_none = tt;
    first_of_its_line = h;
  }

  fault_later :
      (l : ℕ) (st : State) (line : List ℕ) (ls : List (List ℕ)) (f : Fault) → AllPass (checks_of s room st line)
      → AtALine s room (l + 1) (with_line st line) ls f → AtALine s room l st (line ∷ ls) f
  fault_later l st line ls f h a = record {
    earlier = line ∷ a.earlier;
    faulty = a.faulty;
    later = a.later;
    in_order = ap (λ x. line ∷ x) a.in_order;
    its_number = a.its_number ∙ omega arith;
    earlier_have_none = (h, a.earlier_have_none);
    first_of_its_line = a.first_of_its_line;
  }

  -- lines have a first fault, or none
  fault_or_none : (l : ℕ) (st : State) (ls : List (List ℕ)) → ((f : Fault) × AtALine s room l st ls f) ⊎ NoFault s room st ls
  fault_or_none l st [] = inr tt
  fault_or_none l st (line ∷ ls) =
      ⊎_elim (λ r. inl (fault l r.0 r.1, fault_here l st line ls r.0 r.1 r.2))
      (λ h. ⊎_elim (λ r. inl (r.0, fault_later l st line ls r.0 h r.1)) (λ t. inr (h, t))
      (fault_or_none (l + 1) (with_line st line) ls))
      (fails_or_passes (checks_of s room st line))

  pub past_all_lines :
      (l : ℕ) (st : State) (ls : List (List ℕ)) → NoFault s room st ls
      → read_lines s room l ls st ≡ ended (l + length ls) (with_lines st ls) (with_lines st ls).stage
  past_all_lines l st ls none =
      ap (λ x. read_lines s room l x st) (sym (append-nil ls)) ∙ past_faultless_lines l st ls [] none

  module _ (text : List ℕ) where
    abbrev at_the_end : State
    at_the_end = with_lines nothing_read (lines text)

    not_too_long : length text ≤ 65536 → read_text s room text ≡ read_lines s room 1 (lines text) nothing_read
    not_too_long short = simp (le-ltb 65536 (length text) short)

    refused : (f : Fault) → FirstFault s room text f → read_text s room text ≡ Err f
    refused f (inl (long, e)) = simp (lt-ltb 65536 (length text) long) (ap Err (sym e))
    refused f (inr (short, inl a)) = not_too_long short ∙ refused_at_a_line 1 nothing_read (lines text) f a
    refused f (inr (short, inr a)) =
        not_too_long short ∙ past_all_lines 1 nothing_read (lines text) a.lines_have_none
        ∙ ended_while_awaiting (1 + length (lines text)) at_the_end at_the_end.stage a.awaited ∙ ap Err (sym a.the_fault)

    accepted : (st : State) → Faultless s room text st → read_text s room text ≡ Ok st
    accepted st good =
        not_too_long good.not_too_long ∙ past_all_lines 1 nothing_read (lines text) good.lines_have_none
        ∙ ended_well (1 + length (lines text)) at_the_end at_the_end.stage good.nothing_awaited ∙ ap Ok (sym good.what_is_read)

    -- a text has a first fault, or none
    fault_or_faultless : ((f : Fault) × FirstFault s room text f) ⊎ Faultless s room text at_the_end
    fault_or_faultless =
        ⊎_elim (λ long. inl (fault 0 0 TooLong, inl (long, refl)))
        (λ short. ⊎_elim (λ r. inl (r.0, inr (short, inl r.1)))
        (λ none. ⊎_elim
        (λ e. inl (
          fault (1 + length (lines text)) 1 Letter,
          inr (short, inr record { lines_have_none = none; awaited = e; the_fault = refl }),
        ))
        (λ e. inr record { not_too_long = short; lines_have_none = none; nothing_awaited = e; what_is_read = refl })
        (cases_Bool (awaits at_the_end.stage)))
        (fault_or_none 1 nothing_read (lines text)))
        (cases_lt 65536 (length text))

    first_where_refused : (f : Fault) → read_text s room text ≡ Err f → FirstFault s room text f
    first_where_refused f e =
        let result = read_text s room text in
        ⊎_elim (λ r. subst (FirstFault s room text) (same_error result r.0 f (refused r.0 r.1) e) r.1)
        (λ good. absurd (not_both result at_the_end f (accepted at_the_end good) e)) fault_or_faultless

    none_where_accepted : (st : State) → read_text s room text ≡ Ok st → Faultless s room text st
    none_where_accepted st e =
        let result = read_text s room text in
        ⊎_elim (λ r. absurd (not_both result st r.0 e (refused r.0 r.1)))
        (λ good. subst (Faultless s room text) (same_value result at_the_end st (accepted at_the_end good) e) good)
        fault_or_faultless

    pub fault_is_the_first_lem : FaultIsTheFirst s room text
    fault_is_the_first_lem = record {
      what_is_refused = first_where_refused;
      is_refused = refused;
      what_is_accepted = none_where_accepted;
      is_accepted = accepted;
    }
