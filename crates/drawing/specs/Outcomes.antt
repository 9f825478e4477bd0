-- How a call ends: refused by its first check that fails, with nothing changed, or accepted. Assumes nothing.
use Rattle.std.specs.Prelude.{◌≡◌, Bool, cond, List, [], ◌∷◌, Ok, Err, Result}
use Rattle.drawing.specs.declared.refusal.Refusal.{Refusal}

-- a check of a call: whether it fails, and the refusal if it does
pub record Check : Type 0 where
  pub fails : Bool
  pub refusal : Refusal

abbrev pub refuse : Refusal → Bool → Check
refuse r b = record { fails = b; refusal = r }

-- What a list of checks comes to: the refusal of the first that fails, or that none does.
abbrev pub verdict : List Check → Result Unit Refusal
verdict [] = Ok tt
verdict (c ∷ cs) = cond c.fails (Err c.refusal) (verdict cs)

-- How a call ends whose checks come to this verdict, where r is what it answered. If a check failed, r is that refusal, and
-- `same` holds: nothing has changed. If none did, r is an answer, of which `done` holds.
abbrev pub Ends : {A : Type 0} → Result Unit Refusal → Result A Refusal → Type 0 → (A → Type 0) → Type 0
Ends (Err x) r same done = (r ≡ Err x) × same
Ends (Ok _) (Ok a) same done = done a
Ends (Ok _) (Err x) same done = ⊥
