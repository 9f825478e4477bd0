-- How a refusal that carries numbers begins. Assumes nothing.
use Rattle.std.proofs.Common.{◌≡◌, ℕ, List, [], ◌∷◌, ◌++◌, decimal, sym, ap, ◌∙◌, lit<, lit≤}
use Rattle.std.proofs.lemmas.Fmt.{decimal_digit, decimal_step}
use Rattle.drawing.specs.Refusals.{table_number, written}
use Rattle.drawing.specs.declared.refusal.Table.{Table}
use Rattle.drawing.specs.declared.refusal.Refusal.{Refusal}
use Rattle.drawing.specs.declared.refusal.Refusal.TheVariants.{ShortTable, ShortBook, BadEntry}

ten : decimal 10 ≡ 49 ∷ 48 ∷ []
ten = decimal_step 10 (lit≤ tt) (lit< tt) ∙ ap (λ (l : List ℕ). l ++ (48 ∷ [])) (decimal_digit 1 (lit< tt))

twelve : decimal 12 ≡ 49 ∷ 50 ∷ []
twelve = decimal_step 12 (lit≤ tt) (lit< tt) ∙ ap (λ (l : List ℕ). l ++ (50 ∷ [])) (decimal_digit 1 (lit< tt))

pub short_table_written : (r : Refusal) (needed : ℕ) → r ≡ ShortTable needed → written r ≡ 51 ∷ 32 ∷ decimal needed
short_table_written r needed e =
    ap written e ∙ ap (λ (l : List ℕ). l ++ (32 ∷ decimal needed)) (decimal_digit 3 (lit< tt))

pub short_book_written : (r : Refusal) (words : ℕ) → r ≡ ShortBook words → written r ≡ 49 ∷ 48 ∷ 32 ∷ decimal words
short_book_written r words e = ap written e ∙ ap (λ (l : List ℕ). l ++ (32 ∷ decimal words)) ten

pub bad_entry_written :
    (r : Refusal) (table : Table) (number place : ℕ) → r ≡ BadEntry table place → number ≡ table_number table
    → written r ≡ 49 ∷ 50 ∷ 32 ∷ (decimal number ++ 32 ∷ decimal place)
bad_entry_written r table number place e h =
    ap written e
    ∙ ap (λ (l : List ℕ). l ++ (32 ∷ (decimal (table_number table) ++ 32 ∷ decimal place))) twelve
    ∙ ap (λ n. 49 ∷ 50 ∷ 32 ∷ (decimal n ++ 32 ∷ decimal place)) (sym h)
