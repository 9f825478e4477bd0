-- Fields joined by spaces are the fields of the line, and lines with their ends are the lines of the text. Assumes nothing.
use Rattle.std.proofs.Common.{◌≡◌, ℕ, ◌^◌, ◌<◌, cond, eqb, List, [], ◌∷◌, ◌++◌, map, decimal, refl, ap, ◌∙◌, arith}
use Rattle.std.specs.List.{AllByRecursion}
use Rattle.std.proofs.ByRecursion.{All-append}
use Rattle.std.proofs.lemmas.Bool.{cond-true, cond-false, eq-eqb, ne_eqb}
use Rattle.roadtext.specs.Text.{put_first, lines, fields}
use Rattle.roadtext.specs.Written.{spaced, text_of, Lacks}
use Rattle.roadtext.proofs.WrittenNumbers.{decimals_lack}

-- what a byte parts, by a rule such as that of `lines` and of `fields`
module _
    (byte : ℕ) (parts : List ℕ → List (List ℕ))
    (rule : (b : ℕ) (bs : List ℕ) → parts (b ∷ bs) ≡ cond (eqb b byte) ([] ∷ parts bs) (put_first b (parts bs)))
  where
    one_more : (b : ℕ) (bs p : List ℕ) (ps : List (List ℕ)) → (b ≡ byte → ⊥) → parts bs ≡ p ∷ ps → parts (b ∷ bs) ≡ (b ∷ p) ∷ ps
    one_more b bs p ps h e =
        rule b bs ∙ cond-false (eqb b byte) ([] ∷ parts bs) (put_first b (parts bs)) (ne_eqb b byte h) ∙ ap (put_first b) e

    up_to_the_byte : (p rest : List ℕ) → Lacks byte p → parts (p ++ (byte ∷ rest)) ≡ p ∷ parts rest
    up_to_the_byte [] rest t =
        rule byte rest ∙ cond-true (eqb byte byte) ([] ∷ parts rest) (put_first byte (parts rest)) (eq-eqb byte byte refl)
    up_to_the_byte (b ∷ p) rest (h, t) = one_more b (p ++ (byte ∷ rest)) p (parts rest) h (up_to_the_byte p rest t)

    all_of_it : parts [] ≡ [] ∷ [] → (p : List ℕ) → Lacks byte p → parts p ≡ p ∷ []
    all_of_it none [] t = none
    all_of_it none (b ∷ p) (h, t) = one_more b p p [] h (all_of_it none p t)

pub fields_of_spaced : (f : List ℕ) (more : List (List ℕ)) → AllByRecursion (Lacks 32) (f ∷ more) → fields (spaced f more) ≡ f ∷ more
fields_of_spaced f [] (h, t) = all_of_it 32 fields (λ b bs. refl) refl f h
fields_of_spaced f (g ∷ more) (h, t) =
    up_to_the_byte 32 fields (λ b bs. refl) f (spaced g more) h ∙ ap (λ fs. f ∷ fs) (fields_of_spaced g more t)

pub lines_of_text : (ls : List (List ℕ)) → AllByRecursion (Lacks 10) ls → lines (text_of ls) ≡ ls
lines_of_text [] t = refl
lines_of_text (line ∷ rest) (h, t) =
    up_to_the_byte 10 lines (λ b bs. refl) line (text_of rest) h ∙ ap (λ ls. line ∷ ls) (lines_of_text rest t)

-- a line lacks a byte other than the space if its fields do
pub spaced_lacks :
    (byte : ℕ) → (32 ≡ byte → ⊥) → (f : List ℕ) (more : List (List ℕ)) → AllByRecursion (Lacks byte) (f ∷ more) → Lacks byte (spaced f more)
spaced_lacks byte h f [] (k, t) = k
spaced_lacks byte h f (g ∷ more) (k, t) =
    All-append (λ b. b ≡ byte → ⊥) f (32 ∷ spaced g more) k (h, spaced_lacks byte h g more t)

-- the fields of a line of a letter and numbers lack a byte that is neither the letter nor a digit
pub letter_line_lacks :
    (byte letter : ℕ) → byte < 48 → (letter ≡ byte → ⊥) → (ns : List ℕ) → AllByRecursion (λ n. n < 10 ^ 10) ns
    → AllByRecursion (Lacks byte) ((letter ∷ []) ∷ map decimal ns)
letter_line_lacks byte letter low other ns small = ((other, tt), decimals_lack byte low ns small)

pub head_line_lacks :
    (byte : ℕ) → byte < 48 → (n a : ℕ) → n < 10 ^ 10 → a < 10 ^ 10
    → AllByRecursion (Lacks byte) ((112 ∷ []) ∷ (115 ∷ 112 ∷ []) ∷ decimal n ∷ decimal a ∷ [])
head_line_lacks byte low n a h k =
    ((λ e. omega arith, tt), ((λ e. omega arith, (λ e. omega arith, tt)), decimals_lack byte low (n ∷ a ∷ []) (h, (k, tt))))

pub fields_of_letter_line :
    (letter : ℕ) → (letter ≡ 32 → ⊥) → (ns : List ℕ) → AllByRecursion (λ n. n < 10 ^ 10) ns
    → fields (spaced (letter ∷ []) (map decimal ns)) ≡ (letter ∷ []) ∷ map decimal ns
fields_of_letter_line letter other ns small =
    fields_of_spaced (letter ∷ []) (map decimal ns) (letter_line_lacks 32 letter (omega arith) other ns small)
