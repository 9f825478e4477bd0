-- Lists laid end to end, and entries as words. Assumes nothing.
use Rattle.std.proofs.Common.{◌≡◌, ℕ, ◌*◌, List, [], ◌∷◌, ◌++◌, length, take, drop, refl, ap, ◌∙◌, arith}
use Rattle.std.proofs.lemmas.List.{take_at, drop_at}
use Rattle.network.specs.Labels.{Entry}
use Rattle.book.specs.Layout.{entries}
use Rattle.book.specs.Words.{entry_words}

-- a list between two others
pub middle : {A : Type 0} (before here later : List A) (first size : ℕ) → length before ≡ first → length here ≡ size
    → take size (drop first (before ++ (here ++ later))) ≡ here
middle before here later first size e f =
    ap (take size) (drop_at before (here ++ later) first e) ∙ take_at here later size f

pub length_entry_words : (es : List Entry) → length (entry_words es) ≡ 2 * length es
length_entry_words [] = refl
length_entry_words (e ∷ es) = let ih = length_entry_words es in omega arith

pub entry_words_append : (es fs : List Entry) → entry_words (es ++ fs) ≡ entry_words es ++ entry_words fs
entry_words_append [] fs = refl
entry_words_append (e ∷ es) fs = ap (λ l. e.hub ∷ e.worth ∷ l) (entry_words_append es fs)

-- entries can be read back from their words
pub entries_of_words : (es : List Entry) → entries (entry_words es) ≡ es
entries_of_words [] = refl
entries_of_words (e ∷ es) = ap (λ l. e ∷ l) (entries_of_words es)
