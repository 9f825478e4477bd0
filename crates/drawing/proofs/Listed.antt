-- Numbers written to the front of a list one after the other. Assumes nothing.
use Rattle.std.proofs.Common.{◌≡◌, ℕ, ◌+◌, ◌<◌, List, [], ◌∷◌, ◌++◌, length, get_or, take, drop, set, sym, ap, ◌∙◌, append_assoc, arith}
use Rattle.std.proofs.lemmas.List.{drop_more, set_at, take_more, length-take}

-- the next of some numbers, written behind those before it at the front of a list
pub put_next : (all list : List ℕ) (k x : ℕ) → k < length all → k < length list → x ≡ get_or all k x → set (take k all ++ drop k list) k x ≡ take (k + 1) all ++ drop (k + 1) list
put_next all list k x h l e =
    let long : length (take k all) ≡ k = simp length-take (omega arith) in
    ap (λ r. set (take k all ++ r) k x) (drop_more list k 0 l)
    ∙ set_at (take k all) _ (drop (k + 1) list) x k long
    ∙ sym (append_assoc (take k all) (x ∷ []) (drop (k + 1) list))
    ∙ ap (λ y. (take k all ++ y ∷ []) ++ drop (k + 1) list) e
    ∙ ap (λ f. f ++ drop (k + 1) list) (sym (take_more all k x h))
