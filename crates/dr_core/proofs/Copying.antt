-- Events that are copied to the front of a buffer.
use Rattle.std.proofs.Common.{◌≡◌, ℕ, ◌+◌, ◌<◌, List, [], ◌∷◌, ◌++◌, refl, ap, sym, ◌∙◌, length, map, get_or, set, drop, append_assoc}
use Rattle.std.specs.List.{range_with_len}
use Rattle.std.proofs.lemmas.List.{drop_more, set_at}
use Rattle.std.proofs.lemmas.List.FromFn.{length-map-range_with_len, map-range_with_len_more}

-- one more event is copied
pub copy-more : {E : Type 0} (f : ℕ → E) (first k : ℕ) (out old : List E) (x : E) → k < length old
    → out ≡ map f (range_with_len first k) ++ drop k old → x ≡ f (first + k) → set out k x ≡ map f (range_with_len first (k + 1)) ++ drop (k + 1) old
copy-more f first k out old x l is same =
    ap (λ o. set o k x) (is ∙ ap (λ r. map f (range_with_len first k) ++ r) (drop_more old k x l))
    ∙ set_at (map f (range_with_len first k)) (get_or old k x) (drop (k + 1) old) x k (length-map-range_with_len f first k)
    ∙ ap (λ y. map f (range_with_len first k) ++ y ∷ drop (k + 1) old) same
    ∙ sym (append_assoc (map f (range_with_len first k)) (f (first + k) ∷ []) (drop (k + 1) old))
    ∙ ap (λ r. r ++ drop (k + 1) old) (sym (map-range_with_len_more f first k (first + k) refl))
