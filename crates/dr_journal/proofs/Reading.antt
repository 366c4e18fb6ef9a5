-- One byte more of what is read behind a header.
use Rattle.std.proofs.Common.{◌≡◌, ◌≢◌, ◌<◌, ◌+◌, ◌-◌, ℕ, List, [], ◌∷◌, ◌++◌, Bool, true, false, Vec, length, take, drop, refl, sym, ◌∙◌, ap, subst, arith, append_assoc, length-append, take-append-drop}
use Rattle.std.specs.declared.alloc.Global.{Global}
use Rattle.std.proofs.lemmas.List.{append-nil, length-drop, map-append, take-append-le, drop-append-le}
use Rattle.std.proofs.lemmas.Bool.{false≢true}
use Rattle.std.proofs.Math.Seq.{take-append_seam}
use Rattle.dr_journal.specs.Meaning.Format.{whole_length, whole_batches, records_from, records_in}
use Rattle.dr_journal.specs.Calls.Journals.{bytes_of}
use Rattle.dr_journal.specs.Inside.Reading.{IsScanned, tail_of, last_of}
use Rattle.dr_journal.proofs.Codes.{within, nothing_more, more, kept_append, is_whole, length-kept, whole_kept, recovered_append, nothing_recovered}
use Rattle.dr_journal.proofs.Frames.{push_own}

drop_whole : (n : ℕ) (l : List ℕ) → n ≡ length l → drop n l ≡ []
drop_whole n [] is = ap (λ (k : ℕ). drop {A = ℕ} k []) is
drop_whole n (x ∷ l) is = ap (λ (k : ℕ). drop k (x ∷ l)) is ∙ drop_whole (length l) l refl

module _ (body : List ℕ) where
  abbrev tail : List ℕ
  tail = tail_of body

  split : (x : List ℕ) → body ++ x ≡ whole_batches body ++ (tail ++ x)
  split x = ap (λ (l : List ℕ). l ++ x) (sym (take-append-drop (whole_length body) body)) ∙ append_assoc (whole_batches body) tail x

  sizes : whole_length body + length tail ≡ length body
  sizes = omega (arith, within body, length-drop (whole_length body) body)

  longer : (x : List ℕ) → whole_length (body ++ x) ≡ whole_length body + whole_length (tail ++ x)
  longer x = ap whole_length (split x) ∙ kept_append (whole_batches body) (tail ++ x) (is_whole body) ∙ ap (λ (n : ℕ). n + whole_length (tail ++ x)) (length-kept body)

  pub records_longer : (x : List ℕ) → records_in (body ++ x) ≡ records_in body ++ records_in (tail ++ x)
  records_longer x = ap records_in (split x) ∙ recovered_append (whole_batches body) (tail ++ x) (is_whole body)

  module _ (x : List ℕ) (none : whole_length (tail ++ x) ≡ 0) where
    same_end : whole_length (body ++ x) ≡ whole_length body
    same_end = omega (arith, longer x, none)

    same_tail : tail_of (body ++ x) ≡ tail ++ x
    same_tail = ap (λ (n : ℕ). drop n (body ++ x)) same_end ∙ drop-append-le (whole_length body) body x (within body)

    same_last : last_of (body ++ x) ≡ last_of body
    same_last = ap (λ (n : ℕ). whole_length (take (n - 1) (body ++ x))) same_end ∙ ap whole_length (take-append-le (whole_length body - 1) body x (omega (arith, within body)))

    pub nothing_new : records_in (body ++ x) ≡ records_in body ++ []
    nothing_new = records_longer x ∙ ap (λ (l : List (List ℕ)). records_in body ++ l) (nothing_recovered (tail ++ x) none)

module _ (len end last : ℕ) (over : Bool) (waiting : List (List ℕ)) (so_far : List ℕ) (less : ℕ) (body : List ℕ) (s : IsScanned len end last over waiting so_far less body) where
  abbrev behind : List ℕ
  behind = tail_of body

  -- a byte that ends no batch
  module _ (b : ℕ) (none : whole_length (behind ++ b ∷ []) ≡ 0) (now_over : Bool) (now_waiting : List (List ℕ)) (now : List ℕ) (now_less : ℕ) where
    same : (now_over ≡ true → (rest : List ℕ) → whole_length ((behind ++ b ∷ []) ++ rest) ≡ 0)
        → (now_over ≡ false → (rest : List ℕ) → whole_length rest ≡ 0 → whole_length ((behind ++ b ∷ []) ++ rest) ≡ 0)
        → (now_over ≡ false → (rest : List ℕ) → 0 < whole_length rest → whole_length ((behind ++ b ∷ []) ++ rest) ≡ length (behind ++ b ∷ []) + whole_length rest)
        → (now_over ≡ false → (rest : List ℕ) → now_waiting ++ records_from now now_less rest ≡ records_from [] 0 ((behind ++ b ∷ []) ++ rest))
        → IsScanned (len + 1) end last now_over now_waiting now now_less (body ++ b ∷ [])
    same o n m t = record {
      counted = omega (arith, s.counted, length-append body (b ∷ []));
      ended = s.ended ∙ sym (same_end body (b ∷ []) none);
      began = s.began ∙ sym (same_last body (b ∷ []) none);
      over = λ is rest. ap (λ (l : List ℕ). whole_length (l ++ rest)) (same_tail body (b ∷ []) none) ∙ o is rest;
      none = λ is rest z. ap (λ (l : List ℕ). whole_length (l ++ rest)) (same_tail body (b ∷ []) none) ∙ n is rest z;
      some = λ is rest z. ap (λ (l : List ℕ). whole_length (l ++ rest)) (same_tail body (b ∷ []) none) ∙ m is rest z ∙ ap (λ (l : List ℕ). length l + whole_length rest) (sym (same_tail body (b ∷ []) none));
      torn = λ is rest. t is rest ∙ ap (λ (l : List ℕ). records_from [] 0 (l ++ rest)) (sym (same_tail body (b ∷ []) none));
    }

  -- behind a hole
  pub past : over ≡ true → (b : ℕ) → IsScanned (len + 1) end last over waiting so_far less (body ++ b ∷ []) × (records_in (body ++ b ∷ []) ≡ records_in body ++ [])
  past is b = (
    same b (s.over is (b ∷ [])) over waiting so_far less
        (λ o rest. ap whole_length (append_assoc behind (b ∷ []) rest) ∙ s.over is (b ∷ rest))
        (λ no. absurd (false≢true (sym no ∙ is)))
        (λ no. absurd (false≢true (sym no ∙ is)))
        (λ no. absurd (false≢true (sym no ∙ is))),
    nothing_new body (b ∷ []) (s.over is (b ∷ [])),
  )

  module _ (is : over ≡ false) where
    pub hole : IsScanned (len + 1) end last true waiting so_far less (body ++ 0 ∷ []) × (records_in (body ++ 0 ∷ []) ≡ records_in body ++ [])
    hole = (
      same 0 (s.none is (0 ∷ []) refl) true waiting so_far less
          (λ o rest. ap whole_length (append_assoc behind (0 ∷ []) rest) ∙ s.none is (0 ∷ rest) refl)
          (λ no. absurd (false≢true (sym no)))
          (λ no. absurd (false≢true (sym no)))
          (λ no. absurd (false≢true (sym no))),
      nothing_new body (0 ∷ []) (s.none is (0 ∷ []) refl),
    )

    whole_tail : whole_length (behind ++ 2 ∷ []) ≡ length behind + 1
    whole_tail = s.some is (2 ∷ []) (omega arith)

    whole_now : whole_length (body ++ 2 ∷ []) ≡ length body + 1
    whole_now = omega (arith, longer body (2 ∷ []), whole_tail, sizes body)

    nothing_behind : tail_of (body ++ 2 ∷ []) ≡ []
    nothing_behind = drop_whole (whole_length (body ++ 2 ∷ [])) (body ++ 2 ∷ []) (omega (arith, whole_now, length-append body (2 ∷ [])))

    began_there : last_of (body ++ 2 ∷ []) ≡ whole_length body
    began_there =
        let all : whole_length (body ++ 2 ∷ []) - 1 ≡ length body = omega (arith, whole_now) in
        ap (λ (n : ℕ). whole_length (take n (body ++ 2 ∷ []))) all ∙ ap whole_length (take-append_seam body (2 ∷ []))

    pub ends : IsScanned (len + 1) (len + 1) end over [] [] 0 (body ++ 2 ∷ []) × (records_in (body ++ 2 ∷ []) ≡ records_in body ++ waiting)
    ends = (
      record {
        counted = omega (arith, s.counted, length-append body (2 ∷ []));
        ended = omega (arith, s.counted, whole_now);
        began = s.ended ∙ sym began_there;
        over = λ o. absurd (false≢true (sym is ∙ o));
        none = λ no rest z. ap (λ (l : List ℕ). whole_length (l ++ rest)) nothing_behind ∙ z;
        some = λ no rest z. omega (arith, ap (λ (l : List ℕ). whole_length (l ++ rest)) nothing_behind, ap length nothing_behind);
        torn = λ no rest. ap (λ (l : List ℕ). records_from [] 0 (l ++ rest)) (sym nothing_behind);
      },
      records_longer body (2 ∷ [])
          ∙ ap (λ (l : List ℕ). records_in body ++ records_from [] 0 l) (whole_kept (behind ++ 2 ∷ []) (whole_tail ∙ sym (length-append behind (2 ∷ []))))
          ∙ ap (λ (l : List (List ℕ)). records_in body ++ l) (sym (s.torn is (2 ∷ [])) ∙ append-nil waiting),
    )

    pub ends_so : (now_waiting : List (List ℕ)) (now : List ℕ) → now_waiting ≡ [] → now ≡ [] → IsScanned (len + 1) (len + 1) end over now_waiting now 0 (body ++ 2 ∷ []) × (records_in (body ++ 2 ∷ []) ≡ records_in body ++ waiting)
    ends_so now_waiting now none_waits fresh = (
      subst (λ (w : List (List ℕ)). IsScanned (len + 1) (len + 1) end over w now 0 (body ++ 2 ∷ [])) (sym none_waits)
          (subst (λ (r : List ℕ). IsScanned (len + 1) (len + 1) end over [] r 0 (body ++ 2 ∷ [])) (sym fresh) ends.0),
      ends.1,
    )

    -- within a batch
    pub within_batch : (b : ℕ) → b ≢ 0 → b ≢ 2 → (now_waiting : List (List ℕ)) (now : List ℕ) (now_less : ℕ)
        → ((rest : List ℕ) → now_waiting ++ records_from now now_less rest ≡ waiting ++ records_from so_far less (b ∷ rest))
        → IsScanned (len + 1) end last over now_waiting now now_less (body ++ b ∷ []) × (records_in (body ++ b ∷ []) ≡ records_in body ++ [])
    within_batch b some other now_waiting now now_less goes = (
      same b (s.none is (b ∷ []) (nothing_more b [] other refl)) over now_waiting now now_less
          (λ o. absurd (false≢true (sym is ∙ o)))
          (λ no rest z. ap whole_length (append_assoc behind (b ∷ []) rest) ∙ s.none is (b ∷ rest) (nothing_more b rest other z))
          (λ no rest z.
          let one = more b rest some z in
          omega (arith, ap whole_length (append_assoc behind (b ∷ []) rest), s.some is (b ∷ rest) (omega (arith, one)), one, length-append behind (b ∷ [])))
          (λ no rest. goes rest ∙ s.torn is (b ∷ rest) ∙ ap (λ (l : List ℕ). records_from [] 0 l) (sym (append_assoc behind (b ∷ []) rest))),
      nothing_new body (b ∷ []) (s.none is (b ∷ []) (nothing_more b [] other refl)),
    )

-- what a byte within a batch adds to what waits
module _ (w : List (Vec ℕ Global)) (r : List ℕ) (less b : ℕ) where
  pub record_ends : (v : Vec ℕ Global) (pushed : List (Vec ℕ Global)) (now : List ℕ) → pushed ≡ w ++ v ∷ [] → v.items ≡ r → now ≡ [] → b ≡ 1 → (rest : List ℕ) → bytes_of pushed ++ records_from now 0 rest ≡ bytes_of w ++ records_from r less (b ∷ rest)
  record_ends v pushed now pushed_is v_is now_is b_is rest =
      ap (λ (p : List (Vec ℕ Global)). bytes_of p ++ records_from now 0 rest) pushed_is
      ∙ ap (λ (l : List (List ℕ)). l ++ records_from now 0 rest) (map-append (λ (x : Vec ℕ Global). x.items) w (v ∷ []))
      ∙ append_assoc (bytes_of w) (v.items ∷ []) (records_from now 0 rest)
      ∙ ap (λ (x : List ℕ). bytes_of w ++ x ∷ records_from now 0 rest) v_is
      ∙ ap (λ (n : List ℕ). bytes_of w ++ r ∷ records_from n 0 rest) now_is
      ∙ ap (λ (x : ℕ). bytes_of w ++ records_from r less (x ∷ rest)) (sym b_is)

  pub four_less : b ≡ 3 → (rest : List ℕ) → bytes_of w ++ records_from r 4 rest ≡ bytes_of w ++ records_from r less (b ∷ rest)
  four_less is rest = ap (λ (x : ℕ). bytes_of w ++ records_from r less (x ∷ rest)) (sym is)

  pub own_byte : (x : ℕ) (pushed : List ℕ) → pushed ≡ r ++ x ∷ [] → x ≡ b - less → b ≢ 1 → b ≢ 2 → b ≢ 3 → (rest : List ℕ) → bytes_of w ++ records_from pushed 0 rest ≡ bytes_of w ++ records_from r less (b ∷ rest)
  own_byte x pushed pushed_is x_is not_1 not_2 not_3 rest =
      ap (λ (p : List ℕ). bytes_of w ++ records_from p 0 rest) (pushed_is ∙ ap (λ (y : ℕ). r ++ y ∷ []) x_is)
      ∙ ap (λ (l : List (List ℕ)). bytes_of w ++ l) (sym (push_own r less b rest not_1 not_2 not_3))
