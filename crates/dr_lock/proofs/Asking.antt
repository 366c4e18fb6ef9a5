-- What an end remembers of its calls.
use Rattle.std.proofs.Common.{◌≡◌, ◌≤◌, ◌<◌, ◌+◌, ℕ, suc, zero, List, [], ◌∷◌, ◌++◌, length, take, drop, get_or, replicate, Some, None, Err, refl, sym, ap, ◌∙◌, arith}
use Rattle.std.proofs.lemmas.List.{append-nil, drop_more, length-take-le, take_all, take_more}
use Rattle.dr_meaning.specs.declared.command.Command.TheVariants.{Halt, Write}
use Rattle.dr_meaning.specs.declared.command.Reply.TheVariants.{Written}
use Rattle.dr_meaning.specs.declared.ends.Trouble.{Trouble}
use Rattle.dr_meaning.specs.Calls.Replies.{unit_reply}
use Rattle.dr_lock.specs.declared.call.Call.{Call}
use Rattle.dr_lock.specs.Calls.Lock.{EndView, after_call, after_calls, lacking_halt, told_by, write_in_trouble, writes_asked, writes_from}

pub some_is : {A : Type 0} (x y : A) → Some x ≡ Some y → x ≡ y
some_is x y same = cc

-- some calls, and then others
after_both : {E : Type 0} (xs ys : List (Call E)) (end : EndView E) → after_calls (xs ++ ys) end ≡ after_calls ys (after_calls xs end)
after_both [] ys end = refl
after_both (x ∷ xs) ys end = after_both xs ys (after_call x.command x.reply end)

-- one halt more that lacks memory
pub lacking_more : {E : Type 0} (n : ℕ) (end : EndView E) → after_call Halt None (after_calls (replicate n lacking_halt) end) ≡ after_calls (replicate (suc n) lacking_halt) end
lacking_more zero end = refl
lacking_more (suc n) end = lacking_more n (after_call Halt None end)

abbrev written_at : {E : Type 0} → ℕ → ℕ → E → Call E
written_at p s event = record { command = Write p s event; reply = Some Written }

-- one event more
writes_push : {E : Type 0} (p lo s : ℕ) (xs : List E) (event : E) → s ≡ lo + length xs → writes_from p lo (xs ++ event ∷ []) ≡ writes_from p lo xs ++ written_at p s event ∷ []
writes_push p lo s [] event at = ap (λ n. written_at p n event ∷ []) (let same : lo ≡ s = omega arith in same)
writes_push p lo s (x ∷ xs) event at = ap (λ l. written_at p lo x ∷ l) (writes_push p (lo + 1) s xs event (omega arith))

-- one write more
pub write_more : {E : Type 0} (old now new : EndView E) (p lo k s : ℕ) (events : List E) (d event : E)
    → k < length events → s ≡ lo + k → get_or events k d ≡ event
    → now ≡ after_calls (writes_from p lo (take k events)) old → new ≡ after_call (Write p s event) (Some Written) now
    → new ≡ after_calls (writes_from p lo (take (k + 1) events)) old
write_more {E} old now new p lo k s events d event less at is before call =
    let many : length (take k events) ≡ k = length-take-le k events (omega arith) in
    let more : take k events ++ event ∷ [] ≡ take (k + 1) events = ap (λ (x : E). take k events ++ x ∷ []) (sym is) ∙ sym (take_more events k d less) in
    let pushed : writes_from p lo (take (k + 1) events) ≡ writes_from p lo (take k events) ++ written_at p s event ∷ [] =
    ap (writes_from p lo) (sym more) ∙ writes_push p lo s (take k events) event (omega arith) in
    call ∙ ap (λ e. after_call (Write p s event) (Some Written) e) before
    ∙ sym (ap (λ calls. after_calls calls old) pushed ∙ after_both (writes_from p lo (take k events)) (written_at p s event ∷ []) old)

-- the next write is in trouble
pub write_stopped : {E : Type 0} (old now new : EndView E) (p lo k s : ℕ) (events : List E) (d event : E) (trouble : Trouble)
    → k < length events → s ≡ lo + k → get_or events k d ≡ event
    → now ≡ after_calls (writes_from p lo (take k events)) old → new ≡ after_call (Write p s event) (told_by (unit_reply Written) (Err trouble)) now
    → new ≡ after_calls (writes_asked p lo events (record { count = k; trouble = Some trouble })) old
write_stopped {E} old now new p lo k s events d event trouble less at is before call =
    let left : drop k events ≡ event ∷ drop (k + 1) events = drop_more events k d less ∙ ap (λ (x : E). x ∷ drop (k + 1) events) is in
    let last : write_in_trouble p (lo + k) (Some trouble) (drop k events) ≡ record { command = Write p s event; reply = told_by (unit_reply Written) (Err trouble) } ∷ [] =
    ap (write_in_trouble p (lo + k) (Some trouble)) left ∙ ap (λ n. record { command = Write p n event; reply = told_by (unit_reply Written) (Err trouble) } ∷ []) (sym at) in
    call ∙ ap (λ e. after_call (Write p s event) (told_by (unit_reply Written) (Err trouble)) e) before
    ∙ sym (after_both (writes_from p lo (take k events)) _ old ∙ ap (λ calls. after_calls calls (after_calls (writes_from p lo (take k events)) old)) last)

-- all events are written
pub writes_done : {E : Type 0} (old now : EndView E) (p lo k : ℕ) (events : List E) → length events ≤ k
    → now ≡ after_calls (writes_from p lo (take k events)) old → now ≡ after_calls (writes_asked p lo events (record { count = length events; trouble = None })) old
writes_done {E} old now p lo k events over is =
    is ∙ ap (λ (xs : List E). after_calls (writes_from p lo xs) old) (take_all k events over ∙ sym (take_all (length events) events (omega arith)))
    ∙ ap (λ calls. after_calls calls old) (sym (append-nil (writes_from p lo (take (length events) events))))
