-- Once a ring is halted, nothing more is claimed.
use Rattle.std.proofs.Common.{◌≡◌, ◌≢◌, ℕ, ◌-◌, ◌<◌, ◌≤◌, ◌==◌, if◌then◌else◌, List, [], ◌∷◌, ◌++◌, length, set, take, replicate}
use Rattle.std.proofs.Common.{Option, Some, None, sym, refl, ap, ◌∙◌, subst, arith, length-set, get_or-set_same, get_or-set_other}
use Rattle.std.proofs.lemmas.Bool.{ne_eqb}
use Rattle.std.proofs.lemmas.List.{length-append, length-drop, append-nil}
use Rattle.dr_seq.specs.declared.event.Event.{Event}
use Rattle.dr_meaning.specs.Meaning.Transcript.{Transcript}
use Rattle.dr_meaning.specs.Calls.Ends.{written_of}
use Rattle.dr_ring.specs.Meaning.Shape.{Shape}
use Rattle.dr_ring.specs.Meaning.Words.{payload_word}
use Rattle.dr_runs.specs.OneSender.Words.{cursor_word, closed_word, halt_word, count_word}
use Rattle.dr_ring.specs.declared.record.Step.{Step}
use Rattle.dr_ring.specs.declared.record.Step.TheVariants.{SenderLooksAtCount, SenderLooksAtHalt, SenderStoresFirst, SenderStoresSecond, SenderPublishes}
use Rattle.dr_ring.specs.declared.record.Step.TheVariants.{SenderHalts, SenderCloses, ReceiverLooksAtClosed, ReceiverLooksAtCursor, ReceiverLooksAtCount}
use Rattle.dr_ring.specs.declared.record.Step.TheVariants.{ReceiverLoadsFirst, ReceiverLoadsSecond, ReceiverCompletes, HalterHalts}
use Rattle.dr_ring.specs.declared.record.SenderRecord.{SenderRecord}
use Rattle.dr_ring.specs.Meaning.Records.{claimed, halt_looked, published_to, AreWritten}
use Rattle.dr_ring.specs.Meaning.Rule.{World, KeepsRule}
use Rattle.dr_ring.specs.Meaning.Steps.{Happens}
use Rattle.dr_ring.specs.Meaning.Moments.{Runs}
use Rattle.dr_ring.proofs.Events.{open_events, written_count}
use Rattle.dr_runs.proofs.Elements.{word_at}
use Rattle.dr_ring.proofs.Pictures.{keeps_step}

-- halted, with n sequences claimed
abbrev pub HaltedAt : ℕ → World → Type 0
HaltedAt n w = (word_at w.words halt_word ≡ 1) × (claimed w.sender ≡ n)

other_word : (w : World) (n i v : ℕ) → i ≢ halt_word → word_at w.words halt_word ≡ 1 → word_at (set w.words i v) halt_word ≡ 1
other_word w n i v ne is = get_or-set_other w.words i halt_word v 0 (λ (e : halt_word ≡ i). ne (sym e)) ∙ is

no_claim : (w : World) (n m : ℕ) → HaltedAt n w → claimed (halt_looked w.sender m (word_at w.words halt_word)) ≡ n
no_claim w n m H =
    let found = word_at w.words halt_word in let more : List (Option Event) = if found == 0 then replicate m None else [] in
    let none : more ≡ [] = rw (ne_eqb found 0 (λ (e : found ≡ 0). (let h = H.0 in omega arith))) refl in
    let len : length (w.sender.sent.pending ++ more) ≡ length w.sender.sent.pending =
    ap (λ (xs : List (Option Event)). length (w.sender.sent.pending ++ xs)) none ∙ ap length (append-nil w.sender.sent.pending) in
    let c = H.1 in omega arith

pub still_claimed : (r : SenderRecord) (m : ℕ) → length r.sent.published < m → m ≤ claimed r → AreWritten r m → claimed (published_to r m) ≡ claimed r
still_claimed r m lt le all =
    let old = r.sent.published in let pending = r.sent.pending in let new = written_of (take (m - length old) pending) in
    let count : length new ≡ m - length old = written_count pending (m - length old) (open_events r m all) (omega arith) in
    omega (arith, length-append old new, length-drop (m - length old) pending)

pub halted_step : (k : Shape) (s : Step) (w u : World) (n : ℕ) → Happens k s w u → KeepsRule k w → HaltedAt n w → HaltedAt n u
halted_step k (SenderLooksAtCount f) w u n H K is = subst (HaltedAt n) (sym H.1) is
halted_step k (SenderLooksAtHalt m) w u n H K is = subst (HaltedAt n) (sym H.1) (is.0, no_claim w n m is)
halted_step k (SenderStoresFirst s v) w u n H K is = subst (HaltedAt n) (sym H.2) (other_word w n (payload_word k s 0) v (λ e. omega arith) is.0, is.1)
halted_step k (SenderStoresSecond v) w u n H K is =
    subst (HaltedAt n) (sym H.2) (
      other_word w n (payload_word k H.0.sequence 1) v (λ e. omega arith) is.0,
      (let c = is.1 in
          omega (
            arith,
            length-set w.sender.sent.pending (H.0.sequence - length w.sender.sent.published)
                (let x : Option Event = Some record { first = H.0.first; second = v } in x),
          )),
    )
halted_step k (SenderPublishes m) w u n H K is =
    subst (HaltedAt n) (sym H.4) (other_word w n cursor_word m (λ e. omega arith) is.0, still_claimed w.sender m H.0 H.1 H.2 ∙ is.1)
halted_step k SenderHalts w u n H K is = let wide = K.wide in subst (HaltedAt n) (sym H) (get_or-set_same w.words halt_word 1 0 (omega arith), is.1)
halted_step k SenderCloses w u n H K is = subst (HaltedAt n) (sym H.2) (other_word w n closed_word 1 (λ e. omega arith) is.0, is.1)
halted_step k (ReceiverLooksAtClosed h) w u n H K is = subst (HaltedAt n) (sym H.2) is
halted_step k (ReceiverLooksAtCursor h) w u n H K is = subst (HaltedAt n) (sym H.2) is
halted_step k (ReceiverLooksAtCount h c) w u n H K is = subst (HaltedAt n) (sym H.2.1) is
halted_step k (ReceiverLoadsFirst h) w u n H K is = subst (HaltedAt n) (sym H.2.1) is
halted_step k (ReceiverLoadsSecond h) w u n H K is = subst (HaltedAt n) (sym H.2.3) is
halted_step k (ReceiverCompletes h m) w u n H K is = subst (HaltedAt n) (sym H.2.2) (other_word w n (count_word h) m (λ e. omega arith) is.0, is.1)
halted_step k HalterHalts w u n H K is = let wide = K.wide in subst (HaltedAt n) (sym H) (get_or-set_same w.words halt_word 1 0 (omega arith), is.1)

pub halted_runs : (k : Shape) (steps : List Step) (es : Transcript Event) (w u : World) (n : ℕ) → Runs k steps es w u → KeepsRule k w → HaltedAt n w
    → HaltedAt n u
halted_runs k [] es w u n R K is = subst (HaltedAt n) R.1 is
halted_runs k (s ∷ steps) es w u n R K is = halted_runs k steps R.1 R.0 u n R.4 (keeps_step k s w R.0 R.2 K) (halted_step k s w R.0 n R.2 K is)
