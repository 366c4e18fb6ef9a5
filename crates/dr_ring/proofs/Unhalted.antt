-- Before it halts a ring itself, a sender finds no halt that the halter has not stored.
use Rattle.std.proofs.Common.{◌≡◌, ◌≢◌, ℕ, if◌then◌else◌, Bool, true, false, List, [], ◌∷◌, ◌++◌, sym, refl, ◌∙◌, subst, ⊎_elim, arith}
use Rattle.std.proofs.lemmas.Bool.{false≢true}
use Rattle.dr_meaning.specs.Meaning.Transcript.{Transcript}
use Rattle.dr_seq.specs.declared.event.Event.{Event}
use Rattle.dr_runs.specs.declared.look.Look.{Look}
use Rattle.dr_runs.specs.Looks.{look, last_look}
use Rattle.dr_runs.specs.OneSender.Words.{halt_word, count_word}
use Rattle.dr_runs.proofs.Looks.{last_look_more, last_look_else}
use Rattle.dr_ring.specs.Meaning.Shape.{Shape, IsShape}
use Rattle.dr_ring.specs.declared.record.Step.{Step}
use Rattle.dr_ring.specs.declared.record.Step.TheVariants.{SenderLooksAtCount, SenderLooksAtHalt, SenderStoresFirst, SenderStoresSecond, SenderPublishes}
use Rattle.dr_ring.specs.declared.record.Step.TheVariants.{SenderHalts, SenderCloses, ReceiverLooksAtClosed, ReceiverLooksAtCursor, ReceiverLooksAtCount}
use Rattle.dr_ring.specs.declared.record.Step.TheVariants.{ReceiverLoadsFirst, ReceiverLoadsSecond, ReceiverCompletes, HalterHalts}
use Rattle.dr_ring.specs.Meaning.Rule.{World, KeepsRule}
use Rattle.dr_ring.specs.Meaning.Settling.{FoundUnhalted}
use Rattle.dr_ring.specs.Meaning.Steps.{Happens}
use Rattle.dr_ring.specs.Meaning.Moments.{Runs, new_world}
use Rattle.dr_ring.proofs.Beginning.{kept_opening}
use Rattle.dr_runs.proofs.Elements.{word_at}
use Rattle.dr_ring.proofs.Pictures.{keeps_step}

-- without a halt of the halter's the sender found none but its own
abbrev Unhalted : World → Type 0
Unhalted w = w.halter.halted ≡ false → FoundUnhalted w.sender

-- where nobody halted the ring, its word is 0
no_halt : (k : Shape) (w : World) → KeepsRule k w → w.sender.halted ≡ false → w.halter.halted ≡ false → word_at w.words halt_word ≡ 0
no_halt k w K mine theirs =
    let low = K.flags.halt in
    let none : word_at w.words halt_word ≡ 1 → ⊥ = λ on. ⊎_elim (λ by. false≢true (sym mine ∙ by)) (λ by. false≢true (sym theirs ∙ by))
    (K.flags.known_halt on) in
    omega (arith, none)

-- of looks, some before a halt of the sender's own, and some since
abbrev last_seen : Bool → List Look → List Look → ℕ
last_seen halted before looks = last_look 0 (if halted then before else looks) halt_word

-- one look more at another word
looks_else : (halted : Bool) (before looks : List Look) (i v : ℕ) → i ≢ halt_word → last_seen halted before looks ≡ 0
    → last_seen halted before (looks ++ look i v ∷ []) ≡ 0
looks_else true before looks i v ne was = was
looks_else false before looks i v ne was = last_look_else 0 looks i halt_word v ne ∙ was

-- and one at halt, which is 0 where the sender has not halted
looks_at_halt : (halted : Bool) (before looks : List Look) (v : ℕ) → (halted ≡ false → v ≡ 0) → last_seen halted before looks ≡ 0
    → last_seen halted before (looks ++ look halt_word v ∷ []) ≡ 0
looks_at_halt true before looks v none was = was
looks_at_halt false before looks v none was = last_look_more 0 looks halt_word v ∙ none refl

unhalted_step : (k : Shape) (s : Step) (w u : World) → Happens k s w u → KeepsRule k w → Unhalted w → Unhalted u
unhalted_step k (SenderLooksAtCount f) w u H K is =
    subst Unhalted (sym H.1) (λ off. looks_else w.sender.halted w.sender.before w.sender.looks (count_word f) (word_at w.words (count_word f))
    (λ e. omega arith) (is off))
unhalted_step k (SenderLooksAtHalt n) w u H K is =
    subst Unhalted (sym H.1) (λ off. looks_at_halt w.sender.halted w.sender.before w.sender.looks (word_at w.words halt_word)
    (λ mine. no_halt k w K mine off) (is off))
unhalted_step k (SenderStoresFirst s v) w u H K is = subst Unhalted (sym H.2) is
unhalted_step k (SenderStoresSecond v) w u H K is = subst Unhalted (sym H.2) is
unhalted_step k (SenderPublishes n) w u H K is = subst Unhalted (sym H.4) is
unhalted_step k SenderHalts w u H K is = subst Unhalted (sym H) is
unhalted_step k SenderCloses w u H K is = subst Unhalted (sym H.2) is
unhalted_step k (ReceiverLooksAtClosed h) w u H K is = subst Unhalted (sym H.2) is
unhalted_step k (ReceiverLooksAtCursor h) w u H K is = subst Unhalted (sym H.2) is
unhalted_step k (ReceiverLooksAtCount h c) w u H K is = subst Unhalted (sym H.2.1) is
unhalted_step k (ReceiverLoadsFirst h) w u H K is = subst Unhalted (sym H.2.1) is
unhalted_step k (ReceiverLoadsSecond h) w u H K is = subst Unhalted (sym H.2.3) is
unhalted_step k (ReceiverCompletes h m) w u H K is = subst Unhalted (sym H.2.2) is
unhalted_step k HalterHalts w u H K is = subst Unhalted (sym H) (λ off. absurd (false≢true (sym off)))

unhalted_runs : (k : Shape) (steps : List Step) (es : Transcript Event) (w u : World) → Runs k steps es w u → KeepsRule k w → Unhalted w → Unhalted u
unhalted_runs k [] es w u R K is = subst Unhalted R.1 is
unhalted_runs k (s ∷ steps) es w u R K is = unhalted_runs k steps R.1 R.0 u R.4 (keeps_step k s w R.0 R.2 K) (unhalted_step k s w R.0 R.2 K is)

-- from the opening on
pub unhalted_since : (k : Shape) (steps : List Step) (es : Transcript Event) (u : World) → IsShape k → Runs k steps es (new_world k) u
    → u.halter.halted ≡ false → FoundUnhalted u.sender
unhalted_since k steps es u shape R = unhalted_runs k steps es (new_world k) u R (kept_opening k shape) (λ off. refl)
