-- Before it halts a ring itself, a sender finds no halt that the halter has not stored.
use Rattle.std.proofs.Common.{◌≡◌, if◌then◌else◌, Bool, true, false, List, [], ◌∷◌, ◌++◌, sym, refl, ◌∙◌, subst, ⊎_elim, arith}
use Rattle.std.specs.Prelude.{All}
use Rattle.std.proofs.lemmas.Bool.{false≢true}
use Rattle.std.proofs.lemmas.List.Elements.{All-nil, All-push}
use Rattle.dr_meaning.specs.Meaning.Transcript.{Transcript}
use Rattle.dr_runs.specs.declared.look.Look.{Look}
use Rattle.dr_runs.specs.Looks.{look}
use Rattle.dr_runs.specs.OneSender.Words.{halt_word, count_word}
use Rattle.dr_plain.specs.Meaning.Shape.{Shape, IsShape}
use Rattle.dr_plain.specs.declared.record.Step.{Step}
use Rattle.dr_plain.specs.declared.record.Step.TheVariants.{SenderLooksAtCount, SenderLooksAtHalt, SenderPublishes, SenderHalts, SenderCloses}
use Rattle.dr_plain.specs.declared.record.Step.TheVariants.{ReceiverLooksAtClosed, ReceiverLooksAtCursor, ReceiverLooksAtCount, ReceiverCompletes, HalterHalts, HalterLooks}
use Rattle.dr_plain.specs.Meaning.Rule.{World, KeepsRule}
use Rattle.dr_plain.specs.Meaning.Settling.{FoundUnhalted}
use Rattle.dr_plain.specs.Meaning.Steps.{Happens}
use Rattle.dr_plain.specs.Meaning.Moments.{Runs, new_world}
use Rattle.dr_runs.proofs.Elements.{word_at}
use Rattle.dr_plain.proofs.Beginning.{kept_opening, keeps_step}

-- a look did not find the ring halted
abbrev NoHalt : Look → Type 0
NoHalt x = x.word ≡ halt_word → x.value ≡ 0

-- of looks, some before a halt of the sender's own, and some since
abbrev NoneSeen : Bool → List Look → List Look → Type 0
NoneSeen halted before looks = All NoHalt (if halted then before else looks)

-- one look more, which did not find it where the sender has not halted
looks_on : (halted : Bool) (before looks : List Look) (x : Look) → (halted ≡ false → NoHalt x) → NoneSeen halted before looks
    → NoneSeen halted before (looks ++ x ∷ [])
looks_on true before looks x none was = was
looks_on false before looks x none was = All-push NoHalt looks x was (none refl)

module _ {T : Type 0} where
  -- without a halt of the halter's the sender found none but its own
  abbrev Unhalted : World T → Type 0
  Unhalted w = w.halter.halted ≡ false → FoundUnhalted w.sender

  -- where nobody halted the ring, its word is 0
  no_halt : (k : Shape) (w : World T) → KeepsRule k w → w.sender.halted ≡ false → w.halter.halted ≡ false → word_at w.words halt_word ≡ 0
  no_halt k w K mine theirs =
      let low = K.flags.halt in
      let none : word_at w.words halt_word ≡ 1 → ⊥ = λ on. ⊎_elim (λ by. false≢true (sym mine ∙ by)) (λ by. false≢true (sym theirs ∙ by))
      (K.flags.known_halt on) in
      omega (arith, none)

  unhalted_step : (k : Shape) (s : Step T) (w u : World T) → Happens k s w u → KeepsRule k w → Unhalted w → Unhalted u
  unhalted_step k (SenderLooksAtCount f) w u H K is =
      subst Unhalted (sym H.1) (λ off. looks_on w.sender.halted w.sender.before w.sender.looks (look (count_word f) (word_at w.words (count_word f)))
      (λ mine at. absurd (omega arith)) (is off))
  unhalted_step k (SenderLooksAtHalt n) w u H K is =
      subst Unhalted (sym H.1) (λ off. looks_on w.sender.halted w.sender.before w.sender.looks (look halt_word (word_at w.words halt_word))
      (λ mine at. no_halt k w K mine off) (is off))
  unhalted_step k (SenderPublishes events) w u H K is = subst Unhalted (sym H.4) is
  unhalted_step k SenderHalts w u H K is = subst Unhalted (sym H) is
  unhalted_step k SenderCloses w u H K is = subst Unhalted (sym H.2) is
  unhalted_step k (ReceiverLooksAtClosed h) w u H K is = subst Unhalted (sym H.2) is
  unhalted_step k (ReceiverLooksAtCursor h room) w u H K is = subst Unhalted (sym H.2) is
  unhalted_step k (ReceiverLooksAtCount h c room) w u H K is = subst Unhalted (sym H.2.1) is
  unhalted_step k (ReceiverCompletes h m) w u H K is = subst Unhalted (sym H.2.2) is
  unhalted_step k HalterHalts w u H K is = subst Unhalted (sym H) (λ off. absurd (false≢true (sym off)))
  unhalted_step k (HalterLooks word) w u H K is = subst Unhalted (sym H.1) is

  unhalted_runs : (k : Shape) (steps : List (Step T)) (es : Transcript T) (w u : World T) → Runs k steps es w u → KeepsRule k w → Unhalted w → Unhalted u
  unhalted_runs k [] es w u R K is = subst Unhalted R.1 is
  unhalted_runs k (s ∷ steps) es w u R K is = unhalted_runs k steps R.1 R.0 u R.4 (keeps_step k s w R.0 R.2 K) (unhalted_step k s w R.0 R.2 K is)

  -- from the opening on
  pub unhalted_since : (k : Shape) (steps : List (Step T)) (es : Transcript T) (u : World T) → IsShape k → Runs k steps es (new_world k) u
      → u.halter.halted ≡ false → FoundUnhalted u.sender
  unhalted_since k steps es u shape R =
      unhalted_runs k steps es (new_world k) u R (kept_opening T k shape) (λ off. All-nil NoHalt)
