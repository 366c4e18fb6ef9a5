-- Once a ring is halted, nothing more is claimed.
use Rattle.std.proofs.Common.{◌≡◌, ◌≢◌, ℕ, ◌+◌, List, [], ◌∷◌, length, set, sym, ◌∙◌, subst, arith}
use Rattle.std.proofs.Common.{get_or-set_same, get_or-set_other}
use Rattle.std.proofs.lemmas.List.{length-append}
use Rattle.dr_meaning.specs.Meaning.Transcript.{Transcript}
use Rattle.dr_plain.specs.Meaning.Shape.{Shape}
use Rattle.dr_runs.specs.OneSender.Words.{cursor_word, closed_word, halt_word, count_word}
use Rattle.dr_plain.specs.declared.record.Step.{Step}
use Rattle.dr_plain.specs.declared.record.Step.TheVariants.{SenderLooksAtCount, SenderLooksAtHalt, SenderPublishes, SenderHalts, SenderCloses}
use Rattle.dr_plain.specs.declared.record.Step.TheVariants.{ReceiverLooksAtClosed, ReceiverLooksAtCursor, ReceiverLooksAtCount, ReceiverCompletes, HalterHalts, HalterLooks}
use Rattle.dr_plain.specs.Meaning.Records.{claimed}
use Rattle.dr_plain.specs.Meaning.Rule.{World, KeepsRule}
use Rattle.dr_plain.specs.Meaning.Steps.{Happens}
use Rattle.dr_plain.specs.Meaning.Moments.{Runs}
use Rattle.dr_plain.proofs.Keeps.{claims_none}
use Rattle.dr_runs.proofs.Elements.{word_at}
use Rattle.dr_plain.proofs.Beginning.{keeps_step}

module _ {T : Type 0} where
  -- halted, with n sequences claimed
  abbrev pub HaltedAt : ℕ → World T → Type 0
  HaltedAt n w = (word_at w.words halt_word ≡ 1) × (claimed w.sender ≡ n)

  other_word : (w : World T) (i v : ℕ) → i ≢ halt_word → word_at w.words halt_word ≡ 1 → word_at (set w.words i v) halt_word ≡ 1
  other_word w i v ne is = get_or-set_other w.words i halt_word v 0 (λ (e : halt_word ≡ i). ne (sym e)) ∙ is

  halted_step : (k : Shape) (s : Step T) (w u : World T) (n : ℕ) → Happens k s w u → KeepsRule k w → HaltedAt n w → HaltedAt n u
  halted_step k (SenderLooksAtCount f) w u n H K is = subst (HaltedAt n) (sym H.1) is
  halted_step k (SenderLooksAtHalt m) w u n H K is =
      let halt = is.0 in let c = is.1 in
      let none = claims_none (word_at w.words halt_word) m (λ (e : word_at w.words halt_word ≡ 0). absurd (omega arith)) in
      subst (HaltedAt n) (sym H.1) (is.0, omega arith)
  halted_step k (SenderPublishes events) w u n H K is =
      let more = length w.sender.published + length H.0 in let c = is.1 in let within = H.3 in let longer = length-append w.sender.published H.0 in
      subst (HaltedAt n) (sym H.4) (other_word w cursor_word more (λ e. omega arith) is.0, omega arith)
  halted_step k SenderHalts w u n H K is = let wide = K.wide in subst (HaltedAt n) (sym H) (get_or-set_same w.words halt_word 1 0 (omega arith), is.1)
  halted_step k SenderCloses w u n H K is = subst (HaltedAt n) (sym H.2) (other_word w closed_word 1 (λ e. omega arith) is.0, is.1)
  halted_step k (ReceiverLooksAtClosed h) w u n H K is = subst (HaltedAt n) (sym H.2) is
  halted_step k (ReceiverLooksAtCursor h room) w u n H K is = subst (HaltedAt n) (sym H.2) is
  halted_step k (ReceiverLooksAtCount h c room) w u n H K is = subst (HaltedAt n) (sym H.2.1) is
  halted_step k (ReceiverCompletes h m) w u n H K is = subst (HaltedAt n) (sym H.2.2) (other_word w (count_word h) m (λ e. omega arith) is.0, is.1)
  halted_step k HalterHalts w u n H K is = let wide = K.wide in subst (HaltedAt n) (sym H) (get_or-set_same w.words halt_word 1 0 (omega arith), is.1)
  halted_step k (HalterLooks word) w u n H K is = subst (HaltedAt n) (sym H.1) is

  pub halted_runs : (k : Shape) (steps : List (Step T)) (es : Transcript T) (w u : World T) (n : ℕ) → Runs k steps es w u → KeepsRule k w
      → HaltedAt n w → HaltedAt n u
  halted_runs k [] es w u n R K is = subst (HaltedAt n) R.1 is
  halted_runs k (s ∷ steps) es w u n R K is = halted_runs k steps R.1 R.0 u n R.4 (keeps_step k s w R.0 R.2 K) (halted_step k s w R.0 n R.2 K is)
