use Rattle.std.proofs.Common.{◌++◌, ◌-◌, ◌+◌, ◌∙◌, List, ℕ, ap, append-nil, arith, string_bytes, sym}
use Rattle.dr_drive.proofs.Pushing.{all_pushed, pushed}
use Rattle.dr_show.specs.declared.sequences.Sequence.{Sequence}
use Rattle.dr_show.specs.Meaning.StateText.{written_text}
use Rattle.dr_show.specs.Inside.Sequences.{said_of, slots_of}
use Rattle.dr_show.proofs.rounds.put_events.Goals as goal

pub loop-s-init : goal.loop-s-init
loop-s-init c =
    let each : ℕ → List ℕ = λ s. written_text s (said_of (slots_of c.args.recents.now) s).event in
    let page = string_bytes c.args.page.now in
    all_pushed each c.args.from 0 _ page page (sym (append-nil page)) (omega arith)

pub loop-s-preserved : goal.loop-s-preserved
loop-s-preserved c =
    let each : ℕ → List ℕ = λ s. written_text s (said_of (slots_of c.args.recents.now) s).event in
    let s = c.loop-s.s in
    let base = string_bytes c.args.page.now in
    let page = string_bytes c.loop-s.page in
    let new = string_bytes c.put_event.new.page in
    all_pushed each c.args.from (s - c.args.from + 1) _ base new
    (pushed each c.args.from (s - c.args.from) s base page new (omega arith) c.loop-s.invariant (c.in_ok-put_event.ensures ∙ ap (λ (it : Sequence). page ++ written_text s it.event) c.get.ensures))
    (omega arith)

pub returns : goal.returns
returns c =
    let each : ℕ → List ℕ = λ s. written_text s (said_of (slots_of c.args.recents.now) s).event in
    all_pushed each c.args.from (c.loop-s.s - c.args.from) _ (string_bytes c.args.page.now) (string_bytes c.loop-s.page) c.loop-s.invariant (omega arith)
