use Rattle.std.proofs.Common.{◌≡◌, ◌∙◌, ◌++◌, OnOk, ap, codes, decimal, flat_map, length, string_bytes, subst, sym, ℕ}
use Rattle.std.specs.List.{range_with_len}
use Rattle.dr_seq.specs.declared.event.Event.{Event}
use Rattle.dr_meaning.specs.Meaning.Machine.{handlers}
use Rattle.dr_core.specs.Calls.CoreView.{CoreView}
use Rattle.dr_drive.specs.Calls.Standing.{room_in}
use Rattle.dr_show.specs.Meaning.Texts.{bool_text}
use Rattle.dr_show.specs.Meaning.StateText.{round_text}
use Rattle.dr_show.specs.Inside.Seen.{handler_seen, state_seen}
use Rattle.dr_show.specs.Inside.Sequences.{said_of, slots_of}
use Rattle.dr_show.proofs.Pieces.{state_put}
use Rattle.dr_show.proofs.objects.put_state.Goals as goal

pub returns : goal.returns
returns c =
    let v = c.core-core.result.now in
    let slots = slots_of c.args.recents.now in
    let old = string_bytes c.args.page.now in
    let new = string_bytes c.put_round.new.page in
    let three = string_bytes c.put_handlers.new.page in
    let size : length slots ≡ v.setup.size = c.requires ∙ sym (ap (λ (w : CoreView Event). w.setup.size) c.core-core.ensures) in
    let last : OnOk c.put_round.result (new ≡ three ++ round_text (said_of slots) v.setup.size v.next) =
    subst (λ (n : ℕ). OnOk c.put_round.result (new ≡ three ++ round_text (said_of slots) v.setup.size n)) c.next.ensures.value
    (subst (λ (n : ℕ). OnOk c.put_round.result (new ≡ three ++ round_text (said_of slots) n c.next.result)) size c.put_round.ensures) in
    subst (λ (w : CoreView Event). OnOk c.put_round.result (new ≡ old ++ state_seen w slots)) c.core-core.ensures
    (state_put c.put_round.result old (codes ",\"next\":") (decimal v.next) (codes ",\"front\":") (decimal v.front) (codes ",\"room\":") (decimal (room_in v)) (codes ",\"halted\":")
    (bool_text v.halted) (codes ",\"handlers\":[") (flat_map (handler_seen v) (range_with_len 0 (handlers v.setup))) (codes "]") (round_text (said_of slots) v.setup.size v.next)
    (string_bytes c.put_counts.new.page) (string_bytes c.put_halt.new.page) three new c.in_ok-put_counts.ensures c.in_ok-put_halt.ensures c.in_ok-put_handlers.ensures last)
