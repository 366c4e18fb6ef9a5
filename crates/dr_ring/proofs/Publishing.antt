-- What a publication answers, and when its sequences are ready.
use Rattle.std.proofs.Common.{◌≡◌, ℕ, ◌+◌, ◌-◌, ◌<◌, ◌≤◌}
use Rattle.std.proofs.Common.{Some, None, length, arith, refl, ap, get_or, sym, subst, ◌∙◌}
use Rattle.std.specs.Prelude.{Ok, Err}
use Rattle.dr_seq.specs.declared.event.Event.{Event}
use Rattle.dr_meaning.specs.declared.refusal.Refusal.TheVariants.{NotWritten, OutOfOrder}
use Rattle.dr_meaning.specs.Calls.Ends.{Sent, published_below}
use Rattle.dr_ring.specs.declared.record.SenderRecord.{SenderRecord}
use Rattle.dr_ring.specs.Meaning.Records.{published_to, AreWritten}
use Rattle.dr_ring.specs.Calls.Sending.{TriesToPublish}
use Rattle.dr_runs.specs.OneSender.Noted.{AreNoted, HasUnnoted}
use Rattle.dr_ring.specs.Inside.Fits.{SenderFields, SenderFits}
use Rattle.dr_runs.proofs.Answering.{accepted, unwritten, out_of_order}
use Rattle.dr_ring.proofs.Noting.{noted_written, unnoted_open}

-- A sender that publishes from lo to hi: what is said of the sender is said of its end.
module _ {r e : SenderRecord} {f : SenderFields} {lo hi : ℕ} (same : r ≡ e) (fits : SenderFits r f) (order : lo ≤ hi)
    (within : hi < f.claimed) (fresh : f.published ≤ lo) where
  -- every sequence of a stretch that is all noted is written
  ready : AreNoted f.written lo hi → (s : ℕ) → lo ≤ s → s ≤ hi → (v : Event) × (get_or r.sent.pending (s - length r.sent.published) None ≡ Some v)
  ready all s after below = let next = fits.next in let front = fits.front in
      noted_written r f.written lo hi fits.written all (omega arith) (omega arith) s after below

  pub publish_ready : AreNoted f.written lo hi → lo ≤ f.published → AreWritten r (hi + 1)
  publish_ready all ge s after below = let front = fits.front in ready all s (omega arith) (omega arith)

  pub publish_unwritten : HasUnnoted f.written lo hi → TriesToPublish e lo hi e (Err NotWritten)
  publish_unwritten has =
      let next = fits.next in let front = fits.front in let from = has.1 in let to = has.2 in
      let nothing = unnoted_open r f.written has.0 fits.written has.3 (omega arith) (omega arith) in
      subst (λ (x : SenderRecord). TriesToPublish x lo hi x (Err NotWritten)) same
      (unwritten r.sent lo hi has.0 (omega arith) (omega arith) from (omega arith) nothing, refl, refl)

  pub publish_late : AreNoted f.written lo hi → f.published < lo → TriesToPublish e lo hi e (Err OutOfOrder)
  publish_late all after = let next = fits.next in let front = fits.front in
      subst (λ (x : SenderRecord). TriesToPublish x lo hi x (Err OutOfOrder)) same
      (out_of_order r.sent lo hi order (omega arith) (omega arith) (ready all), refl, refl)

  pub publish_done : (q : SenderRecord) → AreNoted f.written lo hi → lo ≤ f.published → q ≡ published_to r (hi + 1) → TriesToPublish e lo hi q (Ok tt)
  publish_done q all ge new =
      let next = fits.next in let front = fits.front in
      let sent : q.sent ≡ published_below r.sent (hi + 1) = ap (λ (x : SenderRecord). x.sent) new in
      subst (λ (x : SenderRecord). TriesToPublish x lo hi q (Ok tt)) same
      (accepted r.sent lo hi (omega arith) order (omega arith) (ready all), sent, new ∙ ap (λ (x : Sent Event). record r { sent = x }) (sym sent))
