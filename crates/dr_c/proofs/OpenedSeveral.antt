-- The ends of a new ring of several senders.
use Rattle.std.proofs.Common.{◌≡◌, ℕ, zero, suc, All, List, length, map, replicate, sym, subst}
use Rattle.std.proofs.lemmas.List.Elements.{All-cons, All-nil}
use mathlib.Core.Option.{some-ne-none}
use denote.RawPtr.{Ptr}
use Rattle.atomic_table.specs.Seated.{TableId}
use Rattle.dr_seq.specs.declared.event.Event.{Event}
use Rattle.dr_seq.specs.Event.{no_event}
use Rattle.dr_plain_senders.specs.Meaning.Moments.{fresh_sender, fresh_senders}
use Rattle.dr_plain_senders.specs.Meaning.Shape.{Shape}
use Rattle.dr_plain_senders.specs.Calls.Ends.{SenderEnd, ReceiverEnd, HalterEnd}
use Rattle.dr_plain_senders.specs.Calls.Making.{AreFreshEnds, sender_at_ring}
use Rattle.dr_c.specs.declared.one_of_several.OneOfSeveral.{OneOfSeveral}
use Rattle.dr_c.specs.Opening.{FollowsMasks}
use Rattle.dr_c.specs.OpeningSeveral.{AreOpened, end_of}
use Rattle.dr_c.specs.Slots.{HasClaimed}

-- a sender of a new ring has nothing, so that all of it is what claims gave it
one_fresh : (ring : TableId) (k : Shape Event) (p : ℕ) → HasClaimed (sender_at_ring ring k (fresh_sender p))
one_fresh ring k p = record {
  once = λ i j o q here there same. absurd (some-ne-none o (sym here));
  within = λ i o here. absurd (some-ne-none o (sym here));
}

all_fresh : (ring : TableId) (k : Shape Event) (p n : ℕ) → All HasClaimed (map (sender_at_ring ring k) (fresh_senders p n))
all_fresh ring k p zero = All-nil HasClaimed
all_fresh ring k p (suc n) = All-cons HasClaimed _ _ (one_fresh ring k p) (all_fresh ring k (suc p) n)

pub fresh_claimed : (k : Shape Event) (ss : List (SenderEnd Event)) (rs : List (ReceiverEnd Event)) (h : HalterEnd Event) → AreFreshEnds k ss rs h
    → All HasClaimed ss
fresh_claimed k ss rs h fresh = subst (All HasClaimed) (sym fresh.senders) (all_fresh h.ring k 0 k.senders)

pub opened_by : (size limit : ℕ) (masks : List ℕ) (senders : ℕ) (graph : List (List ℕ)) (strip : Ptr) (events : List Event) (ss : List (SenderEnd Event))
    (each : List OneOfSeveral) (rs : List (ReceiverEnd Event)) (h : HalterEnd Event) → length graph ≡ length masks → FollowsMasks graph masks
    → AreFreshEnds (record { upstreams = graph; size = size; limit = limit; senders = senders; strip = strip; begun = events }) ss rs h
    → events ≡ replicate size no_event → map end_of each ≡ ss → AreOpened size limit masks senders (map end_of each) rs h
opened_by size limit masks senders graph strip events ss each rs h all follows fresh zeros same = record {
  graph = graph;
  all = all;
  follows = follows;
  strip = strip;
  fresh =
      subst (λ (es : List Event). AreFreshEnds (record { upstreams = graph; size = size; limit = limit; senders = senders; strip = strip; begun = es }) (map end_of each) rs h)
      zeros (subst (λ (es : List (SenderEnd Event)).
      AreFreshEnds (record { upstreams = graph; size = size; limit = limit; senders = senders; strip = strip; begun = events }) es rs h) (sym same) fresh);
}
