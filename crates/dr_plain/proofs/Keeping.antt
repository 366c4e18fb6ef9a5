-- The ends of a ring stay all of its ends while each keeps its place.
use Rattle.std.proofs.Common.{◌≡◌, ℕ, ◌<◌, List, length, get_or, set, map, sym, refl, ap, ◌∙◌, arith}
use Rattle.std.proofs.lemmas.List.{length-map, get_or-map}
use lib.Seq.{map-set_same}
use mathlib.Core.Option.{some}
use lib.ListN.{get_elem?}
use Rattle.dr_plain.specs.Meaning.Shape.{handlers_of}
use Rattle.dr_plain.specs.Calls.Ends.{SenderEnd, ReceiverEnd, HalterEnd, SenderPlace, ReceiverPlace, sender_place, receiver_place}
use Rattle.dr_plain.specs.Calls.Settling.{AreAllEnds, AreReceiversOf}
use Rattle.dr_runs.proofs.Elements.{there, at_below, value_at}

module _ {T : Type 0} where
  -- the place of the receiver h
  place_at : (rs : List (ReceiverEnd T)) (h : ℕ) (e : ReceiverEnd T) (d : ReceiverPlace) → get_elem? rs h ≡ some e → get_or (map receiver_place rs) h d ≡ receiver_place e
  place_at rs h e d at = get_or-map receiver_place rs h e d (at_below rs h e at) ∙ ap receiver_place (value_at rs h e e at)

  -- the sender and each receiver keep their places
  still_receivers : (s s' : SenderEnd T) (rs rs' : List (ReceiverEnd T)) → sender_place s' ≡ sender_place s → map receiver_place rs' ≡ map receiver_place rs
      → AreReceiversOf s rs → AreReceiversOf s' rs'
  still_receivers s s' rs rs' sends places A =
      let count : length rs' ≡ length rs = sym (length-map rs' receiver_place) ∙ ap length places ∙ length-map rs receiver_place in record {
        all = count ∙ A.all ∙ ap (λ (p : SenderPlace). handlers_of p.1) (sym sends);
        each = λ h e' at. (
            let inside : h < length rs = (let b = at_below rs' h e' at in omega arith) in let old = there rs h inside in let was = A.each h old.0 old.1 in
            let p = receiver_place e' in
            let same : p ≡ receiver_place old.0 = sym (place_at rs' h e' p at) ∙ ap (λ (ps : List ReceiverPlace). get_or ps h p) places ∙ place_at rs h old.0 p old.1 in
            (ap (λ (x : ReceiverPlace). x.0) same ∙ was.0 ∙ ap (λ (x : SenderPlace). x.0) (sym sends), ap (λ (x : ReceiverPlace). x.2) same ∙ was.1));
      }

  pub still_all : (s s' : SenderEnd T) (rs rs' : List (ReceiverEnd T)) (t : HalterEnd T) → sender_place s' ≡ sender_place s → map receiver_place rs' ≡ map receiver_place rs
      → AreAllEnds s rs t → AreAllEnds s' rs' t
  still_all s s' rs rs' t sends places A = record {
    receivers = still_receivers s s' rs rs' sends places A.receivers;
    halter = A.halter ∙ ap (λ (x : SenderPlace). x.0) (sym sends);
  }

  -- one receiver is called, and keeps its place
  pub all_receiver_at : (s : SenderEnd T) (rs : List (ReceiverEnd T)) (t : HalterEnd T) (h : ℕ) (e e' : ReceiverEnd T) → AreAllEnds s rs t → e ≡ get_or rs h e
      → receiver_place e' ≡ receiver_place e → AreAllEnds s (set rs h e') t
  all_receiver_at s rs t h e e' A at same = still_all s s rs (set rs h e') t refl (map-set_same receiver_place rs h e' e (same ∙ ap receiver_place at)) A
