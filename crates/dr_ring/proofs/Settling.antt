-- What a run of a ring says of its ends, once they come together.
use Rattle.std.proofs.Common.{◌≡◌, ℕ, ◌+◌, ◌≤◌, ◌<◌, List, length, get_or, ap, ◌∙◌, ⊎_elim, subst, arith}
use Rattle.std.specs.Prelude.{◌⊎◌, Contains}
use mathlib.Core.Option.{some}
use lib.ListN.{get_elem?}
use Rattle.dr_graph.specs.Meaning.Graph.{upstreams_of, finals}
use Rattle.dr_runs.proofs.Lists.{take_whole}
use Rattle.dr_ring.specs.Meaning.Shape.{Shape, handlers_of}
use Rattle.dr_runs.specs.OneSender.Words.{count_word, cursor_word}
use Rattle.dr_runs.specs.declared.look.Look.{Look}
use Rattle.dr_ring.specs.declared.record.SenderRecord.{SenderRecord}
use Rattle.dr_ring.specs.declared.record.ReceiverRecord.{ReceiverRecord}
use Rattle.dr_ring.specs.Meaning.Records.{claimed}
use Rattle.dr_ring.specs.Meaning.Rule.{World, KeepsRule}
use Rattle.dr_ring.proofs.Keeps.{receiver_of_handler}
use Rattle.dr_ring.specs.Meaning.Settling.{HasBeginning, FollowsUpstream, Settles}

-- what a receiver saw of publications and completions is there now, and no more is completed than published
saw_published : (k : Shape) (w : World) (h i u : ℕ) (r : ReceiverRecord) (x : Look) → get_elem? w.receivers h ≡ some r → KeepsRule k w
    → get_elem? r.looks i ≡ some x
    → (x.word ≡ cursor_word) ⊎ (x.word ≡ count_word u) → x.value ≤ length w.sender.sent.published
saw_published k w h i u r x at K there which =
    let past = (K.received h r at).looks i x there in
    let before = past.before in
    let rises = past.rises in
    ⊎_elim (λ cursor. let now : get_or w.words x.word 0 ≡ length w.sender.sent.published =
    ap (λ (n : ℕ). get_or w.words n 0) cursor ∙ K.counts.cursor in omega arith)
    (λ count.
    let below : u < handlers_of k = omega arith in
    let other = receiver_of_handler k w K u below in
    let now : get_or w.words x.word 0 ≡ other.0.completed = ap (λ (n : ℕ). get_or w.words n 0) count ∙ other.2.count in
    let completed = other.2.completed in
    let taken = other.2.taken in
    omega arith)
    which

agrees : (k : Shape) (w : World) (s : SenderRecord) (r : ReceiverRecord) → w.sender ≡ s → get_elem? w.receivers r.number ≡ some r → KeepsRule k w
    → HasBeginning s r
agrees k w s r same at K = let was = K.received r.number r at in subst (λ (q : SenderRecord). HasBeginning q r) same (record {
  beginning = was.beginning;
  taken = was.taken;
  drained = λ told. was.beginning ∙ take_whole w.sender.sent.published (length r.received) (was.told told).1;
  completed = was.completed;
  seen = λ i u x there which. saw_published k w r.number i u r x at K there which;
  room = λ has. (let final = subst (λ (p : Shape). Contains (finals p.upstreams) r.number) K.sender_plan has in
      let e : claimed w.sender ≤ k.size + get_or w.words (count_word r.number) 0 = K.room r.number final in
      let size : w.sender.plan.size ≡ k.size = ap (λ (p : Shape). p.size) K.sender_plan in let count = was.count in omega arith);
})

follows : (k : Shape) (w : World) (r u : ReceiverRecord) → get_elem? w.receivers r.number ≡ some r → get_elem? w.receivers u.number ≡ some u
    → KeepsRule k w → FollowsUpstream r u
follows k w r u at there K has =
    let was = K.received r.number r at in let other = K.received u.number u there in
    let le = was.after u.number (subst (λ (p : Shape). Contains (upstreams_of p.upstreams r.number) u.number) was.plan has) in
    let count = other.count in omega arith

-- the ends of a run agree
pub settles : (k : Shape) (w : World) (s : SenderRecord) (rs : List ReceiverRecord) → w.sender ≡ s
    → ((h : ℕ) (r : ReceiverRecord) → get_elem? rs h ≡ some r → get_elem? w.receivers r.number ≡ some r) → KeepsRule k w → Settles s rs
settles k w s rs same stand K = record {
  each = λ h r at. agrees k w s r same (stand h r at) K;
  follow = λ h j r u at there. follows k w r u (stand h r at) (stand j u there) K;
}
