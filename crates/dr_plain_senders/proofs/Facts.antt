-- What the rule of a ring comes to.
use Rattle.std.proofs.Common.{◌≡◌, ◌⊎◌, ℕ, ◌+◌, ◌<◌, ◌≤◌, inl, inr, List, [], length, Option, None, Some, sym, refl, ap, ◌∙◌, subst, arith}
use Rattle.std.specs.Prelude.{Contains}
use Rattle.std.proofs.lemmas.Bool.{cases_lt}
use Rattle.std.proofs.lemmas.List.{get_or_past}
use mathlib.Core.Option.{some}
use lib.ListN.{get_elem?}
use Rattle.dr_graph.specs.Meaning.Graph.{nobody, upstreams_of, IsOrderly, IsGated, IsGraph}
use Rattle.dr_runs.proofs.Elements.{there, at_below, contains_none, word_at}
use Rattle.dr_plain_senders.specs.Meaning.Shape.{Shape, handlers_of}
use Rattle.dr_plain_senders.specs.Meaning.Words.{count_word}
use Rattle.dr_plain_senders.specs.declared.record.Stage.{Stage}
use Rattle.dr_plain_senders.specs.declared.record.SenderRecord.{SenderRecord}
use Rattle.dr_plain_senders.specs.declared.record.ReceiverRecord.{ReceiverRecord}
use Rattle.dr_plain_senders.specs.Meaning.Rule.{World, Room, IsOut, ReceiverKept, KeepsRule}
use Rattle.dr_plain_senders.proofs.Places.{one_value}

-- something is there, or nothing
pub cases_option : {A : Type 0} (o : Option A) → (o ≡ None) ⊎ ((a : A) × (o ≡ Some a))
cases_option None = inl refl
cases_option (Some a) = inr (a, refl)

pub none_or_some : {A : Type 0} (o : Option A) (a : A) → o ≡ None → o ≡ Some a → ⊥
none_or_some o a none some_one = let e : ◌≡◌ {A = Option _} None (Some a) = sym none ∙ some_one in absurd (cc)

pub upstream_inside : {T : Type 0} (k : Shape T) → IsGraph k.upstreams → (h u : ℕ)
    → h < handlers_of k → Contains (upstreams_of k.upstreams h) u → u < handlers_of k
upstream_inside k graph h u lt has = let l : u < h = graph.layered h u has in omega arith

module _ {T : Type 0} where
  pub receiver_of_handler : (k : Shape T) (w : World T) → KeepsRule k w → (h : ℕ) → h < handlers_of k
      → (r : ReceiverRecord T) × (get_elem? w.receivers h ≡ some r) × ReceiverKept k w.words w.stages h r
  receiver_of_handler k w K h lt = let count = K.outlets in let t = there w.receivers h (omega arith) in (t.0, t.1, K.received h t.0 t.1)

  pub handler_inside : (k : Shape T) (w : World T) (h : ℕ) (r : ReceiverRecord T) → get_elem? w.receivers h ≡ some r → KeepsRule k w → h < handlers_of k
  handler_inside k w h r at K = let b = at_below w.receivers h r at in let e = K.outlets in omega arith

  -- completed counts fall along the graph
  pub orderly : (k : Shape T) (w : World T) → KeepsRule k w → IsOrderly k.upstreams (λ h. word_at w.words (count_word h))
  orderly k w K h u has =
      elim (cases_lt h (handlers_of k)) [
        | inl lt ↦
            let t : (r : ReceiverRecord T) × (get_elem? w.receivers h ≡ some r) × ReceiverKept k w.words w.stages h r = receiver_of_handler k w K h lt in
            let c : word_at w.words (count_word h) ≡ t.0.completed = t.2.count in
            let d : t.0.completed ≤ length t.0.received = t.2.completed in
            let a : length t.0.received ≤ word_at w.words (count_word u) = t.2.after u has in omega arith
        | inr past ↦ absurd (contains_none u (let e : upstreams_of k.upstreams h ≡ [] = get_or_past k.upstreams h [] past in
            subst (λ (ups : List ℕ). Contains ups u) e has))
      ]

  -- what the final handlers leave room for is no more than a round ahead of any handler
  pub ahead_of_all : (k : Shape T) (w : World T) (n : ℕ) → KeepsRule k w → Room k w.words n
      → (h : ℕ) → h < handlers_of k → n ≤ k.size + word_at w.words (count_word h)
  ahead_of_all k w n K room h lt =
      let g : IsGated k.upstreams nobody (λ h. word_at w.words (count_word h)) h =
      K.shape.graph.gate nobody (λ h. word_at w.words (count_word h)) (orderly k w K) h lt refl in
      let r : n ≤ k.size + word_at w.words (count_word g.last) = room g.last g.final in
      let b : word_at w.words (count_word g.last) ≤ word_at w.words (count_word h) = g.behind in omega arith

  -- no claim is more than a round ahead of any handler
  pub above : (k : Shape T) (w : World T) → KeepsRule k w → (h : ℕ) → h < handlers_of k → length w.stages ≤ k.size + word_at w.words (count_word h)
  above k w K h lt = ahead_of_all k w (length w.stages) K K.room h lt

  -- what a receiver took is published, as it took it
  pub taken_out : (k : Shape T) (w : World T) (h s : ℕ) (r : ReceiverRecord T) → get_elem? w.receivers h ≡ some r → s < length r.received → KeepsRule k w
      → IsOut w.stages s
  taken_out k w h s r at lt K = let l = there r.received s lt in (l.0, (K.received h r at).beginning s l.0 l.1)

  -- what is completed by some handler is published
  pub completed_out : (k : Shape T) (w : World T) (h s : ℕ) → h < handlers_of k → s < word_at w.words (count_word h) → KeepsRule k w → IsOut w.stages s
  completed_out k w h s inside lt K =
      let o = receiver_of_handler k w K h inside in let a = o.2.count in let b = o.2.completed in taken_out k w h s o.0 o.1 (omega arith) K

  -- what is not published is not taken, so its cell is its own
  pub near_open : (k : Shape T) (w : World T) (s : ℕ) (t : Stage T)
      → get_elem? w.stages s ≡ some t → t.lent ≡ None → KeepsRule k w → length w.stages ≤ s + k.size
  near_open k w s t at unshown K =
      let some_one = K.shape.graph.some in let a = above k w K 0 some_one in
      elim (cases_lt s (word_at w.words (count_word 0))) [
        | inl done ↦ absurd (let x = completed_out k w 0 s some_one done K in let same : t ≡ x.1.0 = one_value w.stages s t x.1.0 at x.1.1 in
            none_or_some t.lent x.0 unshown (ap (λ (y : Stage T). y.lent) same ∙ x.1.2))
        | inr ahead ↦ omega arith
      ]

  -- a receiver took only what is claimed
  pub taken_claimed : (k : Shape T) (w : World T) (h : ℕ) (r : ReceiverRecord T) → get_elem? w.receivers h ≡ some r → KeepsRule k w
      → length r.received ≤ length w.stages
  taken_claimed k w h r at K = elim (cases_lt (length w.stages) (length r.received)) [
    | inl over ↦ absurd (let x = taken_out k w h (length w.stages) r at over K in let b = at_below w.stages (length w.stages) x.1.0 x.1.1 in omega arith)
    | inr within ↦ within
  ]

  -- a sequence that a sender has
  pub owned : (k : Shape T) (w : World T) (p : ℕ) (r : SenderRecord T) (s i : ℕ) (t : Stage T) → get_elem? w.senders p ≡ some r
      → get_elem? r.own i ≡ some record { sequence = s; stage = t } → KeepsRule k w
      → (t.owner ≡ p) × (get_elem? w.stages s ≡ some t)
  owned k w p r s i t at has K = (K.sent p r at).own i record { sequence = s; stage = t } has

  -- a claimed sequence whose cell is claimed again is published
  pub out_behind : (k : Shape T) (w : World T) (z s : ℕ) → z + k.size ≤ s → s < length w.stages → KeepsRule k w → IsOut w.stages z
  out_behind k w z s behind inside K =
      let some_one = K.shape.graph.some in let a = above k w K 0 some_one in completed_out k w 0 z some_one (omega arith) K
