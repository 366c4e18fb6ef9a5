-- What senders wrote and did not publish, after all that a run says.
use Rattle.std.proofs.Common.{◌≡◌, ℕ, suc, ◌<◌, inl, inr, false, not, ◌==◌, if◌then◌else◌, List, [], ◌∷◌, ◌++◌, length, map, get_or, Option, Some}
use Rattle.std.proofs.Common.{sym, refl, ap, ◌∙◌, arith}
use Rattle.std.specs.Prelude.{is_some}
use Rattle.std.proofs.lemmas.Bool.{cases_Bool, eq-eqb, lt-leb}
use Rattle.std.proofs.lemmas.List.{length-map}
use mathlib.Core.Option.{some}
use lib.ListN.{get_elem?}
use Rattle.dr_meaning.specs.declared.refusal.Refusal.TheVariants.{AlreadyPublished}
use Rattle.dr_meaning.specs.declared.command.Command.TheVariants.{Write}
use Rattle.dr_meaning.specs.declared.command.Reply.TheVariants.{Refused, Written}
use Rattle.dr_meaning.specs.Meaning.Machine.{State, Outcome, step, refusals, accepted}
use Rattle.dr_meaning.specs.Meaning.Transcript.{Transcript, LeadsTo}
use Rattle.dr_meaning.proofs.Steps.{unless-none, unless-refused}
use Rattle.dr_runs.specs.Entries.{entry}
use Rattle.dr_runs.proofs.Elements.{at_below}
use Rattle.dr_plain_senders.specs.Meaning.Shape.{Shape, ring_setup}
use Rattle.dr_plain_senders.specs.declared.record.Stage.{Stage}
use Rattle.dr_plain_senders.specs.declared.record.SenderRecord.{SenderRecord}
use Rattle.dr_plain_senders.specs.Meaning.Records.{Owns, is_published}
use Rattle.dr_plain_senders.specs.Meaning.Rule.{World, KeepsRule}
use Rattle.dr_plain_senders.specs.Meaning.Moments.{stage_at, picture_of}
use Rattle.dr_plain_senders.specs.Calls.Replies.{AreOpen, written_with, picture_with, open_writes, RepliesIn}
use Rattle.dr_plain_senders.proofs.Machine.{at_stage, owner_at, wrote}
use Rattle.dr_plain_senders.proofs.Owners.{AllOwned}
use Rattle.dr_plain_senders.proofs.Pictures.{Leads, leads_on, leads_one}

module _ {T : Type 0} (k : Shape T) (w : World T) (K : KeepsRule k w) where
  -- the picture, where this is written
  abbrev writing : (ℕ → Option T) → State T
  writing f = record (picture_of k w) { written = f }

  claimed : length (map (λ (t : Stage T). t.owner) w.stages) ≡ length w.stages
  claimed = length-map w.stages (λ t. t.owner)

  write_step : (f : ℕ → Option T) (p s : ℕ) (e : T) (t : Stage T) → p < k.senders → get_elem? w.stages s ≡ some t → t.owner ≡ p → is_published t ≡ false
      → step (ring_setup k) (writing f) (Write p s e) ≡ record { reply = Written; values = []; state = wrote (writing f) s e }
  write_step f p s e t who at own hidden =
      let m = writing f in let len = claimed in let lt = at_below w.stages s t at in let owners = map (λ (x : Stage T). x.owner) w.stages in
      unless-none (refusals (ring_setup k) m (Write p s e)) m (accepted (ring_setup k) m (Write p s e)) (
        lt-leb k.senders p who,
        (
          lt-leb (length owners) s (omega arith),
          (
            ap is_published (at_stage w.stages s t at) ∙ hidden,
            (ap not (eq-eqb (get_or owners s 0) p (owner_at w.stages s t at ∙ own)), tt),
          ),
        ),
      )

  pub write_replies : (writes : List (ℕ × T)) (p s : ℕ) (event : T) (r : SenderRecord T) (t : Stage T) → get_elem? w.senders p ≡ some r → Owns r s t
      → RepliesIn k (picture_with k w writes) (Write p s event) (if is_published t then Refused AlreadyPublished else Written)
  write_replies writes p s event r t at mine =
      let m = picture_with k w writes in let f : ℕ → Option T = λ q. written_with writes (picture_of k w).written q in
      let who : p < k.senders = (let below = at_below w.senders p r at in let inlets = K.inlets in omega arith) in
      let own = (K.sent p r at).own mine.0 record { sequence = s; stage = t } mine.1 in let below = at_below w.stages s t own.1 in let len = claimed in
      let owners = map (λ (x : Stage T). x.owner) w.stages in let tests = refusals (ring_setup k) m (Write p s event) in
      elim (cases_Bool (is_published t)) [
        | inl shown ↦ rw shown (ap (λ (o : Outcome T). o.reply) (unless-refused AlreadyPublished tests m (accepted (ring_setup k) m (Write p s event))
            (inr (lt-leb k.senders p who, inr (lt-leb (length owners) s (omega arith), inl (ap is_published (at_stage w.stages s t own.1) ∙ shown, refl))))))
        | inr hidden ↦ rw hidden (ap (λ (o : Outcome T). o.reply) (write_step f p s event t who own.1 own.0 hidden))
      ]

  module _ (all : AllOwned w) where
    lead_writes : (writes : List (ℕ × T)) (f : ℕ → Option T) → AreOpen w writes
        → Leads k (open_writes w writes) (writing f) (writing (λ q. written_with writes f q))
    lead_writes [] f opened = refl
    lead_writes (x ∷ writes) f opened =
        let o = opened 0 x refl in let t = o.0 in let own = all x.0 t o.1 in let is = at_stage w.stages x.0 t o.1 in
        let who : t.owner < k.senders = (let below = at_below w.senders t.owner own.0 own.1 in let inlets = K.inlets in omega arith) in
        let f' : ℕ → Option T = λ q. if q == x.0 then Some x.1 else f q in let owner = ap (λ (y : Stage T). y.owner) is in
        let who' : (stage_at w.stages x.0).owner < k.senders = omega arith in
        leads_on (ring_setup k) (writing f) (writing f') (writing (λ q. written_with writes f' q))
        (entry (Write (stage_at w.stages x.0).owner x.0 x.1) Written []) (open_writes w writes)
        (leads_one k (Write (stage_at w.stages x.0).owner x.0 x.1) Written [] (writing f) (writing f')
        (write_step f (stage_at w.stages x.0).owner x.0 x.1 t who' o.1 (sym owner) (ap is_some o.2)))
        (lead_writes writes f' (λ i y at. opened (suc i) y at))

    -- what a run leads to, and then these writes
    pub leads_writes : (entries : Transcript T) (writes : List (ℕ × T)) → AreOpen w writes → LeadsTo (ring_setup k) entries (picture_of k w)
        → LeadsTo (ring_setup k) (entries ++ open_writes w writes) (picture_with k w writes)
    leads_writes entries writes opened leads =
        leads_on (ring_setup k) _ (picture_of k w) (picture_with k w writes) entries
        (open_writes w writes) leads (lead_writes writes (picture_of k w).written opened)
