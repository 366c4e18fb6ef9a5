-- What is noted as written, and what a write, a claim and a publication leave of that.
use Rattle.std.proofs.Common.{◌≡◌, ℕ, ◌+◌, ◌-◌, ◌<◌, ◌≤◌, inl, inr, true, false, is_some, List, ◌++◌, length, get_or, set, replicate}
use Rattle.std.proofs.Common.{Option, Some, None, sym, refl, ap, ◌∙◌, subst, arith, length-set, get_or-set_same, get_or-set_other}
use Rattle.std.proofs.lemmas.Bool.{cases_eq, cases_lt, le-ltb, or_from}
use Rattle.std.proofs.lemmas.List.{length-append, length-replicate, get_or_append_left, get_or-append_right, get_or-replicate}
use Rattle.dr_seq.specs.declared.event.Event.{Event}
use Rattle.dr_runs.specs.declared.written.Written.{Written}
use Rattle.dr_runs.specs.declared.look.Look.{Look}
use Rattle.dr_ring.specs.declared.record.SenderRecord.{SenderRecord}
use Rattle.dr_ring.specs.Meaning.Records.{claimed, written}
use Rattle.dr_ring.specs.Inside.Scans.{sender_saw, more_claimed}
use Rattle.dr_ring.specs.Inside.Noted.{Noted}
use Rattle.dr_runs.specs.OneSender.Noted.{Notes, is_noted, AreNoted}
use Rattle.dr_runs.proofs.Noting.{notes_one}

some_of : (o : Option Event) → is_some o ≡ true → (v : Event) × (o ≡ Some v)
some_of None e = absurd (cc)
some_of (Some v) e = (v, refl)

none_of : (o : Option Event) → is_some o ≡ false → o ≡ None
none_of None e = refl
none_of (Some v) e = absurd (cc)

-- what is noted of an open sequence
noted_at : (r : SenderRecord) (w : Written) (s : ℕ) → Noted r w → length r.sent.published ≤ s → s < claimed r
    → is_noted w s ≡ is_some (get_or r.sent.pending (s - length r.sent.published) None)
noted_at r w s N after within =
    let here : length r.sent.published + (s - length r.sent.published) ≡ s = omega arith in
    subst (λ (t : ℕ). is_noted w t ≡ is_some (get_or r.sent.pending (s - length r.sent.published) None)) here
    (N.each (s - length r.sent.published) (omega arith))

pub noted_written : (r : SenderRecord) (w : Written) (lo hi : ℕ) → Noted r w → AreNoted w lo hi → length r.sent.published ≤ lo → hi < claimed r
    → (s : ℕ) → lo ≤ s → s ≤ hi → (v : Event) × (get_or r.sent.pending (s - length r.sent.published) None ≡ Some v)
noted_written r w lo hi N all after within s low high = some_of _ (sym (noted_at r w s N (omega arith) (omega arith)) ∙ all s low high)

pub unnoted_open : (r : SenderRecord) (w : Written) (s : ℕ) → Noted r w → is_noted w s ≡ false → length r.sent.published ≤ s → s < claimed r
    → get_or r.sent.pending (s - length r.sent.published) None ≡ None
unnoted_open r w s N other after within = none_of _ (sym (noted_at r w s N after within) ∙ other)

pub noted_write : (r : SenderRecord) (w w' : Written) (s : ℕ) (v : Event) → 0 < r.plan.size → length r.sent.published ≤ s → s < claimed r
    → claimed r ≤ r.plan.size + length r.sent.published → Noted r w → Notes w s w' → Noted (written r s v) w'
noted_write r w w' s v some after within near N notes =
    let len = length r.sent.published in let at = s - len in
    let same : length (set r.sent.pending at (Some v)) ≡ length r.sent.pending = length-set r.sent.pending at (Some v) in
    let one = notes_one r.plan.size (claimed r) w s w' N.slots some within (omega arith) N.upto N.fresh notes in
    let upto = one.upto in
    record {
      slots = one.slots;
      upto = omega arith;
      fresh = λ k l. one.fresh k (omega arith);
      each = λ i below. elim (cases_eq i at) [
        | inl e ↦ (let here : s ≡ len + i = omega arith in
            subst (λ (t : ℕ). is_noted w' t ≡ true) here one.here
            ∙ sym (subst (λ (t : ℕ). is_some (get_or (set r.sent.pending at (Some v)) t None) ≡ true) (sym e)
            (ap is_some (get_or-set_same r.sent.pending at (Some v) None (omega arith)))))
        | inr ne ↦ one.others (len + i) (λ g. ne (omega arith)) (omega arith) (omega arith) ∙ N.each i (omega arith)
            ∙ sym (ap is_some (get_or-set_other r.sent.pending at i (Some v) None ne))
      ];
    }

pub noted_claim : (r : SenderRecord) (w : Written) (seen : List Look) (q : ℕ) → Noted r w → Noted (more_claimed (sender_saw r seen) q) w
noted_claim r w seen q N =
    let nothing : Option Event = None in let len = length r.sent.published in let upto = N.upto in
    let longer : length (r.sent.pending ++ replicate q nothing) ≡ length r.sent.pending + q =
    omega (arith, length-append r.sent.pending (replicate q nothing), length-replicate q nothing) in record {
      slots = N.slots;
      upto = omega arith;
      fresh = λ s l. N.fresh s (omega arith);
      each = λ i below. elim (cases_lt i (length r.sent.pending)) [
        | inl lt ↦ N.each i lt ∙ sym (ap is_some (get_or_append_left r.sent.pending (replicate q nothing) None i lt))
        | inr past ↦ or_from _ _ (le-ltb (len + i) w.upto (omega arith)) (N.fresh (len + i) (omega arith))
            ∙ sym (ap is_some (get_or-append_right r.sent.pending (replicate q nothing) (length r.sent.pending) i None refl past
            ∙ get_or-replicate q (i - length r.sent.pending) nothing None (omega arith)))
      ];
    }
