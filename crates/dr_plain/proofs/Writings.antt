-- The writes that are not published yet lead the machine on.
use Rattle.std.proofs.Common.{◌≡◌, ℕ, zero, suc, ◌+◌, ◌<◌, ◌≤◌, ◌==◌, if◌then◌else◌, List, [], ◌∷◌, ◌++◌, length, get_or}
use Rattle.std.proofs.Common.{Option, Some, None, sym, refl, ap, ◌∙◌, subst, arith, append_assoc}
use Rattle.std.specs.Prelude.{not}
use Rattle.std.proofs.lemmas.Bool.{le-ltb, lt-leb}
use Rattle.std.proofs.lemmas.List.{length_push, length-map, length-replicate, append-nil}
use Rattle.dr_meaning.specs.declared.command.Command.TheVariants.{Write}
use Rattle.dr_meaning.specs.declared.command.Reply.TheVariants.{Written}
use Rattle.dr_meaning.specs.Meaning.Machine.{State, refusals, accepted, step}
use Rattle.dr_meaning.proofs.Steps.{unless-none}
use Rattle.dr_plain.specs.Meaning.Shape.{Shape, ring_setup}
use Rattle.dr_runs.specs.OneSender.Words.{cursor_word}
use Rattle.dr_plain.specs.Meaning.Records.{claimed}
use Rattle.dr_plain.specs.Meaning.Rule.{World, KeepsRule}
use Rattle.dr_plain.specs.Meaning.Moments.{picture_of}
use Rattle.dr_plain.specs.Calls.Replies.{picture_with, open_writes}
use Rattle.dr_runs.proofs.Elements.{word_at}
use Rattle.dr_plain.proofs.Machine.{Leads, values_of, next_place}
use Rattle.dr_plain.proofs.Pictures.{sent, sent_count}
use Rattle.dr_runs.proofs.OneSender.{leads_one, owner_is}

abbrev no_value : (T : Type 0) → Option T
no_value T = None

module _ {T : Type 0} where
  -- a sequence that stays unwritten
  next_open : (vs : List (Option T)) (q : ℕ) → get_or vs q None ≡ get_or (vs ++ None ∷ []) q None
  next_open [] zero = refl
  next_open [] (suc q) = refl
  next_open (x ∷ xs) zero = refl
  next_open (x ∷ xs) (suc q) = next_open xs q

  module _ (k : Shape) (w : World T) (K : KeepsRule k w) where
    -- the picture where these are written
    abbrev wrote : List (Option T) → State T
    wrote vs = record (picture_of k w) { written = λ s. get_or vs s None }

    write_one : (vs : List (Option T)) (s : ℕ) (e : T) → s ≡ length vs → length w.sender.published ≤ s → s < claimed w.sender
        → step (ring_setup k) (wrote vs) (Write 0 s e) ≡ record { reply = Written; values = []; state = wrote (vs ++ Some e ∷ []) }
    write_one vs s e count le lt =
        let m = wrote vs in let z : ℕ = 0 in let owned = length-replicate (claimed w.sender) z in let cursor = K.counts.cursor in
        unless-none (refusals (ring_setup k) m (Write 0 s e)) m (accepted (ring_setup k) m (Write 0 s e))
        (refl, (lt-leb (length m.owners) s (omega arith), (le-ltb s (word_at w.words cursor_word) (omega arith), (ap not (owner_is (claimed w.sender) s lt), tt))))
        ∙ (λ i. record { reply = Written; values = []; state = record m { written = λ q. if q == count i then Some e else get_or vs q None } })
        ∙ (λ i. record { reply = Written; values = []; state = record m { written = λ q. next_place vs (Some e) q i } })

    lead_open : (ws vs : List (Option T)) (s : ℕ) → s ≡ length vs → length w.sender.published ≤ s → s + length ws ≤ claimed w.sender
        → Leads k (open_writes s ws) (wrote vs) (wrote (vs ++ ws))
    lead_open [] vs s count le within = ap wrote (sym (append-nil vs))
    lead_open (None ∷ ws) vs s count le within =
        let rest = lead_open ws (vs ++ None ∷ []) (s + 1) (let l = length_push vs (no_value T) in omega arith) (omega arith) (omega arith) in
        let here : wrote (vs ++ None ∷ []) ≡ wrote vs = λ i. record (picture_of k w) { written = λ q. sym (next_open vs q) i } in
        subst (λ (m : State T). Leads k (open_writes (s + 1) ws) m (wrote (vs ++ None ∷ ws))) here
        (subst (λ (xs : List (Option T)). Leads k (open_writes (s + 1) ws) (wrote (vs ++ None ∷ [])) (wrote xs)) (append_assoc vs (None ∷ []) ws) rest)
    lead_open (Some e ∷ ws) vs s count le within =
        let rest = lead_open ws (vs ++ Some e ∷ []) (s + 1) (let l = length_push vs (Some e) in omega arith) (omega arith) (omega arith) in
        leads_one (ring_setup k) (Write 0 s e) Written [] (open_writes (s + 1) ws) (wrote vs) (wrote (vs ++ Some e ∷ [])) (wrote (vs ++ Some e ∷ ws))
        (write_one vs s e count le (omega arith))
        (subst (λ (xs : List (Option T)). Leads k (open_writes (s + 1) ws) (wrote (vs ++ Some e ∷ [])) (wrote xs)) (append_assoc vs (Some e ∷ []) ws) rest)

    pub lead_open_writes : (ws : List (Option T)) → length ws ≡ w.sender.pending
        → Leads k (open_writes (length w.sender.published) ws) (picture_of k w) (picture_with k w ws)
    lead_open_writes ws all =
        let count = sent_count w.sender.published in
        lead_open ws (values_of (sent w)) (length w.sender.published) (sym (length-map (sent w) (λ (event : T). Some event) ∙ count)) (omega arith) (omega arith)
