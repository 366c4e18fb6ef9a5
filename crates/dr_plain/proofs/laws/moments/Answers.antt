use Rattle.std.proofs.Common.{◌≡◌, ℕ, ◌≤◌, ⊎_elim, List, [], ◌∷◌, ◌++◌, Option, length, Result, Ok, Err, subst, refl, ap, ◌∙◌}
use Rattle.std.specs.Prelude.{slice_index}
use mathlib.Core.Option.{some}
use lib.ListN.{get_elem?}
use Rattle.dr_meaning.specs.declared.refusal.Refusal.{Refusal}
use Rattle.dr_meaning.specs.declared.refusal.Refusal.TheVariants.{NoRoom, Halted, BadCount, Exhausted}
use Rattle.dr_meaning.specs.declared.command.Claimed.{Claimed}
use Rattle.dr_meaning.specs.Meaning.Machine.{State}
use Rattle.dr_runs.specs.OneSender.Words.{halt_word}
use Rattle.dr_runs.specs.declared.look.Look.{Look}
use Rattle.dr_runs.specs.Looks.{look, last_look}
use Rattle.dr_runs.proofs.Looks.{last_look_more}
use Rattle.dr_meaning.specs.Meaning.Machine as machine
use Rattle.dr_meaning.specs.Meaning.Transcript.{Transcript, LeadsFrom, LeadsTo}
use Rattle.dr_meaning.proofs.FiveLaws.{leads_append}
use Rattle.dr_plain.specs.Meaning.Shape.{Shape, IsShape, ring_setup}
use Rattle.dr_plain.specs.Meaning.Records.{claimed}
use Rattle.dr_plain.specs.Meaning.Rule.{World, KeepsRule}
use Rattle.dr_plain.specs.declared.record.SenderRecord.{SenderRecord}
use Rattle.dr_plain.specs.declared.record.Step.{Step}
use Rattle.dr_plain.specs.Calls.Sending.{gate_looks, LooksToClaim}
use Rattle.dr_plain.specs.Calls.Replies.{FoundHalt, DecidesClaim, picture_with, open_writes}
use Rattle.dr_plain.specs.Meaning.Moments.{Runs, new_world, picture_of}
use Rattle.dr_plain.proofs.Beginning.{kept_opening, keeps_runs, opens}
use Rattle.dr_plain.proofs.Pictures.{lead_runs}
use Rattle.dr_plain.proofs.Writings.{lead_open_writes}
use Rattle.dr_plain.proofs.Replies.{Decided, no_room_at, replies}
use Rattle.dr_plain.proofs.Rising.{rises_runs}
use Rattle.dr_plain.proofs.Later.{offers_what_was_there, hands_what_was_there}
use Rattle.dr_plain.proofs.Halting.{halted_runs}
use Rattle.dr_plain.proofs.Told.{look_tells, were_told}
use Rattle.dr_plain.proofs.laws.moments.Goals as goal

module _ {T : Type 0} (k : Shape) (steps : List (Step T)) (entries : Transcript T) (w : World T) (shape : IsShape k)
    (runs : Runs k steps entries (new_world k) w) where
  keeps : KeepsRule k w
  keeps = keeps_runs k steps entries (new_world k) w runs (kept_opening T k shape)

  leads : LeadsTo (ring_setup k) entries (picture_of k w)
  leads =
      subst (λ (m : State T). LeadsFrom (ring_setup k) m entries (picture_of k w)) (opens T k)
      (lead_runs k steps entries (new_world k) w runs (kept_opening T k shape))

  leads_with : (wrote : List (Option T)) → length wrote ≡ w.sender.pending
      → LeadsTo (ring_setup k) (entries ++ open_writes (length w.sender.published) wrote) (picture_with k w wrote)
  leads_with wrote all =
      leads_append (ring_setup k) entries (open_writes (length w.sender.published) wrote) (machine.opening (ring_setup k)) (picture_of k w)
      (picture_with k w wrote) leads (lead_open_writes k w keeps wrote all)

pub returns-clause-rule : goal.returns-clause-rule
returns-clause-rule g c = keeps

pub returns-clause-leads : goal.returns-clause-leads
returns-clause-leads g c = leads

pub returns-clause-writes : goal.returns-clause-writes
returns-clause-writes g c = leads_with

pub returns-clause-told : goal.returns-clause-told
returns-clause-told g c k steps entries w shape runs = were_told k (look_tells k) steps entries w runs

pub returns-clause-laws : goal.returns-clause-laws
returns-clause-laws g c k steps entries w shape runs =
    c.every_transcript_is_lawful.ensures (ring_setup k) entries (picture_of k w) (leads k steps entries w shape runs)

pub returns-clause-progress : goal.returns-clause-progress
returns-clause-progress g c k steps entries w shape runs =
    c.nobody_is_stuck.ensures (ring_setup k) entries (picture_of k w) shape.graph (leads k steps entries w shape runs)

-- A claim, by where it looked.

at_last : {T : Type 0} (w : World T) (seen xs : List Look) (v : ℕ) → FoundHalt w seen → seen ≡ xs ++ look halt_word v ∷ [] → slice_index w.words halt_word ≡ v
at_last w seen xs v found are = found ∙ ap (λ (ys : List Look). last_look 0 ys halt_word) are ∙ last_look_more 0 xs halt_word v

abbrev Decides : {T : Type 0} (k : Shape) (w : World T) → KeepsRule k w → ℕ → SenderRecord T → List Look → Result Claimed Refusal → Type 0
Decides k w K n r seen result =
    w.sender ≡ record r { looks = w.sender.looks } → LooksToClaim r n seen result → DecidesClaim k w n seen result → Decided k w K n result

-- any, where one that found the ring halted is decided, and one that found no room
decided : {T : Type 0} (k : Shape) (w : World T) (K : KeepsRule k w)
    → ((n : ℕ) (r : SenderRecord T) (seen : List Look) → Decides k w K n r seen (Err Halted))
    → ((n : ℕ) (r : SenderRecord T) (seen : List Look) → Decides k w K n r seen (Err NoRoom))
    → (n : ℕ) (r : SenderRecord T) (seen : List Look) (result : Result Claimed Refusal) → Decides k w K n r seen result
decided k w K halted behind n r seen (Err BadCount) same looks D = tt
decided k w K halted behind n r seen (Err Halted) same looks D = halted n r seen same looks D
decided k w K halted behind n r seen (Err Exhausted) same one D = at_last w seen [] 0 D one
decided k w K halted behind n r seen (Err NoRoom) same looks D = behind n r seen same looks D
decided k w K halted behind n r seen (Err other) same looks D = absurd looks
decided k w K halted behind n r seen (Ok c) same looks D = (at_last w seen (look halt_word 0 ∷ gate_looks r looks.0) 0 D.0 looks.2, D.1, D.2)

pub returns-clause-replies : goal.returns-clause-replies
returns-clause-replies g c k steps entries w shape runs =
    let K = keeps k steps entries w shape runs in
    replies k w K (decided k w K
    (λ n r seen same looks D. ⊎_elim (λ one. at_last w seen [] 1 D one) (λ late. at_last w seen (look halt_word 0 ∷ gate_looks r late.counts) 1 D late.saw) looks)
    (λ n r seen same looks D.
    let found = looks.1 in
    no_room_at k w K n found.before r looks.0 same found.last found.among found.behind
    (subst (λ (xs : List Look). (i : ℕ) (x : Look) → get_elem? xs i ≡ some x → slice_index w.words x.word ≤ x.value) looks.2 D)))

pub returns-clause-offers : goal.returns-clause-offers
returns-clause-offers g c k steps more entries rest w u shape runs on =
    offers_what_was_there k more rest w u on (keeps k steps entries w shape runs)

pub returns-clause-hands : goal.returns-clause-hands
returns-clause-hands g c k steps more entries rest w u shape runs on =
    hands_what_was_there k more rest w u on (keeps k steps entries w shape runs)

pub returns-clause-rises : goal.returns-clause-rises
returns-clause-rises g c k steps more entries rest w u shape runs on word =
    rises_runs word k more rest w u on (keeps k steps entries w shape runs)

pub returns-clause-halted : goal.returns-clause-halted
returns-clause-halted g c k steps more entries rest w u shape runs on halted =
    (halted_runs k more rest w u (claimed w.sender) on (keeps k steps entries w shape runs) (halted, refl)).1
