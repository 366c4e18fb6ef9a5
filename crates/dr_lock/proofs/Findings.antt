-- What an audit finds, from its two halves.
use Rattle.std.specs.Prelude.{is_none, true, false}
use Rattle.std.proofs.Common.{◌≡◌, ℕ, ◌<◌, ◌≤◌, List, sym, ap, ◌∙◌, length, slice_index}
use Rattle.dr_core.specs.Calls.CoreView.{retired_in}
use Rattle.dr_meaning.specs.Meaning.Machine.{Setup, State, handlers, producers, opening}
use Rattle.dr_meaning.specs.Meaning.Transcript.{Transcript, LeadsTo, taken_by, retired_by}
use Rattle.dr_meaning.specs.Meaning.Tells.{Tells}
use Rattle.dr_lock.specs.declared.audit_fault.AuditFault.{AuditFault}
use Rattle.dr_lock.specs.declared.audit_fault.AuditFault.TheVariants.{ScriptDiffers, NotDrained, NoMemory}
use Rattle.dr_lock.specs.declared.entry.Entry.{Entry}
use Rattle.dr_lock.specs.declared.sequences.Sequence.{Sequence}
use Rattle.dr_lock.specs.Meaning.Audit.{Faults, FirstLacks, IsAudited, SentScript, TookAll, published_by, published_by_all}
use Rattle.dr_lock.specs.Inside.Auditing.{Differs, SentIn, TookIn, Undrained}
use Rattle.dr_lock.specs.Meaning.History.{History, IsRecorded, transcript}
use Rattle.dr_lock.specs.Inside.Sequences.{Follows, Lists, published_of, sent_of}
use Rattle.dr_meaning.proofs.FiveLaws.{reached}
use Rattle.dr_core.proofs.Shown.{same_taken, same_retired}
use Rattle.dr_lock.proofs.Reached.{IsHeld, held}
use Rattle.dr_lock.proofs.Audited.{published_is, sent_is, received_all, received_some, merged, all_sent}
use Rattle.dr_lock.proofs.Following.{follows_of}

-- the core's law, as its public function states it
abbrev pub AllTell : Type 0 → Type 0
AllTell E = (c : Setup) (t : Transcript E) (m : State E) → LeadsTo c t m → Tells t m

pub followed : {E : Type 0} (k : History E) (r : IsRecorded k) (entries : List (Entry E)) → entries ≡ k.entries
    → Follows k.core.setup (opening k.core.setup) entries r.runs.state
followed k r entries is = rw is (follows_of k.core.setup (opening k.core.setup) k.entries k.values r.runs.state r.kept r.runs.leads)

-- the list that was made of a history's entries
pub lists_of : {E : Type 0} (k : History E) (r : IsRecorded k) (entries : List (Entry E)) → entries ≡ k.entries → (list : List (Sequence E))
    → ((c : Setup) (end : State E) → Follows c (opening c) entries end → Lists list end) → Lists list r.runs.state
lists_of k r entries is list made = made k.core.setup r.runs.state (followed k r entries is)

-- a list of sequences in which each producer below a bound sent its script, and the published events
pub record IsChecked {E : Type 0} (k : History E) (r : IsRecorded k) (scripts : List (List E)) (all : List E) : Type 0 where
  pub list : List (Sequence E)
  pub lists : Lists list r.runs.state
  pub bound : ℕ
  pub few : producers k.core.setup.mode ≤ bound
  pub short : length scripts ≤ bound
  pub same : (p : ℕ) → p < bound → SentIn list scripts p
  pub published : all ≡ published_of list

first_same : (P Q : ℕ → Type 0) (n : ℕ) → ((k : ℕ) → P k → Q k) → ((k : ℕ) → Q k → P k) → FirstLacks P n → FirstLacks Q n
first_same P Q n there back d = (λ q. d.0 (back n q), λ k l. there k (d.1 k l))

module _ {E : Type 0} (all_tell : AllTell E) (k : History E) (r : IsRecorded k) where
  told : Tells (transcript k) r.runs.state
  told = all_tell k.core.setup (transcript k) r.runs.state r.runs.leads

  is_held : IsHeld k.core.setup r.runs.state
  is_held = held k.core.setup (transcript k) r.runs.state r.runs.leads

  -- what is published is written
  are_written : (s : ℕ) → r.runs.state.published s ≡ true → is_none (r.runs.state.written s) ≡ false
  are_written = (reached k.core.setup (transcript k) r.runs.state r.runs.leads).sound.marks.written

  -- what the core counts and remembers is what the transcript tells
  taken_is : (h : ℕ) → taken_by (transcript k) h ≡ slice_index k.core.taken h
  taken_is h = told.taken h ∙ ap (λ ns. slice_index ns h) (same_taken r.runs.shows)

  retired_is : (h : ℕ) → retired_by (transcript k) h ≡ retired_in k.core h
  retired_is h = told.retired h ∙ same_retired r.runs.shows h

  module _ (list : List (Sequence E)) (lists : Lists list r.runs.state) (scripts : List (List E)) where
    sent_as : (q : ℕ) → sent_of list q ≡ published_by (transcript k) q
    sent_as = sent_is k.core.setup (transcript k) r.runs.state told is_held list lists

    pub scripts_fault : (fault : AuditFault) → Differs list scripts fault
        → Faults (transcript k) (handlers k.core.setup) scripts fault
    scripts_fault (ScriptDiffers p) d = first_same (SentIn list scripts) (SentScript (transcript k) scripts) p (λ q e. sym (sent_as q) ∙ e) (λ q e. sent_as q ∙ e) d
    scripts_fault (NotDrained h) d = absurd d
    scripts_fault NoMemory d = tt

  module _ (scripts : List (List E)) (all : List E) (checked : IsChecked k r scripts all) where
    published : all ≡ published_by_all (transcript k)
    published = checked.published ∙ published_is k.core.setup (transcript k) r.runs.state told is_held checked.list checked.lists

    sent : (p : ℕ) → SentScript (transcript k) scripts p
    sent = all_sent k.core.setup (transcript k) r.runs.state told is_held checked.list checked.lists scripts checked.bound checked.few checked.short checked.same

    took_all : (h : ℕ) → TookIn k.core (length all) h → TookAll (transcript k) h
    took_all h took left = taken_is h ∙ took (sym (retired_is h) ∙ left) ∙ ap length published

    took_in : (h : ℕ) → TookAll (transcript k) h → TookIn k.core (length all) h
    took_in h took left = sym (taken_is h) ∙ took (retired_is h ∙ left) ∙ sym (ap length published)

    pub drained_fault : (count : ℕ) → count ≡ length all → (fault : AuditFault) → Undrained k.core count fault
        → Faults (transcript k) (handlers k.core.setup) scripts fault
    drained_fault count len (ScriptDiffers p) d = absurd d
    drained_fault count len (NotDrained h) d = (sent, d.0, first_same (TookIn k.core (length all)) (TookAll (transcript k)) h took_all took_in (rw len at d.1))
    drained_fault count len NoMemory d = absurd d

    pub audited : (count : ℕ) → count ≡ length all → ((h : ℕ) → h < handlers k.core.setup → TookIn k.core count h)
        → IsAudited (transcript k) (handlers k.core.setup) scripts all
    audited count len drained = record {
      sent = sent;
      received = λ h l left. received_all k.core.setup (transcript k) r.runs.state told is_held r.runs.lawful h l (took_all h (rw len at (drained h l)) left) ∙ sym published;
      left = λ h l gone. rw published (received_some k.core.setup (transcript k) r.runs.state told is_held r.runs.lawful h l);
      all = published;
      merged = rw published (merged k.core.setup (transcript k) r.runs.state told is_held are_written scripts sent);
    }
