-- What a call does to a history.
use Rattle.std.proofs.Common.{◌≡◌, ◌^◌, ◌≤◌, ◌+◌, List, [], ◌∷◌, ◌++◌, refl, ap, sym, subst, ◌∙◌, length, map, true, false, ◌&&◌, slice_index}
use Rattle.std.specs.Prelude.{nat_lt, ◌==◌}
use Rattle.std.proofs.lemmas.Bool.{cond_both}
use Rattle.std.proofs.lemmas.List.{map_push, length-map, length-append}
use Rattle.dr_seq.specs.Size.{IsSize}
use Rattle.dr_meaning.specs.declared.command.Command.{Command}
use Rattle.dr_meaning.specs.declared.command.Command.TheVariants.{Claim, Write, Publish, Poll, Complete, Halt, Retire}
use Rattle.dr_meaning.specs.declared.command.Reply.{Reply}
use Rattle.dr_meaning.specs.Meaning.Machine.{Setup, State, Outcome, step, refusals, accepted, available, cursor, next, opening}
use Rattle.dr_core.specs.Calls.CoreView.{CoreView}
use Rattle.dr_core.specs.Calls.Shows.{Shows, IsStep}
use Rattle.dr_core.specs.Calls.Reached.{RunsTo}
use Rattle.dr_meaning.specs.Meaning.Runs.{count_in}
use Rattle.dr_meaning.proofs.Steps.{unless-cases}
use Rattle.dr_meaning.specs.Meaning.Laws.{Laws}
use Rattle.dr_meaning.specs.Meaning.Transcript.{Transcript, LeadsTo, entry_with}
use Rattle.dr_core.proofs.Running.{transcript_push, counts-push}
use Rattle.dr_lock.specs.declared.entry.Entry.{Entry}
use Rattle.dr_lock.specs.Calls.Lock.{IsAnswer}
use Rattle.dr_lock.proofs.Going.{goes_nowhere}
use Rattle.dr_lock.specs.Meaning.History.{is_kept, AreKept, transcript_of_entries, IsRecorded}

-- The core's laws, as its public functions state them.

abbrev pub AllLawful : Type 0 → Type 0
AllLawful E = (c : Setup) (t : Transcript E) (m : State E) → LeadsTo c t m → Laws c t

abbrev pub AllLeadOn : Type 0 → Type 0
AllLeadOn E = (t : Transcript E) (old new : CoreView E) (command : Command E) (reply : Reply) (values : List E)
    → RunsTo old.setup t old → IsStep old command reply values new → RunsTo new.setup (t ++ entry_with command reply values ∷ []) new

-- a new core's history
pub recorded_none : {E : Type 0} → AllLawful E → (c : Setup) (core : CoreView E) (entries : List (Entry E)) (values : List E)
    → core.setup ≡ c → entries ≡ [] → values ≡ [] → Shows core (opening c) → c.limit ≤ 2 ^ 62 → IsSize core.setup.size
    → IsRecorded (record { core = core; entries = entries; values = values })
recorded_none lawful c core entries values same none none_given shows small size =
    rw (none, none_given) (record {
      small = rw same small;
      size = size;
      kept = tt;
      counted = refl;
      runs = record {
        state = opening core.setup;
        leads = refl;
        shows = rw (← same) at shows;
        lawful = lawful core.setup [] (opening core.setup) refl;
      };
    })

-- a reply that is not kept changes nothing
abbrev Stays : {E : Type 0} → State E → Outcome E → Type 0
Stays m o = is_kept o.reply ≡ false → o.state ≡ m

accepted_stays : {E : Type 0} (c : Setup) (m : State E) (command : Command E) → Stays m (accepted c m command)
accepted_stays c m (Claim p n) e = absurd (cc)
accepted_stays c m (Write p s v) e = absurd (cc)
accepted_stays c m (Publish p lo hi) e = absurd (cc)
accepted_stays c m (Poll h limit) e =
    cond_both (nat_lt (slice_index m.taken h) (available c m h)) _ _ (Stays m) (λ y e. absurd (cc))
    (λ n. cond_both (m.halted && (slice_index m.taken h == next m)) _ _ (Stays m) (λ y e. refl) (λ n'. cond_both (nat_lt (slice_index m.taken h) (cursor c m)) _ _ (Stays m) (λ y e. refl) (λ n'' e. refl))) e
accepted_stays c m (Complete h upto) e = absurd (cc)
accepted_stays c m Halt e = absurd (cc)
accepted_stays c m (Retire h) e = absurd (cc)

step_stays : {E : Type 0} (c : Setup) (m : State E) (command : Command E) → Stays m (step c m command)
step_stays c m command = unless-cases (Stays m) (refusals c m command) m (accepted c m command) (λ r e. refl) (λ none. accepted_stays c m command)

-- a call that is not kept
pub recorded_same : {E : Type 0} (old new : CoreView E) (entries : List (Entry E)) (values more : List E) (command : Command E) (reply : Reply)
    → is_kept reply ≡ false → IsStep old command reply more new
    → IsRecorded (record { core = old; entries = entries; values = values }) → IsRecorded (record { core = new; entries = entries; values = values })
recorded_same {E} old new entries values more command reply e is r =
    let m : State E = r.runs.state in
    let sh : Shows old m = r.runs.shows in
    let stays : (step old.setup m command).state ≡ m = step_stays old.setup m command (ap is_kept (is.replies m sh) ∙ e) in
    record { small = rw is.same_setup r.small; size = rw is.same_setup r.size; kept = r.kept; counted = r.counted; runs = subst (λ c. RunsTo c (transcript_of_entries entries values) new) (sym is.same_setup) (record { state = m; leads = r.runs.leads; shows = rw stays at (is.shown m sh); lawful = r.runs.lawful }) }

kept_push : {E : Type 0} (entries : List (Entry E)) (e : Entry E) → AreKept entries → is_kept e.reply ≡ true → AreKept (entries ++ e ∷ [])
kept_push [] e all keeps = (keeps, tt)
kept_push (x ∷ xs) e all keeps = (all.0, kept_push xs e all.1 keeps)

-- a call that is kept
pub recorded_more : {E : Type 0} → AllLeadOn E
    → (old new : CoreView E) (entries : List (Entry E)) (values more : List E) (command : Command E) (reply : Reply)
    → is_kept reply ≡ true → length more ≡ count_in reply → IsStep old command reply more new
    → IsRecorded (record { core = old; entries = entries; values = values })
    → IsRecorded (record { core = new; entries = entries ++ record { command = command; reply = reply } ∷ []; values = values ++ more })
recorded_more {E} on old new entries values more command reply keeps len is r =
    let e : Entry E = record { command = command; reply = reply } in
    let same : length (map (λ e. e.reply) entries) ≡ length (map (λ e. e.command) entries) = length-map entries (λ e. e.reply) ∙ sym (length-map entries (λ e. e.command)) in
    let push : transcript_of_entries (entries ++ e ∷ []) (values ++ more) ≡ transcript_of_entries entries values ++ entry_with command reply more ∷ [] =
    rw (map_push (λ e. e.command) entries e, map_push (λ e. e.reply) entries e)
    (transcript_push (map (λ e. e.command) entries) (map (λ e. e.reply) entries) values command reply more same r.counted len) in
    record {
      small = rw is.same_setup r.small;
      size = rw is.same_setup r.size;
      kept = kept_push entries e r.kept keeps;
      counted = rw (length-append, map_push, counts-push, len) (ap (λ n. n + count_in reply) r.counted);
      runs = rw push (on (transcript_of_entries entries values) old new command reply more r.runs is);
    }

-- a step from a recorded core is an answer of the machine
pub answered : {E : Type 0} (old new : CoreView E) (entries : List (Entry E)) (values more : List E) (command : Command E) (reply : Reply)
    → IsStep old command reply more new → IsRecorded (record { core = old; entries = entries; values = values })
    → IsAnswer (record { core = old; entries = entries; values = values }) command reply more
answered old new entries values more command reply is r = record {
  before = record { core = old; entries = entries; values = values };
  goes_on = goes_nowhere (record { core = old; entries = entries; values = values });
  recorded = r;
  replies = is.replies r.runs.state r.runs.shows;
  gives = is.hands_out r.runs.state r.runs.shows;
}
