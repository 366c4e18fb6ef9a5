-- A run of commands, one step after another.
use Rattle.std.proofs.Common.{◌≡◌, ℕ, ◌+◌, ◌<◌, ◌≤◌, List, [], ◌∷◌, ◌++◌, arith, refl, ap, sym, subst, ◌∙◌, length, take, drop, get_or, append_assoc}
use Rattle.std.proofs.lemmas.List.{drop_more, take_more, length-take-le, nil_from_length, take_all, append-nil}
use Rattle.std.proofs.lemmas.List.{take-append-le, drop-append-le, length-append, length-drop}
use Rattle.dr_meaning.specs.declared.command.Command.{Command}
use Rattle.dr_meaning.specs.declared.command.Command.TheVariants.{Claim, Write, Publish, Poll, Complete, Halt, Retire}
use Rattle.dr_meaning.specs.declared.command.Reply.{Reply}
use Rattle.dr_meaning.specs.Meaning.Machine.{Setup, State, step, opening}
use Rattle.dr_meaning.specs.Meaning.Transcript.{Transcript, entry_with, LeadsTo}
use Rattle.dr_core.specs.Calls.CoreView.{CoreView}
use Rattle.dr_core.specs.Calls.Shows.{Shows, IsStep}
use Rattle.dr_core.specs.Calls.Reached.{RunsTo, IsReached}
use Rattle.dr_meaning.specs.Meaning.Runs.{transcript_of, count_in, counts_of, offers, needed}
use Rattle.dr_meaning.proofs.FiveLaws.{lawful, leads_append}

-- one more command, reply and values are one more entry
pub transcript_push : {E : Type 0} (commands : List (Command E)) (replies : List Reply) (values : List E) (command : Command E) (reply : Reply) (more : List E)
    → length replies ≡ length commands → length values ≡ counts_of replies → length more ≡ count_in reply
    → transcript_of (commands ++ command ∷ []) (replies ++ reply ∷ []) (values ++ more) ≡ transcript_of commands replies values ++ record { command = command; reply = reply; values = more } ∷ []
transcript_push [] [] values command reply more a b d =
    let none : values ≡ [] = nil_from_length values b in
    rw (none) (ap (λ vs. record { command = command; reply = reply; values = vs } ∷ []) (take_all (count_in reply) more (omega arith)))
transcript_push [] (r ∷ rs) values command reply more a b d = absurd (omega arith)
transcript_push (c ∷ cs) [] values command reply more a b d = absurd (omega arith)
transcript_push (c ∷ cs) (r ∷ rs) values command reply more a b d =
    let le : count_in r ≤ length values = omega arith in
    let rest : length (drop (count_in r) values) ≡ counts_of rs = length-drop (count_in r) values ∙ omega arith in
    let same : length rs ≡ length cs = omega arith in
    let more' : transcript_of (cs ++ command ∷ []) (rs ++ reply ∷ []) (drop (count_in r) values ++ more) ≡ transcript_of cs rs (drop (count_in r) values) ++ record { command = command; reply = reply; values = more } ∷ [] = transcript_push cs rs (drop (count_in r) values) command reply more same rest d in
    rw (take-append-le (count_in r) values more le, drop-append-le (count_in r) values more le, more')

-- a step of the core leads one entry on
pub leads_step : {E : Type 0} (c : Setup) (old new : CoreView E) (t : Transcript E) (command : Command E) (reply : Reply) (values : List E) → old.setup ≡ c
    → IsStep old command reply values new
    → RunsTo c t old → RunsTo c (t ++ entry_with command reply values ∷ []) new
leads_step {E} c old new t command reply values same is at =
    let to : State E = (step c at.state command).state in
    let more : Transcript E = entry_with command reply values ∷ [] in
    let r : (step c at.state command).reply ≡ reply = rw same at (is.replies at.state at.shows) in
    let v : (step c at.state command).values ≡ values = rw same at (is.hands_out at.state at.shows) in
    let l : LeadsTo c (t ++ more) to = leads_append c t more (opening c) at.state to at.leads (r, v, refl) in
    record { state = to; leads = l; shows = rw same at (is.shown at.state at.shows); lawful = lawful c (t ++ more) to l }

pub step_leads_on : {E : Type 0} (t : Transcript E) (old new : CoreView E) (command : Command E) (reply : Reply) (values : List E)
    → RunsTo old.setup t old → IsStep old command reply values new → RunsTo new.setup (t ++ entry_with command reply values ∷ []) new
step_leads_on t old new command reply values at is =
    subst (λ c. RunsTo c (t ++ entry_with command reply values ∷ []) new) (sym is.same_setup) (leads_step old.setup old new t command reply values refl is at)

-- and what it leaves is reached where what it began with was
pub step_reached : {E : Type 0} {old new : (CoreView E)} {command : (Command E)} {reply : Reply} {values : List E} → IsStep old command reply values new
    → IsReached old → IsReached new
step_reached is was = record { transcript = _; runs = step_leads_on _ _ _ _ _ _ was.runs is }

pub counts-push : (replies : List Reply) (reply : Reply) → counts_of (replies ++ reply ∷ []) ≡ counts_of replies + count_in reply
counts-push [] reply = omega arith
counts-push (r ∷ rs) reply = (let e : counts_of (rs ++ reply ∷ []) ≡ counts_of rs + count_in reply = counts-push rs reply in omega arith)

-- the run so far, with one more command
pub run_step : {E : Type 0} (c : Setup) (old new : CoreView E) (t : Transcript E) (commands : List (Command E)) (i : ℕ) (d : Command E) (replies : List Reply) (values : List E) (reply : Reply) (more : List E)
    → i < length commands → length replies ≡ i → length values ≡ counts_of replies → length more ≡ count_in reply → old.setup ≡ c → IsStep old (get_or commands i d) reply more new
    → RunsTo c (t ++ transcript_of (take i commands) replies values) old → RunsTo c (t ++ transcript_of (take (i + 1) commands) (replies ++ reply ∷ []) (values ++ more)) new
run_step c old new t commands i d replies values reply more l told counted len same is at =
    let front : take (i + 1) commands ≡ take i commands ++ get_or commands i d ∷ [] = take_more commands i d l in
    let push : transcript_of (take i commands ++ get_or commands i d ∷ []) (replies ++ reply ∷ []) (values ++ more) ≡ transcript_of (take i commands) replies values ++ record { command = get_or commands i d; reply = reply; values = more } ∷ [] =
    transcript_push (take i commands) replies values (get_or commands i d) reply more (told ∙ sym (length-take-le i commands (omega arith))) counted len in
    rw (front, push, ← append_assoc) (leads_step c old new (t ++ transcript_of (take i commands) replies values) (get_or commands i d) reply more same is at)

-- a run of no commands
pub run_none : {E : Type 0} (c : Setup) (t : Transcript E) (m : State E) (v : CoreView E) → LeadsTo c t m → Shows v m → RunsTo c (t ++ []) v
run_none c t m v leads shows = rw append-nil (record { state = m; leads = leads; shows = shows; lawful = lawful c t m leads })

pub offers-le : {E : Type 0} (command : Command E) (size : ℕ) → offers command size ≤ size
offers-le (Claim p n) size = omega arith
offers-le (Write p s v) size = omega arith
offers-le (Publish p lo hi) size = omega arith
offers-le (Poll h limit) size = omega arith
offers-le (Complete h upto) size = omega arith
offers-le Halt size = omega arith
offers-le (Retire h) size = omega arith

-- the words that are left to hand out, one command on
pub needed-more : {E : Type 0} (commands : List (Command E)) (i : ℕ) (d : Command E) (size : ℕ) → i < length commands
    → needed (drop i commands) size ≡ offers (get_or commands i d) size + needed (drop (i + 1) commands) size
needed-more commands i d size l = ap (λ cs. needed cs size) (drop_more commands i d l)

pub room-first : {E : Type 0} (values : List E) (commands : List (Command E)) (room cap size here : ℕ) → values ≡ [] → room ≤ cap → room ≡ needed commands size
    → size ≡ here → length values + needed commands here ≤ cap
room-first values commands room cap size here a b d e =
    let n : room ≡ needed commands here = rw e at d in
    let z : length values ≡ 0 = ap length a in
    omega arith

pub room-more : {E : Type 0} (values more : List E) (commands : List (Command E)) (i : ℕ) (d : Command E) (size here cap cap' k : ℕ) → i < length commands
    → length values + needed (drop i commands) here ≤ cap → cap ≤ cap' → length more ≡ k → k ≤ offers (get_or commands i d) size → size ≡ here
    → length (values ++ more) + needed (drop (i + 1) commands) here ≤ cap'
room-more values more commands i d size here cap cap' k l room grows many fits same =
    let n : needed (drop i commands) here ≡ offers (get_or commands i d) here + needed (drop (i + 1) commands) here = needed-more commands i d here l in
    let f : k ≤ offers (get_or commands i d) here = rw same at fits in
    let s : length (values ++ more) ≡ length values + length more = length-append values more in
    omega arith
