-- A core's line of its state is that of each state that it shows.
use Rattle.std.proofs.Common.{◌≡◌, ℕ, Bool, true, false, List, [], ◌∷◌, ◌++◌, refl, sym, ap, subst, ◌∙◌, Ok, Option, Some, length, map, take, flat_map, codes, decimal, slice_index}
use Rattle.std.specs.List.{range_with_len}
use Rattle.dr_seq.specs.declared.event.Event.{Event}
use Rattle.dr_graph.specs.Meaning.Graph.{finals_without, least_of, upstreams_of}
use Rattle.dr_meaning.specs.declared.command.Command.{Command}
use Rattle.dr_meaning.specs.declared.command.Reply.{Reply}
use Rattle.dr_meaning.specs.Meaning.Runs.{count_in}
use Rattle.dr_meaning.specs.Meaning.Machine.{Outcome, Setup, State, available, gate, handlers, least_completed, offered, step}
use Rattle.dr_core.specs.Calls.CoreView.{CoreView, gate_of, retired_in}
use Rattle.dr_core.specs.Calls.Shows.{Flags, Shows, offered_to}
use Rattle.dr_core.proofs.Shown.{same_completed, same_front, same_halted, same_next, same_retired, same_taken}
use Rattle.dr_records.specs.Records.{Field, Record}
use Rattle.dr_drive.specs.Meaning.Commands.{command_of}
use Rattle.dr_drive.specs.Meaning.DriveText.{obeys, told}
use Rattle.dr_drive.specs.Meaning.Lines.{line_of}
use Rattle.dr_drive.specs.Meaning.StateLine.{handler_text, ready, room, state_line}
use Rattle.dr_drive.specs.Calls.Shows.{ExchangeShows, Executes, IsObeyed, batch_of, core_of}
use Rattle.dr_drive.specs.Calls.Standing.{ready_in, room_in}
use Rattle.dr_drive.specs.Inside.States.{handler_seen, state_seen, with_state}
use Rattle.dr_drive.specs.declared.exchange.Exchange.{Exchange}

flat_map_agree : {A : Type 0} (f g : A → List ℕ) → ((x : A) → f x ≡ g x) → (xs : List A) → flat_map f xs ≡ flat_map g xs
flat_map_agree f g same [] = refl
flat_map_agree f g same (x ∷ xs) = rw (same x, flat_map_agree f g same xs) refl

module _ (v : CoreView Event) (m : State Event) (shows : Shows v m) where
  offered_same : (ups : List ℕ) → offered m ups ≡ offered_to v ups
  offered_same [] = same_front shows
  offered_same (u ∷ us) = ap (λ (counts : List ℕ). least_of (map (λ h. slice_index counts h) (u ∷ us))) (same_completed shows)

  pub available_same : (h : ℕ) → available v.setup m h ≡ offered_to v (upstreams_of v.setup.upstreams h)
  available_same h = offered_same (upstreams_of v.setup.upstreams h)

  pub ready_same : (h : ℕ) → ready v.setup m h ≡ ready_in v h
  ready_same h = rw (same_retired shows h, available_same h, same_taken shows) refl

  pub gate_same : gate v.setup m ≡ gate_of v
  gate_same =
      ap (λ (f : Flags). least_completed m (finals_without v.setup.upstreams f.retired)) shows.flags
      ∙ ap (λ (counts : List ℕ). least_of (map (λ h. slice_index counts h) (finals_without v.setup.upstreams (retired_in v)))) (same_completed shows)

  pub room_same : room v.setup m ≡ room_in v
  room_same = rw (gate_same, same_halted shows, same_next shows) refl

  handler_same : (h : ℕ) → handler_text v.names v.setup m h ≡ handler_seen v h
  handler_same h = rw (ready_same h, same_completed shows) refl

  line_same : state_line v.names v.setup m ≡ state_seen v
  line_same = rw (flat_map_agree (handler_text v.names v.setup m) (handler_seen v) handler_same (range_with_len 0 (handlers v.setup)), room_same, same_front shows, same_next shows) refl

-- what is told of an outcome, by a core that shows its state
told_same : (states : Bool) (names : List Field) (c : Setup) (o : Outcome Event) (v : CoreView Event) (reply : Reply) (events : List Event)
    → names ≡ v.names → v.setup ≡ c → Shows v o.state → o.reply ≡ reply → o.values ≡ events → told states names c o ≡ with_state states (line_of reply events) v
told_same false names c o v reply events named set shows replied handed = ap (λ r. line_of r o.values) replied ∙ ap (λ es. line_of reply es) handed
told_same true names c o v reply events named set shows replied handed =
    let same : state_line names c o.state ≡ state_seen v = ap (λ (ns : List Field). state_line ns c o.state) named ∙ ap (λ (k : Setup). state_line v.names k o.state) (sym set) ∙ line_same v o.state shows in
    ap (λ r. line_of r o.values ++ state_line names c o.state) replied
    ∙ ap (λ es. line_of reply es ++ state_line names c o.state) handed
    ∙ ap (λ line. line_of reply events ++ line) same

-- a command was executed, and what is told of it is the line
obeyed : (states : Bool) (e : Exchange) (names : List Field) (c : Setup) (m : State Event) (command : Command Event) (reply : Reply) (events : List Event) (line : List ℕ)
    → Executes e names c (step c m command) reply → events ≡ take (count_in reply) (batch_of e) → line ≡ with_state states (line_of reply events) (core_of e)
    → IsObeyed e line (obeys states names c m (Some command))
obeyed states e names c m command reply events line did handed is =
    let o : Outcome Event = step c m command in
    let same : told states names c o ≡ line = told_same states names c o (core_of e) reply events did.shows.names_are did.shows.setup_is did.shows.shows did.replies (did.hands_out ∙ sym handed) ∙ sym is in
    record { names = names; setup = c; state = o.state; is = rw same refl; shows = did.shows }

-- the same of a record whose command it is
pub obeyed_row : (states : Bool) (first e : Exchange) (names : List Field) (c : Setup) (m : State Event) (row : Record) (command : Command Event) (reply : Reply) (events : List Event)
    (line : List ℕ) → ExchangeShows first names c m → command_of (core_of first).names row ≡ Some command → Executes e names c (step c m command) reply
    → events ≡ take (count_in reply) (batch_of e) → line ≡ with_state states (line_of reply events) (core_of e)
    → IsObeyed e line (obeys states names c m (command_of names row))
obeyed_row states first e names c m row command reply events line shown named did handed is =
    let found : command_of names row ≡ Some command = ap (λ (ns : List Field). command_of ns row) shown.names_are ∙ named in
    subst (λ (t : Option (Command Event)). IsObeyed e line (obeys states names c m t)) (sym found) (obeyed states e names c m command reply events line did handed is)
