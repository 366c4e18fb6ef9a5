-- What handlers went through, whose ends began anew and came to the same events.
use Rattle.std.proofs.Common.{◌≡◌, ℕ, ◌≤◌, Bool, true, List, [], ◌++◌, length, map, refl, sym, subst, ap, ◌∙◌, arith}
use mathlib.Core.Option.{some, some-injective}
use lib.ListN.{get_elem?, length-map}
use Rattle.dr_meaning.specs.Calls.Calling.{InPlaceCall}
use Rattle.dr_meaning.specs.Calls.Ends.{Received}
use Rattle.dr_meaning.specs.Calls.Handling.{Relation}
use Rattle.dr_workers.specs.Meaning.Work.{FollowFrom, dealt_events}
use Rattle.dr_runs.proofs.Elements.{at_below, there, value_at}
use Rattle.dr_runs.proofs.Lists.{at_map, map_there}
use Rattle.dr_disruptor.specs.declared.served.Served.{Served}
use Rattle.dr_disruptor.specs.Handlers.{AllWentThrough, WentThrough}
use Rattle.dr_disruptor.proofs.Showing.{weaken}
use Rattle.dr_disruptor.specs.Serving.{AreInBatches, AreServed, CameBackServed, GaveBack, IsIdle, Serving, Shows, TakesInTurn, Worker, given_end, given_handler}

module _ {O A K E : Type 0} (kept : O → K) (received : O → Received E) (told : O → Bool) (saw : O → ℕ → Type 0) (does : O → InPlaceCall → O → Type 0) (goes : Relation E A) (room : ℕ) where
  -- over an end that handed out nothing before
  pub went : (start after : A) (given back : O) (events : List E) → Shows kept received saw does goes room start after given back
      → (received given).events ≡ [] → (received back).events ≡ events → ((n : ℕ) → saw back n → n ≤ length events) → WentThrough goes room start after events
  went start after given back events s none all most = record {
    batches = s.batches;
    through = s.works.through;
    order = subst (λ (l : List E). FollowFrom (length l) s.batches) none s.works.handed.1;
    dealt = sym (s.works.handed.0 ∙ ap (λ (l : List E). l ++ dealt_events s.batches) none) ∙ all;
    polled = weaken room (saw back) (λ n. n ≤ length events) most s.batches s.polled;
  }

  -- what workers gave back that poll with so much room
  pub served_by : (ws : List (Worker O A)) (served : List (Served O A)) → AreInBatches room ws → GaveBack kept received told saw does goes ws served
      → AreServed kept received told saw does goes room (map given_end ws) (map given_handler ws) served
  served_by ws served polls are = record {
    many = are.many ∙ sym (length-map ws given_end);
    handlers = are.many ∙ sym (length-map ws given_handler);
    each = λ h back at.
        let (w, at_w, serving) = are.each h back at in
        let polls_so : w.promise.batch ≡ room = ap (λ (x : Worker O A). x.promise.batch) (sym (value_at ws h w w at_w)) ∙ polls h w (at_below ws h w at_w) in (
          given_end w,
          given_handler w,
          map_there given_end ws h w at_w,
          map_there given_handler ws h w at_w,
          subst (λ (n : ℕ). Serving kept received told saw does goes n (given_handler w) (given_end w) back) polls_so serving,
        );
  }

  -- what came back so also came back of lists that are the same
  pub served_as : (ends ends' : List O) (starts starts' : List A) (outlets outlets' : List O) (handlers handlers' : List A)
      → ends ≡ ends' → starts ≡ starts' → outlets ≡ outlets' → handlers ≡ handlers'
      → CameBackServed kept received told saw does goes room ends starts outlets handlers → CameBackServed kept received told saw does goes room ends' starts' outlets' handlers'
  served_as ends ends' starts starts' outlets outlets' handlers handlers' of_ends of_starts of_outlets of_handlers back = record {
    served = back.served;
    are = subst (λ (l : List O). AreServed kept received told saw does goes room l starts' back.served) of_ends
        (subst (λ (l : List A). AreServed kept received told saw does goes room ends l back.served) of_starts back.are);
    ends_back = sym of_outlets ∙ back.ends_back;
    handlers_back = sym of_handlers ∙ back.handlers_back;
  }

  -- the handler at a place was shown what the end at that place handed out
  pub served_at : (ends : List O) (starts : List A) (outlets : List O) (handlers : List A)
      → CameBackServed kept received told saw does goes room ends starts outlets handlers → (h : ℕ) (start : A) → get_elem? starts h ≡ some start
      → (after : A) × (outlet : O) × (given : O) × (get_elem? handlers h ≡ some after) × (get_elem? outlets h ≡ some outlet) × (get_elem? ends h ≡ some given)
      × Shows kept received saw does goes room start after given outlet
  served_at ends starts outlets handlers back h start at =
      let inside = at_below starts h start at in
      let many = back.are.handlers in
      let b = there back.served h (omega arith) in
      let (given, begun, at_given, at_begun, serving) = back.are.each h b.0 b.1 in
      let is : begun ≡ start = some-injective begun start (sym at_begun ∙ at) in (
        b.0.handler,
        b.0.outlet,
        given,
        ap (λ (l : List A). get_elem? l h) back.handlers_back ∙ map_there (λ (s : Served O A). s.handler) back.served h b.0 b.1,
        ap (λ (l : List O). get_elem? l h) back.ends_back ∙ map_there (λ (s : Served O A). s.outlet) back.served h b.0 b.1,
        at_given,
        subst (λ (a : A). Shows kept received saw does goes room a b.0.handler given b.0.outlet) is serving.shows,
      )

  -- of ends that began with nothing it went through just what the end at its place handed out in turn, where no end saw more
  pub shown_from_none : (ends : List O) (starts : List A) (outlets : List O) (handlers : List A) (new : ℕ → O)
      → ((h : ℕ) (given : O) → get_elem? ends h ≡ some given → given ≡ new h) → ((h : ℕ) → (received (new h)).events ≡ [])
      → ((h : ℕ) (e : O) → get_elem? outlets h ≡ some e → (n : ℕ) → saw e n → n ≤ length (received e).events)
      → CameBackServed kept received told saw does goes room ends starts outlets handlers → (h : ℕ) (start : A) → get_elem? starts h ≡ some start
      → (after : A) × (end : O) × (get_elem? handlers h ≡ some after) × (get_elem? outlets h ≡ some end) × (kept end ≡ kept (new h))
      × ((w : WentThrough goes room start after (received end).events) × TakesInTurn does room w.batches (new h) end)
  unfolding went served_at
  shown_from_none ends starts outlets handlers new are_new none most back h start at =
      let (after, end, given, at_after, at_end, at_given, shows) = served_at ends starts outlets handlers back h start at in
      let is : given ≡ new h = are_new h given at_given in (
        after,
        end,
        at_after,
        at_end,
        shows.place ∙ ap kept is,
        (
          went start after given end (received end).events shows (ap (λ (o : O). (received o).events) is ∙ none h) refl (most h end at_end),
          subst (λ (o : O). TakesInTurn does room shows.batches o end) is shows.turns,
        ),
      )

  module _ (ends : List O) (starts : List A) (served : List (Served O A)) (are : AreServed kept received told saw does goes room ends starts served) where
    abbrev outlets : List O
    outlets = map (λ (s : Served O A). s.outlet) served

    abbrev handlers : List A
    handlers = map (λ (s : Served O A). s.handler) served

    -- as many ends came back as were given, each in the place of one of them
    pub many_back : length outlets ≡ length ends
    many_back = length-map served (λ (s : Served O A). s.outlet) ∙ are.many

    pub end_back : (h : ℕ) (e : O) → get_elem? outlets h ≡ some e
        → (given : O) × (get_elem? ends h ≡ some given) × (kept e ≡ kept given) × (told e ≡ true) × IsIdle (received e)
    end_back h e at =
        let (back, at_back, same) = at_map (λ (s : Served O A). s.outlet) served h e at in
        let (given, start, at_end, at_start, serving) = are.each h back at_back in (
          given,
          at_end,
          ap kept (sym same) ∙ serving.shows.place,
          ap told (sym same) ∙ serving.drained,
          subst (λ (x : O). IsIdle (received x)) same serving.shows.idle,
        )

    -- all handlers went through the events to which all ends came
    pub all_went : (events : List E) → ((h : ℕ) (e : O) → get_elem? ends h ≡ some e → (received e).events ≡ [])
        → ((h : ℕ) (e : O) → get_elem? outlets h ≡ some e → ((received e).events ≡ events) × ((n : ℕ) → saw e n → n ≤ length events))
        → AllWentThrough goes room events starts handlers
    all_went events begins come = record {
      many = length-map served (λ (s : Served O A). s.handler) ∙ are.handlers;
      each = λ h start after at_start at_after.
          let (back, at_back, same) = at_map (λ (s : Served O A). s.handler) served h after at_after in
          let (given, begun, at_end, at_begun, serving) = are.each h back at_back in
          let is : begun ≡ start = some-injective begun start (sym at_begun ∙ at_start) in
          let end = come h back.outlet (map_there (λ (s : Served O A). s.outlet) served h back at_back) in
          let went_one = went begun back.handler given back.outlet events serving.shows (begins h given at_end) end.0 end.1 in
          subst (λ (a : A). WentThrough goes room a after events) is (subst (λ (a : A). WentThrough goes room begun a events) same went_one);
    }
