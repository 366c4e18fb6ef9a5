use Rattle.std.proofs.Common.{◌≡◌, ◌≤◌, ◌∙◌, ℕ, List, length, map, ap, subst, sym, arith}
use Rattle.std.specs.Prelude.{IfOk, sum, sum_by}
use Rattle.std.proofs.lemmas.List.Sums.{sum-map}
use lib.ListN.{length-map}
use Rattle.std.specs.Global.{Vec}
use Rattle.dr_seq.specs.declared.event.Event.{Event}
use Rattle.dr_lock.specs.Calls.Lock.{SharedView}
use Rattle.dr_lock.specs.Meaning.History.{History}
use Rattle.dr_disruptor_lock.specs.declared.jobs.Task.{Task}
use Rattle.dr_disruptor_lock.specs.Joining.{IsJoined, IsSettled}
use Rattle.dr_disruptor_lock.specs.Running.{IsOutcome}
use Rattle.dr_disruptor_lock.proofs.Fronts.{where_ok}
use Rattle.dr_disruptor_lock.proofs.Listing.{map_map}
use Rattle.dr_disruptor_lock.proofs.Returned.{is_outcome}
use Rattle.dr_disruptor_lock.proofs.running.run_over.Goals as goal

pub settled-requires-clause-given : goal.settled-requires-clause-given
settled-requires-clause-given g c =
    let joined : IsJoined _ _ _ _ _ _ c.in-Ok.joined = c.in-Ok.ensures in
    let served = joined.served.many in
    let sent = joined.sent.many in
    let one = c.in_ok-halter.ensures.given in
    let jobs = c.in_ok-jobs.ensures.given in
    let tasks = c.in_ok-tasks.ensures.given in
    let none = c.new-shared.ensures.given in
    grind (arith, one, jobs, tasks, none, served, sent)

pub returns-in-Ok : goal.returns-in-Ok
returns-in-Ok g c =
    let begun = g.L.Exchange.begun in
    let is = c.in-Ok.ensures in
    let items = λ (s : Vec Event). s.items in
    let scripts = map items c.args.scripts.items in
    let tasks = c.in_ok-tasks.tasks.items in
    let listed : map (λ (t : Task g.row.L.Denot). t.script.items) tasks ≡ scripts =
    sym (map_map (λ (s : Vec Event). s.items) (λ (t : Task g.row.L.Denot). t.script) tasks) ∙ ap (map (λ (s : Vec Event). s.items)) c.in_ok-tasks.ensures.scripts
    in
    let len = λ (l : List Event). length l in
    let sums : sum_by len scripts ≡ sum_by (λ (s : Vec Event). length s.items) c.args.scripts.items =
    sym (sum-map len scripts) ∙ ap sum (map_map len items c.args.scripts.items) ∙ sum-map (λ (s : Vec Event). length s.items) c.args.scripts.items
    in
    let fits : sum_by len scripts ≤ c.args.events = subst (λ (n : ℕ). n ≤ c.args.events) (sym sums) c.requires.room in
    let had : c.tasks_of.new.shared.begun ≡ length begun.entries =
    c.in_ok-tasks.ensures.begun ∙ c.in_ok-jobs.ensures.begun ∙ ap (λ (s : SharedView). s.begun) c.in_ok-halter.ensures.given ∙ c.new-shared.ensures.begun
    ∙ ap (λ (h : History Event). length h.entries) c.requires.begun
    in
    let of_begun : IfOk c.settled.result (IsOutcome g.H.InPlaceHandler.goes begun c.args.size scripts c.args.handlers.items) =
    where_ok (IsSettled begun c.tasks_of.new.shared.begun c.in-Ok.joined) (IsOutcome g.H.InPlaceHandler.goes begun c.args.size scripts c.args.handlers.items) c.settled.result
    (λ ran came. is_outcome begun c.args.size g.H.InPlaceHandler.goes scripts c.args.handlers.items c.in_ok-halter.halter c.in_ok-jobs.jobs.items tasks c.in-Ok.joined
    c.tasks_of.new.shared.begun c.args.events ran
    c.in_ok-jobs.ensures.handlers c.in_ok-jobs.ensures.fresh fits listed c.in_ok-tasks.ensures.fresh is came c.in_ok-halter.ensures.unused had) c.settled.ensures
    in
    subst (λ (b : History Event). IfOk c.settled.result (IsOutcome g.H.InPlaceHandler.goes b c.args.size scripts c.args.handlers.items)) (sym c.requires.begun) of_begun
