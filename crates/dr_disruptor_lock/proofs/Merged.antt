-- Where no worker has a fault, the list of a run is a merge of its scripts.
use Rattle.std.proofs.Common.{◌≡◌, ℕ, ◌+◌, List, length, Option, sym, ap, subst, ◌∙◌}
use Rattle.std.specs.Prelude.{None, IfNone, IfOk}
use mathlib.Core.Option.{some-injective}
use Rattle.dr_seq.specs.declared.event.Event.{Event}
use Rattle.dr_meaning.specs.Calls.Handling.{Relation}
use Rattle.dr_meaning.specs.Meaning.Machine.{handlers}
use Rattle.dr_workers.specs.declared.fault.WorkFault.{WorkFault}
use Rattle.dr_workers.specs.declared.producer.Produced.{Produced}
use Rattle.dr_lock.specs.Meaning.History.{History, transcript}
use Rattle.dr_lock.specs.Meaning.Audit.{IsAudited}
use Rattle.dr_workers.specs.Meaning.Merge.{IsMerge}
use Rattle.dr_disruptor.specs.Handlers.{AllWentThrough}
use Rattle.dr_disruptor.specs.Merging.{AllWentThroughMerge}
use Rattle.dr_disruptor_lock.specs.declared.running.RunOutcome.{RunOutcome}
use Rattle.dr_disruptor_lock.specs.Running.{AreFine, IsOutcome, fronts}
use Rattle.dr_disruptor_lock.proofs.Fronts.{both_ok, fine_at, fronts_whole}

module _ {A : Type 0} (goes : Relation Event A) (begun : History Event) (size : ℕ) (scripts : List (List Event)) (starts : List A) (ran : RunOutcome A)
    (is : IsOutcome goes begun size scripts starts ran) where
  -- all of each script was sent
  all_sent : AreFine ran.endings.items → fronts scripts is.produced ≡ scripts
  all_sent fine = fronts_whole scripts is.produced is.many.2 (λ p script back at there.
      let (one, end, at_one, at_end, ending, sent) = is.sending p script at in
      let same : one ≡ back = some-injective one back (sym at_one ∙ there) in
      let none : one.fault ≡ None = fine_at ran.endings.items (length starts + p) (record { who = 16 + p; fault = one.fault }) fine ending in
      let whole : one.sent ≡ length script = subst (λ (f : Option WorkFault). IfNone f (one.sent ≡ length script)) none sent.all in
      ap (λ (b : Produced). b.sent) (sym same) ∙ whole)

  pub went_whole : IfOk ran.list (λ list. AreFine ran.endings.items → AllWentThroughMerge (AllWentThrough goes) 256 scripts list.items starts ran.handlers.items)
  went_whole =
      both_ok (λ list. IsAudited (transcript ran.recorded.history) (handlers begun.core.setup) (fronts scripts is.produced) list.items)
      (λ list. AllWentThrough goes 256 list.items starts ran.handlers.items)
      (λ list. AreFine ran.endings.items → AllWentThroughMerge (AllWentThrough goes) 256 scripts list.items starts ran.handlers.items) ran.list is.audited is.went
      (λ list audited went fine. record { merge = subst (λ (ls : List (List Event)). IsMerge ls list.items) (all_sent fine) audited.merged; through = went })
