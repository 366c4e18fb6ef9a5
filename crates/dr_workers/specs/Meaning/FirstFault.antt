-- Which fault is answered for several workers.
use Rattle.std.specs.Prelude.{ℕ, Bool, true, false, nat_lt, if◌then◌else◌, Option, None, Some, List, [], ◌∷◌, filter_map}
use Rattle.std.specs.Option.{option_or}
use Rattle.dr_workers.specs.declared.fault.WorkFault.{WorkFault}
use Rattle.dr_workers.specs.declared.fault.WorkFault.TheVariants.{Refused, Memory, Stopped}
use Rattle.dr_workers.specs.declared.ended.Ended.{Ended}
use Rattle.dr_workers.specs.declared.ended.WorkerFault.{WorkerFault}

-- the three kinds of fault; all refusals are of one kind

abbrev pub is_memory : WorkFault → Bool
is_memory Memory = true
is_memory Stopped = false
is_memory (Refused refusal) = false

abbrev pub is_stopped : WorkFault → Bool
is_stopped Memory = false
is_stopped Stopped = true
is_stopped (Refused refusal) = false

abbrev pub is_refused : WorkFault → Bool
is_refused Memory = false
is_refused Stopped = false
is_refused (Refused refusal) = true

-- a worker's fault, where it ended with one of this kind
abbrev pub fault_of : (WorkFault → Bool) → ℕ → Option WorkFault → Option WorkerFault
fault_of is_kind who None = None
fault_of is_kind who (Some fault) = if is_kind fault then Some (record { who = who; fault = fault }) else None

abbrev pub faults_of : (WorkFault → Bool) → List Ended → List WorkerFault
faults_of is_kind ended = filter_map (λ e. fault_of is_kind e.who e.fault) ended

-- the one of two whose worker's number is less, and the first where they are alike
abbrev pub lesser : WorkerFault → Option WorkerFault → WorkerFault
lesser a None = a
lesser a (Some b) = if nat_lt b.who a.who then b else a

abbrev pub least : List WorkerFault → Option WorkerFault
least [] = None
least (a ∷ faults) = Some (lesser a (least faults))

-- out of memory comes before a stop, and a stop before a refusal; of several of one kind, that of the worker with the least number comes first
abbrev pub first_fault : List Ended → Option WorkerFault
first_fault ended = option_or (option_or (least (faults_of is_memory ended)) (least (faults_of is_stopped ended))) (least (faults_of is_refused ended))
