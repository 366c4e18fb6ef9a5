-- The least of several workers' faults, one more worker at a time.
use Rattle.std.proofs.Common.{Bool, true, subst, ◌≡◌, ◌<◌, ◌≤◌, ◌+◌, ℕ, zero, suc, IfNone, List, [], ◌∷◌, ◌++◌, length, take, get_or, Option, None, Some, refl, sym, ap, ◌∙◌, arith}
use Rattle.std.specs.Prelude.{if◌then◌else◌, All, filter_map, option_to_list}
use Rattle.std.specs.List.{cons_option}
use Rattle.std.specs.Option.{option_or}
use Rattle.std.proofs.lemmas.Option.{none-some}
use Rattle.std.proofs.lemmas.List.{append-nil, take_all, take_more}
use Rattle.std.proofs.lemmas.List.Elements.{filter_map-append}
use Rattle.dr_workers.specs.declared.ended.Ended.{Ended}
use Rattle.dr_workers.specs.declared.ended.WorkerFault.{WorkerFault}
use Rattle.dr_workers.specs.Meaning.FirstFault.{fault_of, faults_of, first_fault, is_memory, is_refused, is_stopped, least, lesser}
use Rattle.dr_workers.specs.declared.fault.WorkFault.{WorkFault}
use Rattle.dr_workers.specs.declared.fault.WorkFault.TheVariants.{Memory, Refused, Stopped}

lesser_assoc : (a b c : WorkerFault) → lesser a (Some (lesser b (Some c))) ≡ lesser (lesser a (Some b)) (Some c)
lesser_assoc a b c = grind (arith)

lesser_next : (a m : WorkerFault) (o : Option WorkerFault) → lesser a (Some (lesser m o)) ≡ lesser (lesser a (Some m)) o
lesser_next a m None = refl
lesser_next a m (Some c) = lesser_assoc a m c

least_front : (a : WorkerFault) (o : Option WorkerFault) (ys : List WorkerFault)
    → Some (lesser a (least (option_to_list o ++ ys))) ≡ least (option_to_list (Some (lesser a o)) ++ ys)
least_front a None ys = refl
least_front a (Some m) ys = ap (λ x. Some x) (lesser_next a m (least ys))

-- of the least of some, and further ones
pub least_more : (xs ys : List WorkerFault) → least (xs ++ ys) ≡ least (option_to_list (least xs) ++ ys)
least_more [] ys = refl
least_more (x ∷ xs) ys = ap (λ o. Some (lesser x o)) (least_more xs ys) ∙ least_front x (least xs) ys

-- one worker more, with no fault of this kind
pub goes_on : (is_kind : WorkFault → Bool) (k : ℕ) (ended : List Ended) (d : Ended) (now next : Option WorkerFault) → k < length ended
    → next ≡ now → now ≡ least (faults_of is_kind (take k ended)) → fault_of is_kind (get_or ended k d).who (get_or ended k d).fault ≡ None
    → next ≡ least (faults_of is_kind (take (k + 1) ended))
goes_on is_kind k ended d now next less same is none =
    let fault = λ (e : Ended). fault_of is_kind e.who e.fault in
    same ∙ is
    ∙ sym (
    ap (λ l. least (filter_map fault l)) (take_more ended k d less)
    ∙ ap least (filter_map-append fault (take k ended) (get_or ended k d ∷ []) ∙ ap (λ o. filter_map fault (take k ended) ++ cons_option o []) none)
    ∙ ap least (append-nil (filter_map fault (take k ended))))

fault_is : (is_kind : WorkFault → Bool) (who : ℕ) (o : Option WorkFault) (fault : WorkFault) → o ≡ Some fault → is_kind fault ≡ true
    → fault_of is_kind who o ≡ Some (record { who = who; fault = fault })
fault_is is_kind who o fault is kind =
    ap (fault_of is_kind who) is ∙ ap (λ (b : Bool). if b then Some (record { who = who; fault = fault }) else None) kind

-- one worker more, with a fault of this kind
pub takes_in : (is_kind : WorkFault → Bool) (k : ℕ) (ended : List Ended) (d : Ended) (fault : WorkFault) (now next : Option WorkerFault) (a : WorkerFault)
    → k < length ended → next ≡ Some a → Some a ≡ least (option_to_list now ++ (record { who = (get_or ended k d).who; fault = fault } ∷ []))
    → now ≡ least (faults_of is_kind (take k ended)) → (get_or ended k d).fault ≡ Some fault → is_kind fault ≡ true
    → next ≡ least (faults_of is_kind (take (k + 1) ended))
takes_in is_kind k ended d fault now next a less next_is a_is is has kind =
    let e : Ended = get_or ended k d in
    let one : List WorkerFault = record { who = e.who; fault = fault } ∷ [] in
    let of_kind = λ (e : Ended). fault_of is_kind e.who e.fault in
    next_is ∙ a_is ∙ ap (λ o. least (option_to_list o ++ one)) is
    ∙ sym (
    ap (λ l. least (filter_map of_kind l)) (take_more ended k d less)
    ∙ ap least (filter_map-append of_kind (take k ended) (e ∷ [])
    ∙ ap (λ o. filter_map of_kind (take k ended) ++ cons_option o []) (fault_is is_kind e.who e.fault fault has kind))
    ∙ least_more (faults_of is_kind (take k ended)) one)

-- all workers
pub first_is : (k : ℕ) (ended : List Ended) (memory stopped refused : Option WorkerFault) → length ended ≤ k
    → memory ≡ least (faults_of is_memory (take k ended)) → stopped ≡ least (faults_of is_stopped (take k ended))
    → refused ≡ least (faults_of is_refused (take k ended)) → option_or (option_or memory stopped) refused ≡ first_fault ended
first_is k ended memory stopped refused all memory_is stopped_is refused_is =
    let some = take k ended in
    ap (λ o. option_or (option_or o stopped) refused) memory_is
    ∙ ap (λ o. option_or (option_or (least (faults_of is_memory some)) o) refused) stopped_is
    ∙ ap (λ o. option_or (option_or (least (faults_of is_memory some)) (least (faults_of is_stopped some))) o) refused_is
    ∙ ap first_fault (take_all k ended all)

-- where no fault is first, no worker has one

head_none : (o : Option WorkerFault) (rest : List WorkerFault) → least (cons_option o rest) ≡ None → (o ≡ None) × (least rest ≡ None)
head_none None rest is = (refl, is)
head_none (Some a) rest is = absurd (none-some (lesser a (least rest)) (sym is))

none_of : (is_kind : WorkFault → Bool) (ended : List Ended) → least (faults_of is_kind ended) ≡ None → (k : ℕ) (d : Ended) → k < length ended
    → fault_of is_kind (get_or ended k d).who (get_or ended k d).fault ≡ None
none_of is_kind [] is k d less = absurd (omega arith)
none_of is_kind (e ∷ ended) is zero d less = (head_none (fault_of is_kind e.who e.fault) (faults_of is_kind ended) is).0
none_of is_kind (e ∷ ended) is (suc k) d less =
    none_of is_kind ended (head_none (fault_of is_kind e.who e.fault) (faults_of is_kind ended) is).1 k d (omega arith)

-- each fault is of one of the three kinds
no_fault : (who : ℕ) (o : Option WorkFault) → fault_of is_memory who o ≡ None → fault_of is_stopped who o ≡ None → fault_of is_refused who o ≡ None → o ≡ None
no_fault who None memory stopped refused = refl
no_fault who (Some Memory) memory stopped refused = absurd (none-some _ (sym memory))
no_fault who (Some Stopped) memory stopped refused = absurd (none-some _ (sym stopped))
no_fault who (Some (Refused refusal)) memory stopped refused = absurd (none-some _ (sym refused))

none_first : (memory stopped refused : Option WorkerFault) (ended : List Ended) → memory ≡ least (faults_of is_memory ended)
    → stopped ≡ least (faults_of is_stopped ended) → refused ≡ least (faults_of is_refused ended)
    → IfNone (option_or (option_or memory stopped) refused) (All (λ (e : Ended). e.fault ≡ None) ended)
none_first None None None ended memory stopped refused = λ k d less.
    let e : Ended = get_or ended k d in
    no_fault e.who e.fault (none_of is_memory ended (sym memory) k d less) (none_of is_stopped ended (sym stopped) k d less)
    (none_of is_refused ended (sym refused) k d less)
none_first None None (Some c) ended memory stopped refused = tt
none_first None (Some b) refused' ended memory stopped refused = tt
none_first (Some a) stopped' refused' ended memory stopped refused = tt

pub no_first : (first : Option WorkerFault) (ended : List Ended) → first ≡ first_fault ended → IfNone first (All (λ (e : Ended). e.fault ≡ None) ended)
no_first first ended is = subst (λ o. IfNone o (All (λ (e : Ended). e.fault ≡ None) ended)) (sym is)
    (none_first (least (faults_of is_memory ended)) (least (faults_of is_stopped ended)) (least (faults_of is_refused ended)) ended refl refl refl)
