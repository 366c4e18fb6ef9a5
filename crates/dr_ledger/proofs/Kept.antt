-- What a crash leaves, seen from before a batch and from further back.
use Rattle.std.proofs.Common.{◌≡◌, ◌<◌, ◌+◌, inl, inr, ℕ, Option, Some, Vec, map, length, take, get_or, List, [], ◌∷◌, ◌++◌, refl, sym, ◌∙◌, ap, subst, append-nil, append_assoc}
use Rattle.std.proofs.lemmas.List.{map-append, take_more}
use Rattle.std.specs.declared.alloc.Global.{Global}
use Rattle.dr_seq.specs.declared.event.Event.{Event}
use Rattle.dr_journal.specs.Calls.Journals.{IsBeforeOrAfter, bytes_of}
use Rattle.dr_journal.specs.Calls.Records.{event_in}
use Rattle.dr_ledger.specs.Answering.{IsKept}
use Rattle.dr_ledger.specs.Standing.{IsBeginning, Say, StandsForThem}

pub say_more : (before batch : List (List ℕ)) (past events : List Event) → Say before past → Say batch events → Say (before ++ batch) (past ++ events)
say_more before batch past events first more =
    map-append event_in before batch ∙ ap (λ l. l ++ map event_in batch) first ∙ ap (λ l. map (λ e. Some e) past ++ l) more ∙ sym (map-append (λ (e : Event). Some e) past events)

pub all_of : (events : List Event) → IsBeginning events events
all_of events = ([], sym (append-nil events))

pub none_of : (events : List Event) → IsBeginning [] events
none_of events = (events, refl)

-- a beginning of what comes later, behind what came before
pub begins_later : (front a b : List Event) → IsBeginning a b → IsBeginning (front ++ a) (front ++ b)
begins_later front a b first = (first.0, ap (λ l. front ++ l) first.1 ∙ sym (append_assoc front a first.0))

-- a beginning of what came before, with more behind it
pub begins_longer : (a b more : List Event) → IsBeginning a b → IsBeginning a (b ++ more)
begins_longer a b more first = (first.0 ++ more, ap (λ l. l ++ more) first.1 ∙ append_assoc a first.0 more)

pub stands_more : (events more : List Event) (file : List ℕ) → events ≡ more → StandsForThem events file → StandsForThem more file
stands_more events more file same stands = subst (λ l. StandsForThem l file) same stands

-- what a batch leaves at any moment
pub kept_batch : (past events : List Event) (records batch : List (List ℕ)) (file : List ℕ) → Say records past → Say batch events
    → IsBeforeOrAfter records batch file → IsKept past [] events file
kept_batch past events records batch file was is (inl before) = record {
  more = [];
  first = none_of events;
  stands = stands_more past (past ++ []) file (sym (append-nil past)) (before.0, subst (λ r. Say r past) (sym before.1) was);
}
kept_batch past events records batch file was is (inr after) = record {
  more = events;
  first = all_of events;
  stands = (after.0, subst (λ r. Say r (past ++ events)) (sym after.1) (say_more records batch past events was is));
}

-- behind a batch that is answered
pub kept_behind : (past a events : List Event) (file : List ℕ) → IsKept (past ++ a) [] events file → IsKept past a (a ++ events) file
kept_behind past a events file kept = record {
  more = kept.more;
  first = begins_later a kept.more events kept.first;
  stands = stands_more ((past ++ a) ++ kept.more) (past ++ (a ++ kept.more)) file (append_assoc past a kept.more) kept.stands;
}

-- seen from the start
pub kept_first : (past a came : List Event) (file : List ℕ) → IsKept past a came file → IsKept past [] came file
kept_first past a came file kept = record { more = a ++ kept.more; first = kept.first; stands = kept.stands }

-- whatever comes later
pub kept_longer : (past a came more : List Event) (file : List ℕ) → IsKept past a came file → IsKept past a (came ++ more) file
kept_longer past a came more file kept = record { more = kept.more; first = begins_longer (a ++ kept.more) came more kept.first; stands = kept.stands }

-- a file that stands for all that is stored
pub kept_stored : (past answered stored came : List Event) (file : List ℕ) → IsBeginning answered stored → IsBeginning stored came
    → StandsForThem (past ++ stored) file → IsKept past answered came file
kept_stored past answered stored came file in_order first stands = record {
  more = in_order.0;
  first = subst (λ l. IsBeginning l came) in_order.1 first;
  stands = stands_more (past ++ stored) (past ++ (answered ++ in_order.0)) file (ap (λ l. past ++ l) in_order.1) stands;
}

-- behind turns that are answered
pub kept_on : (past first answered more : List Event) (file : List ℕ) → IsKept (past ++ first) answered more file
    → IsKept past (first ++ answered) (first ++ more) file
kept_on past first answered more file kept = record {
  more = kept.more;
  first = subst (λ l. IsBeginning l (first ++ more)) (sym (append_assoc first answered kept.more)) (begins_later first (answered ++ kept.more) more kept.first);
  stands = stands_more ((past ++ first) ++ (answered ++ kept.more)) (past ++ ((first ++ answered) ++ kept.more)) file
      (append_assoc past first (answered ++ kept.more) ∙ ap (λ l. past ++ l) (sym (append_assoc first answered kept.more))) kept.stands;
}

-- one record more
pub one_more : (records new : List (Vec ℕ Global)) (bytes : Vec ℕ Global) (events : List Event) (i : ℕ) (d : Event) → i < length events
    → Say (bytes_of records) (take i events) → new ≡ records ++ bytes ∷ [] → event_in bytes.items ≡ Some (get_or events i d)
    → Say (bytes_of new) (take (i + 1) events)
one_more records new bytes events i d within so_far is says =
    let longer : bytes_of new ≡ bytes_of records ++ bytes.items ∷ [] = ap (λ (l : List (Vec ℕ Global)). bytes_of l) is ∙ map-append (λ (v : Vec ℕ Global). v.items) records (bytes ∷ []) in
    let last : Say (bytes.items ∷ []) (get_or events i d ∷ []) = ap (λ (o : Option Event). o ∷ []) says in
    subst (λ (l : List (List ℕ)). Say l (take (i + 1) events)) (sym longer)
    (subst (λ (l : List Event). Say (bytes_of records ++ bytes.items ∷ []) l) (sym (take_more events i d within)) (say_more (bytes_of records) (bytes.items ∷ []) (take i events) (get_or events i d ∷ []) so_far last))

-- a slice of records that say a slice of operations
pub slices_say : (records slice : List (Vec ℕ Global)) (part events : List Event) → slice ≡ records → part ≡ events → Say (bytes_of records) part → Say (bytes_of slice) events
slices_say records slice part events is are says = subst (λ (l : List (Vec ℕ Global)). Say (bytes_of l) events) (sym is) (subst (λ (l : List Event). Say (bytes_of records) l) are says)
