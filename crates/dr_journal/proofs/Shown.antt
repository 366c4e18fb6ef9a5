-- What a handler was shown is in its file, and each crash leaves it.
use Rattle.std.proofs.Common.{◌≡◌, ℕ, Bool, true, false, inl, inr, List, [], ◌∷◌, ◌++◌, Option, None, Some, refl, sym, ◌∙◌, ap, subst, append_assoc}
use Rattle.std.specs.Prelude.{map, IsSome}
use Rattle.std.proofs.lemmas.List.{append-nil, append_cancel_left}
use Rattle.dr_meaning.specs.Calls.Handling.{GoesThrough, Showing}
use Rattle.dr_journal.specs.Calls.Parts.{device_of}
use Rattle.dr_journal.specs.Calls.Journals.{CrashLeaves, IsAtRest, IsBeforeOrAfter, records_of}
use Rattle.dr_journal.specs.Calls.Handling.{HasFirst, Writer, TakesRecord, Journals, KeepsAll, OnlyAdds, journaled}
use Rattle.dr_journal.specs.declared.fault.JournalFault.{JournalFault}
use Rattle.dr_journal.specs.declared.journal.Journal.{Journal}
use Rattle.dr_journal.proofs.Crash.{stays}
use Rattle.dr_journal.proofs.Moments.{and_then, no_call, weaker}

-- what changes no more once it is there was not there if it is not there now
none_of : (old new : Option JournalFault) → (IsSome old → new ≡ old) → new ≡ None → old ≡ None
none_of None new same none = refl
none_of (Some fault) new same none = sym (same refl) ∙ none

module _ {D : Type 0} (seen : D → List ℕ) (may_leave : D → List ℕ → Type 0) (moment : D → ℕ) (left_since : D → ℕ → List ℕ → Type 0) (faults : D → ℕ) where
  -- one that has not failed had not failed before
  pub no_fault : (old new : Writer D) (bytes : List ℕ) (end : Bool) → Journals seen may_leave moment left_since faults old bytes end new → new.fault ≡ None → old.fault ≡ None
  no_fault old new bytes end step none = none_of old.fault new.fault (λ some. ap (λ (w : Writer D). w.fault) (step.silent some)) none

  kept : (shown : List (Showing (List ℕ))) (marked : Showing (List ℕ)) (first last : Writer D) → marked.end ≡ true → GoesThrough (journaled seen may_leave moment left_since faults) first (shown ++ marked ∷ []) last → last.fault ≡ None
      → (first.fault ≡ None) × IsAtRest seen may_leave last.journal × (records_of seen last.journal ≡ records_of seen first.journal ++ (first.waiting ++ (map (λ (x : Showing (List ℕ)). x.event) shown ++ marked.event ∷ [])))
  kept [] marked first last ends through none =
      let step = subst (λ (w : Writer D). Journals seen may_leave moment left_since faults first marked.event marked.end w) through.2 through.1 in
      let began = no_fault first last marked.event marked.end step none in
      let takes = step.takes began in (
        began,
        takes.rests none,
        sym (append-nil (records_of seen last.journal)) ∙ ap (λ (l : List (List ℕ)). records_of seen last.journal ++ l) (sym (takes.ended none ends)) ∙ takes.told none,
      )
  kept (x ∷ shown) marked first last ends through none =
      let mid = through.0 in
      let later = kept shown marked mid last ends through.2 none in
      let began = no_fault first mid x.event x.end through.1 later.0 in
      let takes = through.1.takes began in
      let rest = map (λ (y : Showing (List ℕ)). y.event) shown ++ marked.event ∷ [] in (
        began,
        later.1,
        later.2
            ∙ sym (append_assoc (records_of seen mid.journal) mid.waiting rest)
            ∙ ap (λ (l : List (List ℕ)). l ++ rest) (takes.told later.0)
            ∙ append_assoc (records_of seen first.journal) (first.waiting ++ x.event ∷ []) rest
            ∙ ap (λ (l : List (List ℕ)). records_of seen first.journal ++ l) (append_assoc first.waiting (x.event ∷ []) rest),
      )

  pub keeps_all : KeepsAll seen may_leave moment left_since faults
  keeps_all shown marked first last ends through none = let all = kept shown marked first last ends through none in (all.1, all.2)

  -- behind a mark nothing waits
  pub none_waits : (shown : List (Showing (List ℕ))) (marked : Showing (List ℕ)) (first last : Writer D) → marked.end ≡ true → GoesThrough (journaled seen may_leave moment left_since faults) first (shown ++ marked ∷ []) last → last.fault ≡ None
      → last.waiting ≡ []
  none_waits [] marked first last ends through none =
      let step = subst (λ (w : Writer D). Journals seen may_leave moment left_since faults first marked.event marked.end w) through.2 through.1 in
      (step.takes (no_fault first last marked.event marked.end step none)).ended none ends
  none_waits (x ∷ shown) marked first last ends through none = none_waits shown marked through.0 last ends through.2 none

  -- one that failed is as it was
  failed_stays : (shown : List (Showing (List ℕ))) (first last : Writer D) → IsSome first.fault → GoesThrough (journaled seen may_leave moment left_since faults) first shown last → last ≡ first
  failed_stays [] first last failed through = sym through
  failed_stays (x ∷ shown) first last failed through =
      let same : through.0 ≡ first = through.1.silent failed in
      failed_stays shown through.0 last (subst (λ (w : Writer D). IsSome w.fault) (sym same) failed) through.2 ∙ same

  -- one that has not failed after some events had not failed before them
  pub well_before : (shown : List (Showing (List ℕ))) (first last : Writer D) → GoesThrough (journaled seen may_leave moment left_since faults) first shown last → last.fault ≡ None → first.fault ≡ None
  well_before [] first last through none = ap (λ (w : Writer D). w.fault) through ∙ none
  well_before (x ∷ shown) first last through none = no_fault first through.0 x.event x.end through.1 (well_before shown through.0 last through.2 none)

  module _ (first mid : Writer D) (bytes : List ℕ) (rest : List (List ℕ)) (c : List ℕ) where
    -- a crash during a call leaves the first of all that comes
    in_call : IsBeforeOrAfter (records_of seen first.journal) (first.waiting ++ bytes ∷ []) c → HasFirst (records_of seen first.journal) (first.waiting ++ bytes ∷ rest) c
    in_call (inl before) = ([], first.waiting ++ bytes ∷ rest, refl, (before.0, before.1 ∙ sym (append-nil (records_of seen first.journal))))
    in_call (inr after) = (first.waiting ++ bytes ∷ [], rest, sym (append_assoc first.waiting (bytes ∷ []) rest), after)

    -- and what is left later is so too
    behind_call : (end : Bool) → TakesRecord seen may_leave moment left_since faults first bytes end mid → mid.fault ≡ None
        → HasFirst (records_of seen mid.journal) (mid.waiting ++ rest) c → HasFirst (records_of seen first.journal) (first.waiting ++ bytes ∷ rest) c
    behind_call false takes none has =
        let past = records_of seen first.journal in
        let same : records_of seen mid.journal ≡ past = ap (λ (j : Journal D). records_of seen j) (takes.waits refl) in
        let waits : mid.waiting ≡ first.waiting ++ bytes ∷ [] = append_cancel_left past mid.waiting (first.waiting ++ bytes ∷ []) (ap (λ (l : List (List ℕ)). l ++ mid.waiting) (sym same) ∙ takes.told none) in (
          has.0,
          has.1,
          sym (append_assoc first.waiting (bytes ∷ []) rest) ∙ ap (λ (l : List (List ℕ)). l ++ rest) (sym waits) ∙ has.2,
          (has.3.0, has.3.1 ∙ ap (λ (l : List (List ℕ)). l ++ has.0) same),
        )
    behind_call true takes none has =
        let past = records_of seen first.journal in
        let nothing : mid.waiting ≡ [] = takes.ended none refl in
        let stored : records_of seen mid.journal ≡ past ++ (first.waiting ++ bytes ∷ []) =
        sym (append-nil (records_of seen mid.journal)) ∙ ap (λ (l : List (List ℕ)). records_of seen mid.journal ++ l) (sym nothing) ∙ takes.told none in
        let came : rest ≡ has.0 ++ has.1 = ap (λ (l : List (List ℕ)). l ++ rest) (sym nothing) ∙ has.2 in (
          first.waiting ++ bytes ∷ has.0,
          has.1,
          ap (λ (l : List (List ℕ)). first.waiting ++ bytes ∷ l) came ∙ sym (append_assoc first.waiting (bytes ∷ has.0) has.1),
          (
            has.3.0,
            has.3.1
                ∙ ap (λ (l : List (List ℕ)). l ++ has.0) stored
                ∙ append_assoc past (first.waiting ++ bytes ∷ []) has.0
                ∙ ap (λ (l : List (List ℕ)). past ++ l) (append_assoc first.waiting (bytes ∷ []) has.0),
          ),
        )

  module _ (only_now : (file : D) (c : List ℕ) → left_since file (moment file) c → may_leave file c) where
    -- one event, and what comes behind it
    one_more : (bytes : List ℕ) (end : Bool) (shown : List (Showing (List ℕ))) (first mid last : Writer D) (fault : Option JournalFault) → mid.fault ≡ fault
        → TakesRecord seen may_leave moment left_since faults first bytes end mid → GoesThrough (journaled seen may_leave moment left_since faults) mid shown last
        → (mid.fault ≡ None → CrashLeaves moment left_since mid.journal last.journal (HasFirst (records_of seen mid.journal) (mid.waiting ++ map (λ (x : Showing (List ℕ)). x.event) shown)))
        → CrashLeaves moment left_since first.journal last.journal (HasFirst (records_of seen first.journal) (first.waiting ++ bytes ∷ map (λ (x : Showing (List ℕ)). x.event) shown))
    one_more bytes end shown first mid last None is takes through later =
        let rest = map (λ (x : Showing (List ℕ)). x.event) shown in
        let P = HasFirst (records_of seen first.journal) (first.waiting ++ bytes ∷ rest) in
        and_then moment left_since (device_of first.journal) (device_of mid.journal) (device_of last.journal) P (HasFirst (records_of seen mid.journal) (mid.waiting ++ rest))
        (weaker moment left_since (device_of first.journal) (device_of mid.journal) (IsBeforeOrAfter (records_of seen first.journal) (first.waiting ++ bytes ∷ [])) P takes.any_moment (λ c left. in_call first mid bytes rest c left))
        (later is) (λ c left. behind_call first mid bytes rest c end takes is left)
    one_more bytes end shown first mid last (Some fault) is takes through later =
        let rest = map (λ (x : Showing (List ℕ)). x.event) shown in
        let P = HasFirst (records_of seen first.journal) (first.waiting ++ bytes ∷ rest) in
        let stopped : last ≡ mid = failed_stays shown mid last (subst (λ (o : Option JournalFault). IsSome o) (sym is) refl) through in
        subst (λ (w : Writer D). CrashLeaves moment left_since first.journal w.journal P) (sym stopped)
        (weaker moment left_since (device_of first.journal) (device_of mid.journal) (IsBeforeOrAfter (records_of seen first.journal) (first.waiting ++ bytes ∷ [])) P takes.any_moment (λ c left. in_call first mid bytes rest c left))

    pub only_adds : OnlyAdds seen may_leave moment left_since faults
    only_adds [] first last none rest through =
        let past = records_of seen first.journal in
        let P = HasFirst past (first.waiting ++ []) in
        subst (λ (w : Writer D). CrashLeaves moment left_since first.journal w.journal P) through
        (no_call moment left_since may_leave only_now (device_of first.journal) P
        (λ c left. let now = stays seen may_leave first.journal rest c left in ([], first.waiting ++ [], refl, (now.0, now.1 ∙ sym (append-nil past)))))
    only_adds (x ∷ shown) first last none rest through =
        let takes = through.1.takes none in
        one_more x.event x.end shown first through.0 last through.0.fault refl takes through.2 (λ well. only_adds shown through.0 last well (takes.rests well) through.2)
