-- Calls that are made one after another.
use Rattle.std.proofs.Common.{◌≡◌, ◌<◌, ◌+◌, ℕ, suc, List, [], ◌∷◌, ◌++◌, length, take, drop, get_or, None, Some, Ok, Err, refl, sym, ap, ◌∙◌, subst, arith, drop-cons}
use Rattle.std.proofs.lemmas.List.{append-nil, length-take-le, take_more}
use Rattle.dr_meaning.specs.declared.ends.Trouble.{Trouble}
use Rattle.dr_meaning.specs.Calls.Calling.{InletCall, WritesOne, CallsLead, each_written, first_in_trouble, writes_of}

-- some calls after others
pub lead_more : {S C : Type 0} (does : S → C → S → Type 0) (a b c : S) (xs ys : List C) → CallsLead does a xs b → CallsLead does b ys c → CallsLead does a (xs ++ ys) c
lead_more does a b c [] ys h k = subst (λ s. CallsLead does s ys c) h k
lead_more does a b c (x ∷ xs) ys h k = (h.0, h.1, lead_more does h.0 b c xs ys h.2 k)

each_written-append : {E : Type 0} (lo : ℕ) (xs ys : List E) → each_written lo (xs ++ ys) ≡ each_written lo xs ++ each_written (lo + length xs) ys
each_written-append lo [] ys = (let at : lo ≡ lo + 0 = omega arith in ap (λ n. each_written n ys) at)
each_written-append lo (x ∷ xs) ys =
    let at : lo + 1 + length xs ≡ lo + length (x ∷ xs) = omega arith in
    ap (λ l. WritesOne lo x (Ok tt) ∷ l) (each_written-append (lo + 1) xs ys ∙ ap (λ n. each_written (lo + 1) xs ++ each_written n ys) at)

-- one more of the events is written
pub lead_written : {S E : Type 0} (does : S → InletCall E → S → Type 0) (lo k s : ℕ) (events : List E) (d event : E) → k < length events → s ≡ lo + k → get_or events k d ≡ event
    → (a b c : S) → CallsLead does a (each_written lo (take k events)) b → does b (WritesOne s event (Ok tt)) c → CallsLead does a (each_written lo (take (k + 1) events)) c
lead_written does lo k s events d event less at is a b c h call =
    let front : take (k + 1) events ≡ take k events ++ event ∷ [] = take_more events k d less ∙ ap (λ x. take k events ++ x ∷ []) is in
    let many : length (take k events) ≡ k = length-take-le k events (omega arith) in
    let there : lo + length (take k events) ≡ s = omega arith in
    let calls : each_written lo (take (k + 1) events) ≡ each_written lo (take k events) ++ WritesOne s event (Ok tt) ∷ []
    = ap (λ l. each_written lo l) front ∙ each_written-append lo (take k events) (event ∷ []) ∙ ap (λ n. each_written lo (take k events) ++ WritesOne n event (Ok tt) ∷ []) there in
    subst (λ l. CallsLead does a l c) (sym calls) (lead_more does a b c (each_written lo (take k events)) (WritesOne s event (Ok tt) ∷ []) h (c, call, refl))

-- the next one is not
pub lead_in_trouble : {S E : Type 0} (does : S → InletCall E → S → Type 0) (lo k s : ℕ) (events : List E) (d event : E) → k < length events → s ≡ lo + k → get_or events k d ≡ event
    → (trouble : Trouble) (a b c : S) → CallsLead does a (each_written lo (take k events)) b → does b (WritesOne s event (Err trouble)) c
    → CallsLead does a (writes_of lo events (record { count = k; trouble = Some trouble })) c
lead_in_trouble does lo k s events d event less at is trouble a b c h call =
    let rest : drop k events ≡ event ∷ drop (suc k) events = drop-cons events k d less ∙ ap (λ x. x ∷ drop (suc k) events) is in
    let last : first_in_trouble (lo + k) (Some trouble) (drop k events) ≡ WritesOne s event (Err trouble) ∷ []
    = ap (λ l. first_in_trouble (lo + k) (Some trouble) l) rest ∙ ap (λ n. WritesOne n event (Err trouble) ∷ []) (sym at) in
    subst (λ l. CallsLead does a (each_written lo (take k events) ++ l) c) (sym last) (lead_more does a b c (each_written lo (take k events)) (WritesOne s event (Err trouble) ∷ []) h (c, call, refl))

-- all are
pub lead_all : {S E : Type 0} (does : S → InletCall E → S → Type 0) (lo : ℕ) (events : List E) (a b : S) → CallsLead does a (each_written lo (take (length events) events)) b
    → CallsLead does a (writes_of lo events (record { count = length events; trouble = None })) b
lead_all does lo events a b h = subst (λ l. CallsLead does a l b) (sym (append-nil (each_written lo (take (length events) events)))) h
