-- Handles that are not open.
use Rattle.std.proofs.Common.{◌≡◌, ◌≢◌, ℕ, suc, ◌+◌, ◌-◌, ◌<◌, ◌≤◌, Bool, true, false, List, [], ◌∷◌, ◌++◌, length, drop, set, ap, refl, sym, subst, ◌∙◌, arith}
use Rattle.std.specs.Prelude.{◌||◌, Option, None, Some, is_some, replicate}
use Rattle.std.specs.List.{list_any}
use Rattle.std.proofs.lemmas.Bool.{or_parts, false≢true}
use Rattle.dr_runs.proofs.Lists.{drop_set}
use Rattle.dr_c.specs.declared.end.End.{End}
use Rattle.dr_c.specs.declared.handle.Handle.{Handle}
use Rattle.dr_seq.specs.Size.{IsSize}
use Rattle.dr_meaning.specs.declared.mode.Mode.TheVariants.{Multi}
use Rattle.dr_meaning.specs.Calls.OpenFault.{has_bad_producers, is_bad_limit}
use Rattle.dr_c.specs.declared.open_fault.OpenFault.{OpenFault}
use Rattle.dr_c.specs.declared.open_fault.OpenFault.TheVariants.{StillOpen, BadCount, BadSize, NoHandlers, TooMany, BadOrder, BadProducers, BadLimit, NoMemory}
use Rattle.dr_c.specs.OpenFault.{AreInOrder, IsAmiss, IsFine, IsWhy, NoneIsAmiss, before}
use Rattle.dr_c.specs.Opening.{are_open, ends_in}
use Rattle.dr_c.specs.OpeningSeveral.{are_all_open}

none_of : (o : Option End) → is_some o ≡ false → o ≡ None
none_of None no_end = refl
none_of (Some e) no_end = absurd (false≢true (sym no_end))

pub none_in : (hs : List Handle) → list_any (λ h. is_some h.held.value) hs ≡ false → ends_in hs ≡ replicate (length hs) None
none_in [] none = refl
none_in (h ∷ hs) none =
    let both = or_parts (is_some h.held.value) (list_any (λ k. is_some k.held.value) hs) none in
    ap (λ (o : Option End). o ∷ ends_in hs) (none_of h.held.value both.0) ∙ ap (λ (os : List (Option End)). None ∷ os) (none_in hs both.1)

-- one more, before those that are freed already
pub freed_more : (os : List (Option End)) (left left' n : ℕ) → left ≡ left' + 1 → left ≤ n → length os ≡ n → drop left os ≡ replicate (n - left) None
    → drop left' (set os left' None) ≡ replicate (n - left') None
freed_more os left left' n next within many freed =
    drop_set os left' None (replicate (n - left) None) (omega arith) (ap (λ (k : ℕ). drop k os) (sym next) ∙ freed)
    ∙ ap (λ (k : ℕ). replicate k None) (let e : suc (n - left) ≡ n - left' = omega arith in e)

-- a ring's own fault is what keeps handles from having it, where none of them is open and there are enough
pub why_here : (b : Bool) (count senders size limit : ℕ) (masks : List ℕ) (fault : OpenFault) → b ≡ false → count ≡ length masks
    → IsWhy false (length masks) senders size limit masks fault → IsWhy b count senders size limit masks fault
why_here b count senders size limit masks fault closed same why =
    subst (λ (x : Bool). IsWhy x count senders size limit masks fault) (sym closed)
    (subst (λ (n : ℕ). IsWhy false n senders size limit masks fault) (sym same) why)

-- and nothing is amiss where nothing is with the ring
pub fine_here : (b : Bool) (count senders size limit : ℕ) (masks : List ℕ) → b ≡ false → count ≡ length masks
    → IsFine false (length masks) senders size limit masks → IsFine b count senders size limit masks
fine_here b count senders size limit masks closed same fine =
    subst (λ (x : Bool). IsFine x count senders size limit masks) (sym closed) (subst (λ (n : ℕ). IsFine false n senders size limit masks) (sym same) fine)

pub no_memory_here : (b : Bool) (count senders size limit : ℕ) (masks : List ℕ) → b ≡ false → count ≡ length masks
    → IsFine false (length masks) senders size limit masks → IsWhy b count senders size limit masks NoMemory
no_memory_here b count senders size limit masks closed same fine = (tt, fine_here b count senders size limit masks closed same fine)

pub still_open : (b : Bool) (count senders size limit : ℕ) (masks : List ℕ) → b ≡ true → IsWhy b count senders size limit masks StillOpen
still_open b count senders size limit masks is = (is, tt)

pub bad_count : (b : Bool) (count senders size limit : ℕ) (masks : List ℕ) → b ≡ false → count ≢ length masks → IsWhy b count senders size limit masks BadCount
bad_count b count senders size limit masks closed other = (other, ((λ is. false≢true (sym closed ∙ is)), tt))

-- Of a ring for handles that are not open, and are enough.

pub bad_size : (senders size limit : ℕ) (masks : List ℕ) → (IsSize size → ⊥) → IsWhy false (length masks) senders size limit masks BadSize
bad_size senders size limit masks bad = (bad, (false≢true, ((λ other. other refl), tt)))

pub no_handlers : (senders size limit : ℕ) (masks : List ℕ) → IsSize size → length masks ≡ 0 → IsWhy false (length masks) senders size limit masks NoHandlers
no_handlers senders size limit masks fits none = (none, (false≢true, ((λ other. other refl), ((λ bad. bad fits), tt))))

pub too_many : (senders size limit : ℕ) (masks : List ℕ) → IsSize size → length masks ≢ 0 → 16 < length masks
    → IsWhy false (length masks) senders size limit masks TooMany
too_many senders size limit masks fits some many = (many, (false≢true, ((λ other. other refl), ((λ bad. bad fits), (some, tt)))))

few : (n : ℕ) → n ≤ 16 → 16 < n → ⊥
few n within many = omega arith

pub bad_order : (senders size limit : ℕ) (masks : List ℕ) → IsSize size → length masks ≢ 0 → length masks ≤ 16 → (AreInOrder masks → ⊥)
    → IsWhy false (length masks) senders size limit masks BadOrder
bad_order senders size limit masks fits some within bad =
    (bad, (false≢true, ((λ other. other refl), ((λ no. no fits), (some, (few (length masks) within, tt))))))

masks_fine : (senders size limit : ℕ) (masks : List ℕ) → IsSize size → length masks ≢ 0 → length masks ≤ 16 → AreInOrder masks
    → NoneIsAmiss false (length masks) senders size limit masks (before BadProducers)
masks_fine senders size limit masks fits some within order =
    (false≢true, ((λ other. other refl), ((λ no. no fits), (some, (few (length masks) within, ((λ bad. bad order), tt))))))

pub bad_producers : (senders size limit : ℕ) (masks : List ℕ) → IsSize size → length masks ≢ 0 → length masks ≤ 16 → AreInOrder masks
    → has_bad_producers (Multi senders) ≡ true → IsWhy false (length masks) senders size limit masks BadProducers
bad_producers senders size limit masks fits some within order bad = (bad, masks_fine senders size limit masks fits some within order)

-- nor is one fault more
nor : (b : Bool) (count senders size limit : ℕ) (masks : List ℕ) (faults : List OpenFault) (fault : OpenFault)
    → NoneIsAmiss b count senders size limit masks faults
    → (IsAmiss b count senders size limit masks fault → ⊥) → NoneIsAmiss b count senders size limit masks (faults ++ fault ∷ [])
nor b count senders size limit masks [] fault none not_it = (not_it, tt)
nor b count senders size limit masks (first ∷ faults) fault none not_it = (none.0, nor b count senders size limit masks faults fault none.1 not_it)

senders_fine : (senders size limit : ℕ) (masks : List ℕ) → IsSize size → length masks ≢ 0 → length masks ≤ 16 → AreInOrder masks
    → has_bad_producers (Multi senders) ≡ false → NoneIsAmiss false (length masks) senders size limit masks (before BadLimit)
senders_fine senders size limit masks fits some within order enough =
    nor false (length masks) senders size limit masks (before BadProducers) BadProducers (masks_fine senders size limit masks fits some within order)
    (λ bad. false≢true (sym enough ∙ bad))

pub bad_limit : (senders size limit : ℕ) (masks : List ℕ) → IsSize size → length masks ≢ 0 → length masks ≤ 16 → AreInOrder masks
    → has_bad_producers (Multi senders) ≡ false → is_bad_limit limit ≡ true → IsWhy false (length masks) senders size limit masks BadLimit
bad_limit senders size limit masks fits some within order enough bad = (bad, senders_fine senders size limit masks fits some within order enough)

pub all_fine : (senders size limit : ℕ) (masks : List ℕ) → IsSize size → length masks ≢ 0 → length masks ≤ 16 → AreInOrder masks
    → has_bad_producers (Multi senders) ≡ false → is_bad_limit limit ≡ false → IsFine false (length masks) senders size limit masks
all_fine senders size limit masks fits some within order enough good =
    nor false (length masks) senders size limit masks (before BadLimit) BadLimit (senders_fine senders size limit masks fits some within order enough)
    (λ bad. false≢true (sym good ∙ bad))

-- where nothing is amiss memory may be wanting
pub no_memory : (b : Bool) (count senders size limit : ℕ) (masks : List ℕ) → IsFine b count senders size limit masks
    → IsWhy b count senders size limit masks NoMemory
no_memory b count senders size limit masks fine = (tt, fine)

-- none of the receivers' handles is open
pub none_before : (s : Handle) (hs : List Handle) (h : Handle) → are_open s hs h ≡ false → ends_in hs ≡ replicate (length hs) None
none_before s hs h closed =
    let p = is_some s.held.value in let q = list_any (λ k. is_some k.held.value) hs in
    none_in hs (or_parts p q (or_parts (p || q) (is_some h.held.value) closed).0).1

-- once all are freed that were not open, the handles have what they had
pub freed_again : (s : Handle) (hs freed : List Handle) (h : Handle) (n : ℕ) → are_open s hs h ≡ false → n ≡ length hs
    → ends_in freed ≡ replicate n None → ends_in freed ≡ ends_in hs
freed_again s hs freed h n closed same none = none ∙ ap (λ (k : ℕ). replicate k None) same ∙ sym (none_before s hs h closed)

-- none of the handles of several senders is open, nor one of their receivers'
pub none_among : (ss rs : List Handle) (h : Handle) → are_all_open ss rs h ≡ false
    → (ends_in ss ≡ replicate (length ss) None) × (ends_in rs ≡ replicate (length rs) None)
none_among ss rs h closed =
    let p = list_any (λ k. is_some k.held.value) ss in let q = list_any (λ k. is_some k.held.value) rs in
    let both = or_parts p q (or_parts (p || q) (is_some h.held.value) closed).0 in (none_in ss both.0, none_in rs both.1)

pub senders_again : (ss rs freed : List Handle) (h : Handle) (n : ℕ) → are_all_open ss rs h ≡ false → n ≡ length ss → ends_in freed ≡ replicate n None
    → ends_in freed ≡ ends_in ss
senders_again ss rs freed h n closed same none = none ∙ ap (λ (k : ℕ). replicate k None) same ∙ sym (none_among ss rs h closed).0

pub receivers_again : (ss rs freed : List Handle) (h : Handle) (n : ℕ) → are_all_open ss rs h ≡ false → n ≡ length rs → ends_in freed ≡ replicate n None
    → ends_in freed ≡ ends_in rs
receivers_again ss rs freed h n closed same none = none ∙ ap (λ (k : ℕ). replicate k None) same ∙ sym (none_among ss rs h closed).1
