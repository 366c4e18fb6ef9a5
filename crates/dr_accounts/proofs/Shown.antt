-- What a handler holds after events that it was shown.
use Rattle.std.proofs.Common.{◌≡◌, ◌≤◌, ◌<◌, ◌+◌, ℕ, zero, suc, Bool, true, false, ◌||◌, List, [], ◌∷◌, ◌++◌, length, refl, sym}
use Rattle.std.proofs.Common.{ap, ◌∙◌, subst, arith, inl, inr, add-zero, append-nil, append_assoc, flat_map, length-append}
use Rattle.std.proofs.lemmas.Bool.{cases_Bool}
use Rattle.std.proofs.lemmas.List.{get_or_append_left}
use Rattle.std.proofs.lemmas.List.Concat.{flat_map-append}
use Rattle.std.proofs.lemmas.List.Folds.{list_any-append}
use Rattle.std.proofs.Math.Seq.{get_or-append_seam}
use Rattle.dr_seq.specs.declared.event.Event.{Event}
use Rattle.dr_seq.specs.Event.{no_event}
use Rattle.dr_meaning.specs.Calls.Handling.{GoesThrough, Relation, showings}
use Rattle.dr_accounts.specs.declared.business.Business.{Business}
use Rattle.dr_accounts.specs.declared.journal.Journal.{Journal}
use Rattle.dr_accounts.specs.declared.replica.Replica.{Replica}
use Rattle.dr_accounts.specs.Accounts.{balance_by, balance_of, balances_after, is_account, movement_at, names, refusal_by, refusals_after, refusals_of}
use Rattle.dr_accounts.specs.Handlers.{Booked, Books, Copies, Goes, HasBusiness, IsBusinessOf, IsJournalOf, IsReplicaOf, Journals, balance_in, kept}
use Rattle.dr_operations.specs.Operations.{movement_of}
use Rattle.dr_accounts.specs.Report.{journal_from, journal_line, replica_line}

-- one that has not failed after a call had not failed before it
pub took : {T : Type 0} (failed : T → Bool) (Takes : T → T → Type 0) (old new : T) → Goes T failed Takes old new → failed new ≡ false
    → (failed old ≡ false) × Takes old new
took failed Takes old new goes fine = elim (cases_Bool (failed old)) [
  | inl gone ↦ let clash : true ≡ false = sym gone ∙ ap failed (sym (goes.stays gone)) ∙ fine in absurd (let no_way : ⊥ = cc in no_way)
  | inr was ↦ (was, goes.takes was fine)
]

pub one_longer : (es : List Event) (e : Event) → length (es ++ e ∷ []) ≡ length es + 1
one_longer es e = length-append es (e ∷ [])

journal_from-push : (s : ℕ) (es : List Event) (e : Event) → journal_from s (es ++ e ∷ []) ≡ journal_from s es ++ journal_line (s + length es) e
unfolding journal_from
journal_from-push s [] e = rw (add-zero) (append-nil (journal_line s e))
journal_from-push s (x ∷ es) e =
    let at : (s + 1) + length es ≡ s + suc (length es) = omega arith in
    ap (λ l. journal_line s x ++ l) (journal_from-push (s + 1) es e ∙ ap (λ n. journal_from (s + 1) es ++ journal_line n e) at)
    ∙ sym (append_assoc (journal_line s x) (journal_from (s + 1) es) (journal_line (s + suc (length es)) e))

pub journal_goes : (a b : Journal) (es : List Event) (e : Event) (s : ℕ) (end : Bool)
    → IsJournalOf a es → Journals a e b → IsJournalOf b (es ++ e ∷ [])
journal_goes a b es e s end has goes = λ fine.
    let t = took (λ j. j.failed) _ a b goes fine in
    let h = has t.0 in
    let at : 0 + length es ≡ a.count = omega (arith, h.count) in
    record {
      lines = t.1.lines ∙ ap (λ l. l ++ journal_line a.count e) h.lines
          ∙ ap (λ n. journal_from 0 es ++ journal_line n e) (sym at) ∙ sym (journal_from-push 0 es e);
      count = t.1.count ∙ ap (λ n. n + 1) h.count ∙ sym (one_longer es e);
    }

pub replica_goes : (a b : Replica) (es : List Event) (e : Event) (s : ℕ) (end : Bool) → IsReplicaOf a es → Copies a e b → IsReplicaOf b (es ++ e ∷ [])
replica_goes a b es e s end has goes = λ fine.
    let t = took (λ r. r.failed) _ a b goes fine in
    let h = has t.0 in
    let last : flat_map replica_line (e ∷ []) ≡ replica_line e = append-nil (replica_line e) in
    record {
      lines = t.1.lines ∙ ap (λ l. l ++ replica_line e) h.lines
          ∙ ap (λ l. flat_map replica_line es ++ l) (sym last) ∙ sym (flat_map-append replica_line es (e ∷ []));
      count = t.1.count ∙ ap (λ n. n + 1) h.count ∙ sym (one_longer es e);
    }

-- events that come later change nothing of what came before them

pub front_movement : (es fs : List Event) (k : ℕ) → k < length es → movement_at (es ++ fs) k ≡ movement_at es k
front_movement es fs k l = ap movement_of (get_or_append_left es fs no_event k l)

pub front_balances : (es fs : List Event) (k : ℕ) → k ≤ length es → balances_after (es ++ fs) k ≡ balances_after es k
unfolding balances_after
front_balances es fs zero l = refl
front_balances es fs (suc k) l =
    let less : k < length es = omega arith in
    let within : k ≤ length es = omega arith in
    ap (λ m. balance_by m (balances_after (es ++ fs) k)) (front_movement es fs k less) ∙ ap (λ b. balance_by (movement_at es k) b) (front_balances es fs k within)

front_refusals : (es fs : List Event) (k : ℕ) → k ≤ length es → refusals_after (es ++ fs) k ≡ refusals_after es k
unfolding refusals_after
front_refusals es fs zero l = refl
front_refusals es fs (suc k) l =
    let less : k < length es = omega arith in
    let within : k ≤ length es = omega arith in
    ap (λ r. λ a. r a + refusal_by (movement_at (es ++ fs) k) (balances_after (es ++ fs) k) a) (front_refusals es fs k within)
    ∙ ap (λ m. λ a. refusals_after es k a + refusal_by m (balances_after (es ++ fs) k) a) (front_movement es fs k less)
    ∙ ap (λ b. λ a. refusals_after es k a + refusal_by (movement_at es k) b a) (front_balances es fs k within)

pub last_movement : (es : List Event) (e : Event) → movement_at (es ++ e ∷ []) (length es) ≡ movement_of e
last_movement es e = ap movement_of (get_or-append_seam es e [] no_event)

succ_length : (es : List Event) (e : Event) → length (es ++ e ∷ []) ≡ suc (length es)
succ_length es e = let one = one_longer es e in omega arith

pub balance_of-push : (es : List Event) (e : Event) → balance_of (es ++ e ∷ []) ≡ balance_by (movement_of e) (balance_of es)
unfolding balances_after
balance_of-push es e =
    let within : length es ≤ length es = omega arith in
    ap (balances_after (es ++ e ∷ [])) (succ_length es e) ∙ ap (λ m. balance_by m (balances_after (es ++ e ∷ []) (length es))) (last_movement es e)
    ∙ ap (balance_by (movement_of e)) (front_balances es (e ∷ []) (length es) within)

pub refusals_of-push : (es : List Event) (e : Event) (a : ℕ) → refusals_of (es ++ e ∷ []) a ≡ refusals_of es a + refusal_by (movement_of e) (balance_of es) a
unfolding refusals_after
refusals_of-push es e a =
    let within : length es ≤ length es = omega arith in
    ap (λ n. refusals_after (es ++ e ∷ []) n a) (succ_length es e)
    ∙ ap (λ m. refusals_after (es ++ e ∷ []) (length es) a + refusal_by m (balances_after (es ++ e ∷ []) (length es)) a) (last_movement es e)
    ∙ ap (λ r. r a + refusal_by (movement_of e) (balances_after (es ++ e ∷ []) (length es)) a) (front_refusals es (e ∷ []) (length es) within)
    ∙ ap (λ b. refusals_of es a + refusal_by (movement_of e) b a) (front_balances es (e ∷ []) (length es) within)

or_none : (b : Bool) → (b || false) ≡ b
or_none true = refl
or_none false = refl

pub is_account-push : (es : List Event) (e : Event) (a : ℕ) → is_account (es ++ e ∷ []) a ≡ (is_account es a || names (movement_of e) a)
is_account-push es e a = list_any-append (λ x. names (movement_of x) a) es (e ∷ []) ∙ ap (λ b. is_account es a || b) (or_none (names (movement_of e) a))

pub booked_goes : (a b : Business) (es : List Event) (e : Event) → HasBusiness a es → Booked e a b → HasBusiness b (es ++ e ∷ [])
booked_goes a b es e h booked =
    let before : (λ x. balance_in (kept a x)) ≡ balance_of es = (λ i. λ x. h.balances x i) in
    record {
      balances = λ x. (booked.moved x).balance ∙ ap (λ f. balance_by (movement_of e) f x) before ∙ ap (λ f. f x) (sym (balance_of-push es e));
      refusals = λ x. (booked.moved x).refused ∙ ap (λ n. n + refusal_by (movement_of e) (λ y. balance_in (kept a y)) x) (h.refusals x)
          ∙ ap (λ f. refusals_of es x + refusal_by (movement_of e) f x) before ∙ sym (refusals_of-push es e x);
      named = λ x. (booked.moved x).named ∙ ap (λ b. b || names (movement_of e) x) (h.named x) ∙ sym (is_account-push es e x);
      count = booked.count ∙ ap (λ n. n + 1) h.count ∙ sym (one_longer es e);
    }

pub business_goes : (a b : Business) (es : List Event) (e : Event) (s : ℕ) (end : Bool)
    → IsBusinessOf a es → Books a e b → IsBusinessOf b (es ++ e ∷ [])
business_goes a b es e s end has goes = λ fine.
    let t = took (λ x. x.failed) _ a b goes fine in
    booked_goes a b es e (has t.0) t.1
