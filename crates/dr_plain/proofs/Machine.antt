-- What the machine answers to the entries of a ring's steps.
use Rattle.std.proofs.Common.{◌≡◌, ℕ, zero, suc, ◌+◌, ◌<◌, ◌≤◌, inl, inr, Bool, false, ◌==◌, if◌then◌else◌, List, [], ◌∷◌, ◌++◌}
use Rattle.std.proofs.Common.{length, get_or, map, take, drop, Option, Some, None, is_none, sym, refl, ap, ◌∙◌, subst, arith, append_assoc}
use Rattle.std.specs.Prelude.{not}
use Rattle.std.specs.List.{range_with_len, filter_map, cons_option}
use Rattle.std.proofs.lemmas.Bool.{cases_eq, cases_lt, eq-eqb, ne_eqb, le-ltb, lt-leb}
use Rattle.std.proofs.lemmas.List.{length-map, length_push, map-append, get_or_append_left, get_or_past, append-nil}
use Rattle.dr_meaning.specs.declared.command.Command.TheVariants.{Write}
use Rattle.dr_meaning.specs.declared.command.Reply.TheVariants.{Written}
use Rattle.dr_meaning.specs.Meaning.Machine.{State, refusals, accepted, step}
use Rattle.dr_meaning.specs.Meaning.Transcript.{Transcript, LeadsFrom}
use Rattle.dr_meaning.proofs.Steps.{unless-none}
use Rattle.dr_plain.specs.Meaning.Shape.{Shape, ring_setup}
use Rattle.dr_plain.specs.Meaning.Moments.{writes_of}
use Rattle.dr_runs.proofs.OneSender as one
use Rattle.dr_runs.proofs.OneSender.{owners, count_owners, owner_is, leads_one}

module _ {T : Type 0} where
  -- what is written, where these are, one to each sequence
  abbrev pub values_of : List T → List (Option T)
  values_of events = map (λ event. Some event) events

  -- a state of which n sequences are claimed, with these events written, and all below f published; the rest is as at the opening
  abbrev pub shown : Shape → ℕ → List T → ℕ → List ℕ → List ℕ → Bool → State T
  shown k n vs = one.shown k.upstreams k.size k.limit n (values_of vs)

  at_end : (vs : List (Option T)) (o : Option T) → get_or (vs ++ o ∷ []) (length vs) None ≡ o
  at_end [] o = refl
  at_end (x ∷ xs) o = at_end xs o

  -- the next sequence gets this
  pub next_place : (vs : List (Option T)) (o : Option T) (q : ℕ) → (if q == length vs then o else get_or vs q None) ≡ get_or (vs ++ o ∷ []) q None
  next_place vs o q =
      elim (cases_eq q (length vs)) [
        | inl same ↦ rw (eq-eqb q (length vs) same) (sym (ap (λ (x : ℕ). get_or (vs ++ o ∷ []) x None) same ∙ at_end vs o))
        | inr ne ↦ rw (ne_eqb q (length vs) ne) (elim (cases_lt q (length vs)) [
          | inl lt ↦ sym (get_or_append_left vs (o ∷ []) None q lt)
          | inr past ↦ elim (cases_lt (length vs) q) [
            | inl more ↦ get_or_past vs q None past ∙ sym (get_or_past (vs ++ o ∷ []) q None (let l = length_push vs o in omega arith))
            | inr at ↦ absurd (ne (omega arith))
          ]
        ])
      ]

  next_written : (vs : List T) (e : T) (q : ℕ) → (if q == length vs then Some e else get_or (values_of vs) q None) ≡ get_or (values_of (vs ++ e ∷ [])) q None
  next_written vs e q =
      let some_of : T → Option T = λ event. Some event in
      ap (λ (n : ℕ). if q == n then Some e else get_or (values_of vs) q None) (sym (length-map vs some_of)) ∙ next_place (values_of vs) (Some e) q
      ∙ ap (λ (xs : List (Option T)). get_or xs q None) (sym (map-append some_of vs (e ∷ [])))

  write_step : (k : Shape) (n : ℕ) (vs : List T) (f : ℕ) (t d : List ℕ) (b : Bool) (s : ℕ) (e : T) → s ≡ length vs → f ≤ s → s < n
      → step (ring_setup k) (shown k n vs f t d b) (Write 0 s e) ≡ record { reply = Written; values = []; state = shown k n (vs ++ e ∷ []) f t d b }
  write_step k n vs f t d b s e count le lt =
      let m = shown k n vs f t d b in let len = count_owners n in
      unless-none (refusals (ring_setup k) m (Write 0 s e)) m (accepted (ring_setup k) m (Write 0 s e))
      (refl, (lt-leb (length (owners n)) s (omega arith), (le-ltb s f le, (ap not (owner_is n s lt), tt))))
      ∙ (λ i. record { reply = Written; values = []; state = record m { written = λ q. if q == count i then Some e else get_or (values_of vs) q None } })
      ∙ (λ i. record { reply = Written; values = []; state = record m { written = λ q. next_written vs e q i } })

  -- from a state the machine gives these replies and events, and ends in another
  abbrev pub Leads : Shape → Transcript T → State T → State T → Type 0
  Leads k es m n = LeadsFrom (ring_setup k) m es n

  pub lead_writes : (k : Shape) (n : ℕ) (es vs : List T) (f : ℕ) (t d : List ℕ) (b : Bool) (s : ℕ) (rest : Transcript T) (end : State T)
      → s ≡ length vs → f ≤ s → s + length es ≤ n → Leads k rest (shown k n (vs ++ es) f t d b) end
      → Leads k (writes_of s es ++ rest) (shown k n vs f t d b) end
  lead_writes k n [] vs f t d b s rest end count le within leads =
      subst (λ (xs : List T). Leads k rest (shown k n xs f t d b) end) (append-nil vs) leads
  lead_writes k n (e ∷ es) vs f t d b s rest end count le within leads =
      leads_one (ring_setup k) (Write 0 s e) Written [] (writes_of (s + 1) es ++ rest) (shown k n vs f t d b) (shown k n (vs ++ e ∷ []) f t d b) end
      (write_step k n vs f t d b s e count le (omega arith))
      (lead_writes k n es (vs ++ e ∷ []) f t d b (s + 1) rest end (let l = length_push vs e in omega arith) (omega arith) (omega arith)
      (subst (λ (xs : List T). Leads k rest (shown k n xs f t d b) end) (sym (append_assoc vs (e ∷ []) es)) leads))

  pub all_written : (vs : List T) (s : ℕ) → s < length vs → is_none (get_or (values_of vs) s None) ≡ false
  all_written [] s lt = absurd (omega arith)
  all_written (x ∷ xs) zero lt = refl
  all_written (x ∷ xs) (suc s) lt = all_written xs s (omega arith)

  -- the event of a sequence, and those after it
  split_at : (vs : List T) (a : ℕ) → a < length vs → (v : T) × (get_or (values_of vs) a None ≡ Some v) × (drop a vs ≡ v ∷ drop (suc a) vs)
  split_at [] a lt = absurd (omega arith)
  split_at (x ∷ xs) zero lt = (x, refl, refl)
  split_at (x ∷ xs) (suc a) lt = let r = split_at xs a (omega arith) in (r.0, r.1, r.2)

  -- what is written to a stretch of sequences
  pub written_to : (vs : List T) (a n : ℕ) → a + n ≤ length vs → filter_map (λ s. get_or (values_of vs) s None) (range_with_len a n) ≡ take n (drop a vs)
  written_to vs a zero le = refl
  written_to vs a (suc n) le =
      let one = split_at vs a (omega arith) in let rest = written_to vs (a + 1) n (omega arith) in let next : suc a ≡ a + 1 = omega arith in
      let after : drop a vs ≡ one.0 ∷ drop (a + 1) vs = one.2 ∙ ap (λ (j : ℕ). one.0 ∷ drop j vs) next in
      (λ i. cons_option (one.1 i) (rest i)) ∙ sym (ap (take (suc n)) after)
