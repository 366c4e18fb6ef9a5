-- Many events, written one after another.
use Rattle.std.proofs.Common.{◌≡◌, ℕ, suc, ◌+◌, ◌<◌, ◌≤◌, inl, inr, List, [], ◌∷◌, ◌++◌, length, take, drop, get_or, None, Some, Ok, Err, sym, refl}
use Rattle.std.proofs.Common.{ap, ◌∙◌, subst, arith}
use Rattle.std.proofs.lemmas.List.{length-take-le, take_more, take-append-drop}
use Rattle.std.proofs.Math.Seq.{drop-cons}
use Rattle.dr_runs.proofs.Lists.{take_whole}
use Rattle.dr_meaning.specs.declared.ends.Trouble.{Trouble}
use Rattle.dr_meaning.specs.Calls.Ends.{IsEndsAnswer}
use Rattle.dr_plain_senders.specs.Calls.Ends.{SenderEnd, sender_place}
use Rattle.dr_plain_senders.specs.Calls.Inlets.{WriteAllCall}
use Rattle.dr_plain_senders.specs.Calls.Writing.{WriteCall}

module _ {T : Type 0} where
  -- all of these are written
  abbrev pub WritesEach : SenderEnd T → ℕ → List T → SenderEnd T → Type 0
  WritesEach e lo [] e' = e' ≡ e
  WritesEach e lo (event ∷ events) e' = (between : SenderEnd T) × WriteCall e lo event between (Ok tt) × WritesEach between (lo + 1) events e'

  -- the first k events are
  pub record WroteFirst (e : SenderEnd T) (lo : ℕ) (events : List T) (k : ℕ) (e' : SenderEnd T) : Type 0 where
    pub place : sender_place e' ≡ sender_place e
    pub each : WritesEach e lo (take k events) e'

  each_more : (e a b : SenderEnd T) (lo s : ℕ) (xs : List T) (event : T) → s ≡ lo + length xs → WritesEach e lo xs a
      → WriteCall a s event b (Ok tt) → WritesEach e lo (xs ++ event ∷ []) b
  each_more e a b lo s [] event at W C = (
    b,
    subst (λ (x : SenderEnd T). WriteCall x lo event b (Ok tt)) W
        (subst (λ (n : ℕ). WriteCall a n event b (Ok tt)) (let z : s ≡ lo = omega arith in z) C),
    refl,
  )
  each_more e a b lo s (x ∷ xs) event at W C = (W.0, W.1, each_more W.0 a b (lo + 1) s xs event (omega arith) W.2 C)

  pub wrote_more : (e a b : SenderEnd T) (lo k s : ℕ) (events : List T) (d event : T) → k < length events → s ≡ lo + k → get_or events k d ≡ event
      → WroteFirst e lo events k a → sender_place b ≡ sender_place a → WriteCall a s event b (Ok tt) → WroteFirst e lo events (k + 1) b
  wrote_more e a b lo k s events d event less at is W place C =
      let many : length (take k events) ≡ k = length-take-le k events (omega arith) in
      let more : take k events ++ event ∷ [] ≡ take (k + 1) events =
      ap (λ (x : T). take k events ++ x ∷ []) (sym is) ∙ sym (take_more events k d less) in record {
        place = place ∙ W.place;
        each = subst (λ (xs : List T). WritesEach e lo xs b) more (each_more e a b lo s (take k events) event (omega arith) W.each C);
      }

  all_written : (e a : SenderEnd T) (lo : ℕ) (events : List T) → WritesEach e lo events a → WriteAllCall e lo events a (length events) None
  all_written e a lo [] W = (W, refl, refl)
  all_written e a lo (x ∷ xs) W = inl (W.0, length xs, W.1, omega arith, all_written W.0 a (lo + 1) xs W.2)

  stops : (e a b : SenderEnd T) (lo s : ℕ) (xs rest : List T) (event : T) (trouble : Trouble) → s ≡ lo + length xs → WritesEach e lo xs a
      → IsEndsAnswer (WriteCall a s event b) (Err trouble) → WriteAllCall e lo (xs ++ event ∷ rest) b (length xs) (Some trouble)
  stops e a b lo s [] rest event trouble at W C =
      inr (
        trouble,
        subst (λ (x : SenderEnd T). IsEndsAnswer (WriteCall x lo event b) (Err trouble)) W
            (subst (λ (n : ℕ). IsEndsAnswer (WriteCall a n event b) (Err trouble)) (let z : s ≡ lo = omega arith in z) C),
        refl,
        refl,
      )
  stops e a b lo s (x ∷ xs) rest event trouble at W C =
      inl (W.0, length xs, W.1, omega arith, stops W.0 a b (lo + 1) s xs rest event trouble (omega arith) W.2 C)

  pub stopped : (e a b : SenderEnd T) (lo k s : ℕ) (events : List T) (d event : T) (trouble : Trouble)
      → k < length events → s ≡ lo + k → get_or events k d ≡ event
      → WroteFirst e lo events k a → IsEndsAnswer (WriteCall a s event b) (Err trouble) → WriteAllCall e lo events b k (Some trouble)
  stopped e a b lo k s events d event trouble less at is W C =
      let many : length (take k events) ≡ k = length-take-le k events (omega arith) in
      let whole : take k events ++ event ∷ drop (suc k) events ≡ events =
      ap (λ (x : T). take k events ++ x ∷ drop (suc k) events) (sym is)
      ∙ ap (λ (xs : List T). take k events ++ xs) (sym (drop-cons events k d less)) ∙ take-append-drop k events in
      subst (λ (n : ℕ). WriteAllCall e lo events b n (Some trouble)) many
      (subst (λ (xs : List T). WriteAllCall e lo xs b (length (take k events)) (Some trouble)) whole
      (stops e a b lo s (take k events) (drop (suc k) events) event trouble (omega arith) W.each C))

  pub wrote_all : (e a : SenderEnd T) (lo k : ℕ) (events : List T) → length events ≤ k
      → WroteFirst e lo events k a → WriteAllCall e lo events a (length events) None
  wrote_all e a lo k events all W = all_written e a lo events (subst (λ (xs : List T). WritesEach e lo xs a) (take_whole events k all) W.each)
