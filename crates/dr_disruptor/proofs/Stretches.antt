-- The sequences of a claim are filled one after another, and then published.
use Rattle.std.proofs.Common.{◌≡◌, ◌<◌, ◌+◌, ◌-◌, ◌^◌, ℕ, suc, min, List, [], ◌∷◌, ◌++◌, length, map, replicate, set, Option, None, Some, refl, sym, ap, subst, ◌∙◌, arith, length-append, append_assoc}
use Rattle.std.proofs.lemmas.List.{append-nil, length-map, length-replicate, map-append}
use Rattle.std.proofs.Math.Seq.{set-append_seam}
use Rattle.dr_meaning.specs.declared.command.Claimed.{Claimed}
use Rattle.dr_meaning.specs.Calls.Ends.{IsStretch}
use Rattle.dr_meaning.specs.Calls.InPlaceInlets.{Changes, IsOpen, IsWhole, Opens, Publishes, Sending}
use Rattle.dr_disruptor.specs.Sending.{Fills, FillsOn, FillsPart, SendsAll, SendsOne}

module _ {E : Type 0} where
  abbrev all_some : List E → List (Option E)
  all_some xs = map (λ event. Some event) xs

  -- one more is filled where none was
  next_filled : (events : List E) (left i : ℕ) (event : E) → 0 < left → i ≡ length events
      → set (all_some events ++ replicate left None) i (Some event) ≡ all_some (events ++ event ∷ []) ++ replicate (left - 1) None
  next_filled events left i event there at =
      let more : left ≡ suc (left - 1) = omega arith in
      let place : i ≡ length (all_some events) = at ∙ sym (length-map events (λ event. Some event)) in
      ap (λ n. set (all_some events ++ replicate n None) i (Some event)) more
      ∙ ap (λ n. set (all_some events ++ None ∷ replicate (left - 1) None) n (Some event)) place
      ∙ set-append_seam (all_some events) None (replicate (left - 1) None) (Some event)
      ∙ sym (append_assoc (all_some events) (Some event ∷ []) (replicate (left - 1) None))
      ∙ ap (λ l. l ++ replicate (left - 1) None) (sym (map-append (λ (x : E). Some x) events (event ∷ [])))

  -- some filled after others
  pub fills_more : (by : ℕ → E → E → Type 0) (k n : ℕ) (xs ys : List E) → Fills by k xs → n ≡ k + length xs → Fills by n ys → Fills by k (xs ++ ys)
  fills_more by k n [] ys is at more = let same : n ≡ k = omega arith in subst (λ (m : ℕ). Fills by m ys) same more
  fills_more by k n (x ∷ xs) ys is at more =
      let next : n ≡ k + 1 + length xs = omega arith in (is.0, is.1, fills_more by (k + 1) n xs ys is.2 next more)

  pub fills_on : {S : Type 0} (by : S → ℕ → E → S → E → Type 0) (k n : ℕ) (xs : List E) (state between last : S) (was now : E)
      → FillsOn by state k xs between → n ≡ k + length xs → by between n was last now → FillsOn by state k (xs ++ now ∷ []) last
  fills_on by k n [] state between last was now is at call =
      let same : n ≡ k = omega arith in
      (was, last, subst (λ m. by state m was last now) same (subst (λ s. by s n was last now) (sym is) call), refl)
  fills_on by k n (x ∷ xs) state between last was now is at call =
      let next : n ≡ k + 1 + length xs = omega arith in
      (is.0, is.1, is.2, fills_on by (k + 1) n xs is.1 between last was now is.3 next call)

  -- of a stretch that is just claimed none is filled
  pub filled_none : (Are : List E → Type 0) (n lo : ℕ) (a b : Sending E) → Opens lo n a b → Are [] → FillsPart Are 0 n lo b b
  filled_none Are n lo a b opens none = record {
    events = [];
    left = n;
    many = refl;
    all = (let e : 0 + n ≡ n = omega arith in e);
    fills = none;
    pending = ap (λ (x : Sending E). x.pending) opens;
    at = ap (λ (x : Sending E). x.first) opens;
    published = refl;
  }

  -- the next one may be filled
  pub may_fill : (Are : List E → Type 0) (k n lo s : ℕ) (a b : Sending E) → FillsPart Are k n lo a b → k < n → s ≡ lo + k → IsOpen b s
  may_fill Are k n lo s a b h below at =
      let first_is = h.at in
      let all = h.all in
      let many = h.many in
      let long : length b.pending ≡ length h.events + h.left = ap length h.pending ∙ length-append (all_some h.events) (replicate h.left None)
      ∙ ap (λ m. m + length (replicate {A = Option E} h.left None)) (length-map h.events (λ event. Some event))
      ∙ ap (λ m. length h.events + m) (length-replicate h.left None) in
      (omega arith, omega arith)

  pub filled_more : (Are Come : List E → Type 0) (Change : E → E → Type 0) (k n lo s : ℕ) (a b c : Sending E) → FillsPart Are k n lo a b → k < n → s ≡ lo + k
      → ((events : List E) (was now : E) → length events ≡ k → Are events → Change was now → Come (events ++ now ∷ []))
      → Changes Change s b c → FillsPart Come (k + 1) n lo a c
  filled_more Are Come Change k n lo s a b c h below at on change =
      let now = change.1 in
      let many = h.many in
      let all = h.all in
      let first_is = h.at in
      let place : s - b.first ≡ length h.events = omega arith in
      let some_left : 0 < h.left = omega arith in
      record {
        events = h.events ++ now ∷ [];
        left = h.left - 1;
        many = length-append h.events (now ∷ []) ∙ (let e : length h.events + 1 ≡ k + 1 = omega arith in e);
        all = (let e : k + 1 + (h.left - 1) ≡ n = omega arith in e);
        fills = on h.events change.0 now h.many h.fills change.2;
        pending = ap (λ (x : Sending E). x.pending) change.3 ∙ ap (λ l. set l (s - b.first) (Some now)) h.pending
            ∙ next_filled h.events h.left (s - b.first) now some_left place;
        at = ap (λ (x : Sending E). x.first) change.3 ∙ h.at;
        published = ap (λ (x : Sending E). x.published) change.3 ∙ h.published;
      }

  -- all of a stretch is filled
  all_filled : (Are : List E → Type 0) (n lo : ℕ) (a b : Sending E) → (h : FillsPart Are n n lo a b) → b.pending ≡ all_some h.events
  all_filled Are n lo a b h =
      let all = h.all in
      let none : h.left ≡ 0 = omega arith in
      h.pending ∙ ap (λ m. all_some h.events ++ replicate m None) none ∙ append-nil (all_some h.events)

  pub is_whole : (Are : List E → Type 0) (n : ℕ) (c : Claimed) (a b : Sending E) → IsStretch n c → FillsPart Are n n c.lo a b → IsWhole c.lo c.hi b
  is_whole Are n c a b stretch h =
      let many = h.many in
      let rises = stretch.0 in
      let long = stretch.1 in
      record { events = h.events; filled = all_filled Are n c.lo a b h; first = h.at; some = omega arith; last = omega arith }

  -- what was claimed, filled and published
  pub sends : (Are : List E → Type 0) (n lo : ℕ) (a b c d : Sending E) → Opens lo n a b → FillsPart Are n n lo b c → Publishes c d
      → SendsAll Are n a.published d.published
  sends Are n lo a b c d opens h publishes = record {
    events = h.events;
    many = h.many;
    fills = h.fills;
    published = publishes.published h.events (all_filled Are n lo b c h)
        ∙ ap (λ l. l ++ h.events) (h.published ∙ ap (λ (x : Sending E). x.published) opens);
  }

  pub sends_none : (Are : List E → Type 0) (old : List E) → Are [] → SendsAll Are 0 old old
  sends_none Are old none = record { events = []; many = refl; fills = none; published = sym (append-nil old) }

  -- one part after another
  pub sends_more : (by : ℕ → E → E → Type 0) (first n next m : ℕ) (a b c : List E) → SendsAll (Fills by first) n a b → next ≡ first + n
      → SendsAll (Fills by next) m b c → SendsAll (Fills by first) (n + m) a c
  sends_more by first n next m a b c h at k =
      let many = h.many in
      let most = k.many in
      record {
        events = h.events ++ k.events;
        many = length-append h.events k.events ∙ (let e : length h.events + length k.events ≡ n + m = omega arith in e);
        fills = fills_more by first next h.events k.events h.fills (omega arith) k.fills;
        published = k.published ∙ ap (λ l. l ++ k.events) h.published ∙ append_assoc a h.events k.events;
      }

  module _ (Change : E → E → Type 0) where
    abbrev IsOne : List E → Type 0
    IsOne events = Fills (λ n was now. Change was now) 0 events

    none_yet : (c : Claimed) (a b : Sending E) → Opens c.lo 1 a b → FillsPart IsOne 0 1 c.lo b b
    none_yet c a b opens = filled_none IsOne 1 c.lo a b opens tt

    pub one_open : (c : Claimed) (a b : Sending E) → Opens c.lo 1 a b → IsOpen b c.lo
    one_open c a b opens = may_fill IsOne 0 1 c.lo c.lo b b (none_yet c a b opens) (omega arith) (omega arith)

    -- one event alone
    one_filled : (c : Claimed) (a b d : Sending E) → Opens c.lo 1 a b → Changes Change c.lo b d → FillsPart IsOne 1 1 c.lo b d
    one_filled c a b d opens change =
        filled_more IsOne IsOne Change 0 1 c.lo c.lo b b d (none_yet c a b opens) (omega arith) (omega arith)
        (λ events was now many are left. fills_more (λ n was now. Change was now) 0 0 events (now ∷ []) are (omega arith) (was, left, tt)) change

    pub one_whole : (c : Claimed) (a b d : Sending E) → IsStretch 1 c → Opens c.lo 1 a b → Changes Change c.lo b d → IsWhole c.lo c.hi d
    one_whole c a b d stretch opens change = is_whole IsOne 1 c b d stretch (one_filled c a b d opens change)

    alone : (events old new : List E) → length events ≡ 1 → IsOne events → new ≡ old ++ events → SendsOne Change old new
    alone [] old new many fills is = absurd (omega arith)
    alone (x ∷ []) old new many fills is = (fills.0, x, fills.1, is)
    alone (x ∷ y ∷ more) old new many fills is = absurd (omega arith)

    pub one_sent : (c : Claimed) (a b d e : Sending E) → Opens c.lo 1 a b → Changes Change c.lo b d → Publishes d e → SendsOne Change a.published e.published
    one_sent c a b d e opens change publishes =
        let sent = sends IsOne 1 c.lo a b d e opens (one_filled c a b d opens change) publishes in
        alone sent.events a.published e.published sent.many sent.fills sent.published

  -- how many were published then, as far as a `u64` counts
  pub counted_all : (Are : List E → Type 0) (n sent : ℕ) (old new : List E) → SendsAll Are n old new → sent ≡ min (length old) (2 ^ 64 - 1)
      → min (sent + n) (2 ^ 64 - 1) ≡ min (length new) (2 ^ 64 - 1)
  counted_all Are n sent old new h was =
      let many = h.many in
      let long : length new ≡ length old + length h.events = ap length h.published ∙ length-append old h.events in omega arith

  pub counted_one : (Change : E → E → Type 0) (sent : ℕ) (old new : List E) → SendsOne Change old new → sent ≡ min (length old) (2 ^ 64 - 1)
      → min (sent + 1) (2 ^ 64 - 1) ≡ min (length new) (2 ^ 64 - 1)
  counted_one Change sent old new h was = let long : length new ≡ length old + 1 = ap length h.3 ∙ length-append old (h.1 ∷ []) in omega arith
