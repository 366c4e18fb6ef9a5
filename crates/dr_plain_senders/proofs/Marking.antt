-- What a sender's marks tell, and what each of its notes leaves of them.
use Rattle.std.proofs.Common.{◌≡◌, ℕ, zero, suc, ◌+◌, ◌-◌, ◌/◌, ◌%◌, ◌^◌, ◌<◌, ◌≤◌, ◌⊎◌, ◌==◌, ◌&&◌, inl, inr, Bool, true, false, not}
use Rattle.std.proofs.Common.{if◌then◌else◌, List, ◌∷◌, length, map, get_or, set, replicate, sym, refl, ap, ◌∙◌, arith}
use Rattle.std.specs.Prelude.{nat_le, nat_lt}
use Rattle.std.proofs.lemmas.Bool.{cases_Bool, ne_eqb, eqb-true, leb-true, leb-false, ltb-true, ltb-false}
use Rattle.std.proofs.lemmas.List.{length-map, map-set}
use Rattle.std.proofs.Math.Nat.{mod-lt}
use Rattle.std.proofs.Math.Seq.{map-set_same}
use Rattle.dr_seq.specs.Rounds.{entry_of, is_marked}
use Rattle.dr_seq.specs.Size.{IsSize}
use Rattle.dr_seq.specs.Stamped.{stamped}
use Rattle.dr_seq.proofs.Sizes.{size_positive}
use Rattle.dr_seq.proofs.Stamped.{length-stamped, marked-in}
use Rattle.dr_runs.proofs.Elements.{at_index, value_at}
use Rattle.dr_runs.proofs.Lists.{map_there}
use Rattle.dr_plain_senders.specs.declared.owned.Mark.{Mark}
use Rattle.dr_plain_senders.specs.Inside.Owned.{Owned, OwnedFits, owned_of, claimed_by, written_by, published_by, wiped, done, after_claim}
use Rattle.dr_plain_senders.specs.Inside.Owned.{after_write, after_publication, is_open, is_ready}
use Rattle.dr_plain_senders.proofs.Stamps.{none_set, run_is, both_set, same_round, over_set, set_again, stamped_same, unwipe_one, unwipe, still}
use Rattle.dr_plain_senders.proofs.Wiped.{wiped_in}

-- Many marks at once.

-- those of one round have one entry, and slots side by side
pub next_run : (f : Mark → ℕ) (size from next stop slot upto entry : ℕ) (xs ys zs : List ℕ) → length xs ≡ size → from ≤ next → next ≤ stop
    → stop ≤ next + (size - slot) → slot ≡ next % size → upto ≡ slot + (stop - next) → entry ≡ next / size + 1
    → ys ≡ stamped (λ s. f (done (entry_of size s))) xs from (next - from) → zs ≡ stamped (λ _. f (done entry)) ys slot (upto - slot)
    → zs ≡ stamped (λ s. f (done (entry_of size s))) xs from (stop - from)
next_run f size from next stop slot upto entry xs ys zs len low le far place end is was new =
    let g : ℕ → ℕ = λ s. f (done (entry_of size s)) in let v : ℕ = f (done entry) in let a = next - from in let b = stop - next in
    let n : upto - slot ≡ b = omega arith in let all : a + b ≡ stop - from = omega arith in let here : next ≡ from + a = omega arith in
    let many : length ys ≡ size = ap length was ∙ length-stamped g xs from a ∙ len in
    let spot : slot ≡ next % length ys = place ∙ ap (λ (m : ℕ). next % m) (sym many) in
    let same : (j : ℕ) → j < b → g (next + j) ≡ v = λ j lt. (let near : next % size + j < size = omega arith in
    ap (λ (r : ℕ). f (done (r + 1))) (same_round size next j near) ∙ ap (λ (r : ℕ). f (done r)) (sym is)) in
    new ∙ (λ i. stamped (λ _. v) ys (spot i) (n i)) ∙ run_is g v ys next b same
    ∙ (λ i. stamped g (was i) (here i) b) ∙ both_set g xs from a b ∙ ap (stamped g xs from) all

-- What is read.

pub map_all : (f : Mark → ℕ) (m : Mark) (n : ℕ) → map f (replicate n m) ≡ replicate n (f m)
map_all f m zero = refl
map_all f m (suc n) = ap (λ (xs : List ℕ). f m ∷ xs) (map_all f m n)

pub reads : (f : Mark → ℕ) (marks : List Mark) (size s i : ℕ) (m : Mark) → length marks ≡ size → 0 < size → i ≡ s % size → m ≡ get_or marks i m
    → get_or (map f marks) (s % length (map f marks)) 0 ≡ f m
reads f marks size s i m len pos place is =
    let many : length (map f marks) ≡ size = length-map marks f ∙ len in let inside : s % size < size = mod-lt s pos in
    ap (λ (n : ℕ). get_or (map f marks) (s % n) 0) many ∙ ap (λ (j : ℕ). get_or (map f marks) j 0) (sym place)
    ∙ value_at (map f marks) i (f m) 0 (map_there f marks i m (at_index marks i m (omega arith) is))

marked_if : (b : Bool) (x r : ℕ) → ((if b then x else 0) == r + 1) ≡ (b && (x == r + 1))
marked_if true x r = refl
marked_if false x r = ne_eqb 0 (r + 1) (λ e. omega arith)

first_so : (a b : Bool) → (a && b) ≡ true → a ≡ true
first_so true b e = refl
first_so false b e = absurd (cc)

second_so : (a b : Bool) → (a && b) ≡ true → b ≡ true
second_so true b e = e
second_so false b e = absurd (cc)

not_so : (b : Bool) → not b ≡ true → b ≡ false
not_so true e = absurd (cc)
not_so false e = refl

pub in_stretch : (from upto s : ℕ) → (nat_le from s && nat_lt s upto) ≡ true → (from ≤ s) × (s < upto)
in_stretch from upto s so =
    (leb-true from s (first_so (nat_le from s) (nat_lt s upto) so), ltb-true s upto (second_so (nat_le from s) (nat_lt s upto) so))

pub out_of_stretch : (from upto s : ℕ) → (nat_le from s && nat_lt s upto) ≡ false → (s < from) ⊎ (upto ≤ s)
out_of_stretch from upto s so = elim (cases_Bool (nat_le from s)) [
  | inl low ↦ inr (ltb-false s upto (sym (ap (λ (b : Bool). b && nat_lt s upto) low) ∙ so))
  | inr below ↦ inl (leb-false from s below)
]

pub part_of_stretch : (from upto first end : ℕ) → (nat_le from first && nat_le end upto) ≡ true → (from ≤ first) × (end ≤ upto)
part_of_stretch from upto first end so =
    (leb-true from first (first_so (nat_le from first) (nat_le end upto) so), leb-true end upto (second_so (nat_le from first) (nat_le end upto) so))

pub first_of_stretch : (from upto s : ℕ) → ((s == from) && nat_lt from upto) ≡ true → (s ≡ from) × (from < upto)
first_of_stretch from upto s so =
    (eqb-true s from (first_so (s == from) (nat_lt from upto) so), ltb-true from upto (second_so (s == from) (nat_lt from upto) so))

pub begins_stretch : (from upto first end : ℕ) → ((first == from) && nat_le end upto) ≡ true → (first ≡ from) × (end ≤ upto)
begins_stretch from upto first end so =
    (eqb-true first from (first_so (first == from) (nat_le end upto) so), leb-true end upto (second_so (first == from) (nat_le end upto) so))

pub open_claimed : (o : Owned) (s : ℕ) → is_open o s ≡ true → is_marked o.claimed s ≡ true
open_claimed o s so = first_so (is_marked o.claimed s) (not (is_marked o.published s)) so

pub open_hidden : (o : Owned) (s : ℕ) → is_open o s ≡ true → is_marked o.published s ≡ false
open_hidden o s so = not_so (is_marked o.published s) (second_so (is_marked o.claimed s) (not (is_marked o.published s)) so)

pub ready_open : (o : Owned) (s : ℕ) → is_ready o s ≡ true → is_open o s ≡ true
ready_open o s so = first_so (is_open o s) (is_marked o.written s) so

pub ready_written : (o : Owned) (s : ℕ) → is_ready o s ≡ true → is_marked o.written s ≡ true
ready_written o s so = second_so (is_open o s) (is_marked o.written s) so

-- what a mark that is read tells of its sequence
pub is_claimed_by : (marks : List Mark) (size s entry : ℕ) (m : Mark) → length marks ≡ size
    → ((f : Mark → ℕ) → get_or (map f marks) (s % length (map f marks)) 0 ≡ f m)
    → entry ≡ entry_of size s → (m.entry == entry) ≡ is_marked (map claimed_by marks) s
is_claimed_by marks size s entry m count at is =
    (λ i. sym (at claimed_by) i == (is ∙ ap (λ (n : ℕ). entry_of n s) (sym (length-map marks claimed_by ∙ count))) i)

pub is_flagged_by : (f : Mark → ℕ) (b : Bool) (marks : List Mark) (size s entry : ℕ) (m : Mark) → length marks ≡ size
    → get_or (map f marks) (s % length (map f marks)) 0 ≡ f m → f m ≡ (if b then m.entry else 0)
    → entry ≡ entry_of size s → (b && (m.entry == entry)) ≡ is_marked (map f marks) s
is_flagged_by f b marks size s entry m count at flag is =
    ap (λ (e : ℕ). b && (m.entry == e)) is ∙ sym (marked_if b m.entry (s / size))
    ∙ (λ i. (sym (at ∙ flag)) i == entry_of (sym (length-map marks f ∙ count) i) s)

both_ways : (a b : Bool) → (a && not (b && a)) ≡ (a && not b)
both_ways true true = refl
both_ways true false = refl
both_ways false b = refl

once_more : (a h b : Bool) → ((a && h) && (b && a)) ≡ ((a && h) && b)
once_more true h true = refl
once_more true h false = refl
once_more false h b = refl

-- A sender's marks with its last claim.

module _ (marks : List Mark) (size shown filled end : ℕ) (F : OwnedFits marks size shown filled end) where
  abbrev view : Owned
  view = owned_of marks shown filled end

  pub some_slot : 0 < size
  some_slot = size_positive size F.made

  pub rows : (f : Mark → ℕ) → length (map f marks) ≡ size
  rows f = length-map marks f ∙ F.count

  pub open_in : (s : ℕ) → shown ≤ s → s < end → is_open view s ≡ true
  open_in s low high =
      let few = F.round in let pos = some_slot in let count = rows published_by in
      let hidden : is_marked view.published s ≡ false = wiped_in (map published_by marks) shown (end - shown) s (omega arith) (omega arith) low (omega arith) in
      (λ i. F.claimed s low high i && not (hidden i))

  -- outside what is counted the marks tell
  pub published_out : (s : ℕ) → (s < shown) ⊎ (end ≤ s) → is_marked view.published s ≡ is_marked (map published_by marks) s
  published_out s out =
      let pos = some_slot in let count = rows published_by in let a = F.order.0 in let b = F.order.1 in
      still (map published_by marks) shown (end - shown) s (omega arith) (λ j lt. F.published (shown + j) (omega arith) (omega arith))
      (elim out [ inl low ↦ inl low | inr high ↦ inr (omega arith) ])

  pub written_out : (s : ℕ) → (s < filled) ⊎ (end ≤ s) → is_marked view.written s ≡ is_marked (map written_by marks) s
  written_out s out =
      let pos = some_slot in let count = rows written_by in let a = F.order.0 in let b = F.order.1 in
      still (map written_by marks) filled (end - filled) s (omega arith) (λ j lt. F.written (filled + j) (omega arith) (omega arith))
      (elim out [ inl low ↦ inl low | inr high ↦ inr (omega arith) ])

  pub written_in : (s : ℕ) → shown ≤ s → s < filled → is_marked view.written s ≡ true
  written_in s low high = let b = F.order.1 in written_out s (inl high) ∙ F.written s low (omega arith)

  pub ready_in : (s : ℕ) → shown ≤ s → s < filled → is_ready view s ≡ true
  ready_in s low high = let b = F.order.1 in (λ i. open_in s low (omega arith) i && written_in s low high i)

  pub unready_in : (s : ℕ) → filled ≤ s → s < end → is_ready view s ≡ false
  unready_in s low high =
      let few = F.round in let pos = some_slot in let count = rows written_by in let a = F.order.0 in
      let blank : is_marked view.written s ≡ false = wiped_in (map written_by marks) filled (end - filled) s (omega arith) (omega arith) low (omega arith) in
      (λ i. open_in s (omega arith) high i && blank i)

  -- what is answered of one that is not counted
  pub open_out : (s entry : ℕ) (m : Mark) → (s < shown) ⊎ (end ≤ s) → ((f : Mark → ℕ) → get_or (map f marks) (s % length (map f marks)) 0 ≡ f m)
      → entry ≡ entry_of size s → ((m.entry == entry) && not m.is_published) ≡ is_open view s
  open_out s entry m out at is =
      let claimed = is_claimed_by marks size s entry m F.count at is in
      let shown_is = is_flagged_by published_by m.is_published marks size s entry m F.count (at published_by) refl is ∙ sym (published_out s out) in
      sym (both_ways (m.entry == entry) m.is_published) ∙ (λ i. claimed i && not (shown_is i))

  pub ready_out : (s entry : ℕ) (m : Mark) → (s < shown) ⊎ (end ≤ s) → ((f : Mark → ℕ) → get_or (map f marks) (s % length (map f marks)) 0 ≡ f m)
      → entry ≡ entry_of size s → (((m.entry == entry) && not m.is_published) && m.is_written) ≡ is_ready view s
  ready_out s entry m out at is =
      let a = F.order.0 in let further : (s < filled) ⊎ (end ≤ s) = elim out [ inl low ↦ inl (omega arith) | inr high ↦ inr high ] in
      let written = is_flagged_by written_by m.is_written marks size s entry m F.count (at written_by) refl is ∙ sym (written_out s further) in
      sym (once_more (m.entry == entry) (not m.is_published) m.is_written) ∙ (λ i. open_out s entry m out at is i && written i)

  -- its next sequence is written, and its next ones are published
  pub written_next : filled < end → owned_of marks shown (filled + 1) end ≡ after_write view filled
  written_next less =
      let ws : List ℕ = map written_by marks in let n = end - (filled + 1) in let z : end - filled ≡ n + 1 = omega arith in let few = F.round in
      let a = F.order.0 in
      let count = rows written_by in let len : length view.written ≡ length ws = length-stamped (λ _. 0) ws filled (end - filled) in
      let mark : wiped ws (filled + 1) n ≡ set view.written (filled % length view.written) (entry_of (length view.written) filled) =
      sym (unwipe_one ws filled n (omega arith) (F.written filled (omega arith) less))
      ∙ (λ i. set (wiped ws filled (sym z i)) (filled % sym len i) (entry_of (sym len i) filled)) in
      (λ i. record view { written = mark i })

  pub written_next_fits : filled < end → OwnedFits marks size shown (filled + 1) end
  written_next_fits less = record {
    count = F.count;
    made = F.made;
    order = let a = F.order.0 in let small = F.order.2 in (omega arith, omega arith, small);
    round = F.round;
    claimed = F.claimed;
    written = λ s low high. F.written s (omega arith) high;
    published = F.published;
  }

  pub shown_next : (upto : ℕ) → shown ≤ upto → upto ≤ filled
      → owned_of marks upto filled end ≡ after_publication view shown (upto - shown)
  shown_next upto low high =
      let ps : List ℕ = map published_by marks in let m = upto - shown in let n = end - upto in let b = F.order.1 in let few = F.round in
      let z : end - shown ≡ m + n = omega arith in let at : shown + m ≡ upto = omega arith in let count = rows published_by in
      let len : length view.published ≡ length ps = length-stamped (λ _. 0) ps shown (end - shown) in
      let marked : wiped ps upto n ≡ stamped (entry_of (length view.published)) view.published shown m =
      ap (λ (s : ℕ). wiped ps s n) (sym at) ∙ sym (unwipe ps shown m n (omega arith) (λ j lt. F.published (shown + j) (omega arith) (omega arith)))
      ∙ (λ i. stamped (entry_of (sym len i)) (wiped ps shown (sym z i)) shown m) in
      (λ i. record view { published = marked i })

  pub shown_next_fits : (upto : ℕ) → shown ≤ upto → upto ≤ filled → OwnedFits marks size upto filled end
  shown_next_fits upto low high = record {
    count = F.count;
    made = F.made;
    order = (high, F.order.1, F.order.2);
    round = let few = F.round in omega arith;
    claimed = λ s from to. F.claimed s (omega arith) to;
    written = λ s from to. F.written s (omega arith) to;
    published = λ s from to. F.published s (omega arith) to;
  }

  -- one that is written already is so again
  pub written_again : (s : ℕ) → shown ≤ s → s < filled → view ≡ after_write view s
  written_again s low high = (λ i. record view { written = sym (set_again view.written s (written_in s low high)) i })

-- With nothing counted.

abbrev pub plain : List Mark → Owned
plain marks = record { claimed = map claimed_by marks; written = map written_by marks; published = map published_by marks }

pub plain_is : (marks : List Mark) (end : ℕ) → owned_of marks end end end ≡ plain marks
plain_is marks end = (λ i. record {
  claimed = map claimed_by marks;
  written = none_set (λ _. 0) (map written_by marks) end i;
  published = none_set (λ _. 0) (map published_by marks) end i;
})

pub plain_fits : (marks : List Mark) (size end : ℕ) → length marks ≡ size → IsSize size → end ≤ 2 ^ 62 → OwnedFits marks size end end end
plain_fits marks size end count made small = record {
  count = count;
  made = made;
  order = (omega arith, omega arith, small);
  round = omega arith;
  claimed = λ s low high. absurd (omega arith);
  written = λ s low high. absurd (omega arith);
  published = λ s low high. absurd (omega arith);
}

-- marks that tell the same in one row are as many
pub as_many : (marks marks' : List Mark) → map claimed_by marks' ≡ map claimed_by marks → length marks' ≡ length marks
as_many marks marks' same = sym (length-map marks' claimed_by) ∙ ap length same ∙ length-map marks claimed_by

-- one flag of a mark is taken back
pub hidden_one : (marks : List Mark) (i : ℕ) (m : Mark) → m ≡ get_or marks i m → let marks' : List Mark = set marks i (record m { is_published = false }) in
    (map published_by marks' ≡ set (map published_by marks) i 0) × (map claimed_by marks' ≡ map claimed_by marks)
    × (map written_by marks' ≡ map written_by marks)
hidden_one marks i m at = let m' : Mark = record m { is_published = false } in (
  map-set published_by marks i m',
  map-set_same claimed_by marks i m' m (ap claimed_by at),
  map-set_same written_by marks i m' m (ap written_by at),
)

pub blanked_one : (marks : List Mark) (i : ℕ) (m : Mark) → m ≡ get_or marks i m
    → let marks' : List Mark = set marks i (record m { is_written = false }) in
    (map written_by marks' ≡ set (map written_by marks) i 0) × (map claimed_by marks' ≡ map claimed_by marks)
    × (map published_by marks' ≡ map published_by marks)
blanked_one marks i m at = let m' : Mark = record m { is_written = false } in (
  map-set written_by marks i m',
  map-set_same claimed_by marks i m' m (ap claimed_by at),
  map-set_same published_by marks i m' m (ap published_by at),
)

-- a sequence is written
pub written_one : (marks : List Mark) (size s i : ℕ) (m : Mark) → length marks ≡ size → 0 < size → is_open (plain marks) s ≡ true → i ≡ s % size
    → m ≡ get_or marks i m → plain (set marks i (record m { is_written = true })) ≡ after_write (plain marks) s
written_one marks size s i m count pos so place at =
    let m' : Mark = record m { is_written = true } in let ws : List ℕ = map written_by marks in
    let len : length ws ≡ size = length-map marks written_by ∙ count in
    let spot : i ≡ s % length ws = place ∙ ap (λ (z : ℕ). s % z) (sym len) in
    let mine : m.entry ≡ entry_of (length ws) s = sym (reads claimed_by marks size s i m count pos place at)
    ∙ eqb-true _ _ (open_claimed (plain marks) s so) ∙ ap (λ (z : ℕ). entry_of z s) (length-map marks claimed_by ∙ count ∙ sym len) in
    (λ j. record {
      claimed = map-set_same claimed_by marks i m' m (ap claimed_by at) j;
      written = (map-set written_by marks i m' ∙ (λ h. set ws (spot h) (mine h))) j;
      published = map-set_same published_by marks i m' m (ap published_by at) j;
    })

-- Marks that are all set.
module _ (marks marks' : List Mark) (size from n : ℕ) (count : length marks ≡ size)
    (is : (f : Mark → ℕ) → map f marks' ≡ stamped (λ s. f (done (entry_of size s))) (map f marks) from n) where
  row : (f : Mark → ℕ) → length (map f marks) ≡ size
  row f = length-map marks f ∙ count

  pub as_many_set : length marks' ≡ size
  as_many_set = sym (length-map marks' claimed_by) ∙ ap length (is claimed_by)
      ∙ length-stamped (λ s. claimed_by (done (entry_of size s))) (map claimed_by marks) from n ∙ row claimed_by

  by_length : (f : Mark → ℕ) → stamped (entry_of size) (map f marks) from n ≡ stamped (entry_of (length (map f marks))) (map f marks) from n
  by_length f = ap (λ (m : ℕ). stamped (entry_of m) (map f marks) from n) (sym (row f))

  -- they are claimed, and counted from then on
  pub claimed_is : (upto : ℕ) → n ≤ size → upto - from ≡ n → owned_of marks' from from upto ≡ after_claim (plain marks) from n
  claimed_is upto few at = let ws = row written_by in let ps = row published_by in (λ i. record {
    claimed = (is claimed_by ∙ by_length claimed_by) i;
    written = ((λ j. wiped (is written_by j) from (at j)) ∙ over_set (λ _. 0) (entry_of size) (map written_by marks) from n (omega arith)) i;
    published = ((λ j. wiped (is published_by j) from (at j)) ∙ over_set (λ _. 0) (entry_of size) (map published_by marks) from n (omega arith)) i;
  })

  marked : (f : Mark → ℕ) → map f marks' ≡ stamped (entry_of size) (map f marks) from n → 0 < size → n ≤ size
      → (s : ℕ) → from ≤ s → s < from + n → is_marked (map f marks') s ≡ true
  marked f rows_are pos few s low high = let len = row f in
      ap (λ (xs : List ℕ). is_marked xs s) (rows_are ∙ by_length f) ∙ marked-in (map f marks) from n s (omega arith) (omega arith) low high

  pub claimed_fits : (upto : ℕ) → IsSize size → n ≤ size → upto - from ≡ n → from ≤ upto → upto ≤ 2 ^ 62 → OwnedFits marks' size from from upto
  claimed_fits upto made few at order small = let pos = size_positive size made in record {
    count = as_many_set;
    made = made;
    order = (omega arith, order, small);
    round = omega arith;
    claimed = λ s low high. marked claimed_by (is claimed_by) pos few s low (omega arith);
    written = λ s low high. marked written_by (is written_by) pos few s low (omega arith);
    published = λ s low high. marked published_by (is published_by) pos few s low (omega arith);
  }

  -- they are published, and might be
  pub shown_is : ((s : ℕ) → from ≤ s → s < from + n → is_ready (plain marks) s ≡ true)
      → plain marks' ≡ after_publication (plain marks) from n
  shown_is could = let o = plain marks in (λ i. record {
    claimed = (is claimed_by ∙ by_length claimed_by
        ∙ stamped_same o.claimed from n (λ j lt. open_claimed o (from + j) (ready_open o (from + j) (could (from + j) (omega arith) (omega arith))))) i;
    written = (is written_by ∙ by_length written_by
        ∙ stamped_same o.written from n (λ j lt. ready_written o (from + j) (could (from + j) (omega arith) (omega arith)))) i;
    published = (is published_by ∙ by_length published_by) i;
  })
