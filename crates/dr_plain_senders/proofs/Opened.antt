-- The rows of a sender's open sequences.
use Rattle.std.proofs.Common.{◌≡◌, ℕ, zero, suc, ◌+◌, ◌-◌, ◌*◌, ◌<◌, ◌≤◌, inl, inr, Bool, true, false, if◌then◌else◌, [], ◌++◌, length, sym, refl, ap}
use Rattle.std.proofs.Common.{◌∙◌, arith, append_assoc}
use Rattle.std.proofs.lemmas.Bool.{cases_Bool}
use Rattle.std.proofs.lemmas.List.{append-nil, length-append}
use Rattle.std.proofs.Math.Nat.{mul-suc}
use Rattle.dr_plain_senders.specs.Meaning.Shape.{Shape}
use Rattle.dr_plain_senders.specs.Meaning.Words.{lanes_of}
use Rattle.dr_plain_senders.specs.Inside.Fits.{open_rows, open_count}
use Rattle.dr_plain_senders.specs.Inside.Rows.{blank_row, blank_rows}
use Rattle.dr_plain_senders.specs.Inside.Seats.{Hand}
use Rattle.dr_plain_senders.proofs.Rowing.{blank_row_count}

module _ {T : Type 0} (k : Shape T) where
  -- one row and what comes after it
  next_rows : Bool → ℕ → Hand T → Hand T
  next_rows b s hand = if b then blank_row k s ++ hand else hand

  next_both : (b : Bool) (s : ℕ) (one two : Hand T) → next_rows b s (one ++ two) ≡ next_rows b s one ++ two
  unfolding next_rows
  next_both true s one two = sym (append_assoc (blank_row k s) one two)
  next_both false s one two = refl

  pub open_both : (is : ℕ → Bool) (s n m : ℕ) → open_rows {T = T} k is s (n + m) ≡ open_rows k is s n ++ open_rows k is (s + n) m
  unfolding next_rows
  open_both is s zero m = let e : s ≡ s + 0 = omega arith in let z : zero + m ≡ m = omega arith in
      ap (λ (q : ℕ). open_rows k is s q) z ∙ ap (λ (q : ℕ). open_rows k is q m) e
  open_both is s (suc n) m = let e : s + 1 + n ≡ s + suc n = omega arith in let z : suc n + m ≡ suc (n + m) = omega arith in
      ap (λ (q : ℕ). open_rows k is s q) z
      ∙ ap (λ (h : Hand T). next_rows (is s) s h) (open_both is (s + 1) n m ∙ ap (λ (q : ℕ). open_rows k is (s + 1) n ++ open_rows k is q m) e)
      ∙ next_both (is s) s (open_rows k is (s + 1) n) (open_rows k is (s + suc n) m)

  pub open_none : (is : ℕ → Bool) (s n : ℕ) → ((q : ℕ) → s ≤ q → q < s + n → is q ≡ false) → open_rows {T = T} k is s n ≡ []
  unfolding next_rows
  open_none is s zero none = refl
  open_none is s (suc n) none =
      ap (λ (b : Bool). next_rows b s (open_rows k is (s + 1) n)) (none s (omega arith) (omega arith))
      ∙ open_none is (s + 1) n (λ q low lt. none q (omega arith) (omega arith))

  pub open_all : (is : ℕ → Bool) (s n : ℕ) → ((q : ℕ) → s ≤ q → q < s + n → is q ≡ true) → open_rows {T = T} k is s n ≡ blank_rows k s n
  unfolding next_rows
  open_all is s zero all = refl
  open_all is s (suc n) all =
      ap (λ (b : Bool). next_rows b s (open_rows k is (s + 1) n)) (all s (omega arith) (omega arith))
      ∙ ap (λ (h : Hand T). blank_row k s ++ h) (open_all is (s + 1) n (λ q low lt. all q (omega arith) (omega arith)))

  pub open_same : (is js : ℕ → Bool) (s n : ℕ) → ((q : ℕ) → s ≤ q → q < s + n → is q ≡ js q) → open_rows {T = T} k is s n ≡ open_rows k js s n
  unfolding next_rows
  open_same is js s zero same = refl
  open_same is js s (suc n) same =
      (λ i. next_rows (same s (omega arith) (omega arith) i) s (open_same is js (s + 1) n (λ q low lt. same q (omega arith) (omega arith)) i))

  -- a stretch that comes later is open besides, and all between is not
  pub open_later : (is js : ℕ → Bool) (end lo n : ℕ) → end ≤ lo → ((q : ℕ) → q < end → is q ≡ js q) → ((q : ℕ) → end ≤ q → q < lo → js q ≡ false)
      → ((q : ℕ) → lo ≤ q → q < lo + n → js q ≡ true) → open_rows {T = T} k is 0 end ++ blank_rows k lo n ≡ open_rows k js 0 (lo + n)
  open_later is js end lo n le same none all =
      let f : end + (lo - end) ≡ lo = omega arith in
      let first : open_rows {T = T} k js 0 lo ≡ open_rows k is 0 end =
      ap (λ (q : ℕ). open_rows {T = T} k js 0 q) (sym f) ∙ open_both js 0 end (lo - end)
      ∙ (λ i. open_same js is 0 end (λ q low lt. sym (same q (omega arith))) i
      ++ open_none js (0 + end) (lo - end) (λ q low lt. none q (omega arith) (omega arith)) i)
      ∙ append-nil (open_rows k is 0 end) in
      let z : 0 + lo ≡ lo = omega arith in
      sym (open_both js 0 lo n ∙ (λ i. first i ++ open_all js (0 + lo) n (λ q low lt. all q (omega arith) (omega arith)) i)
      ∙ ap (λ (q : ℕ). open_rows k is 0 end ++ blank_rows k q n) z)

  -- the rows before a sequence and behind it, where nothing is open below a first one
  pub open_around : (js : ℕ → Bool) (low s end : ℕ) → low ≤ s → s < end → ((q : ℕ) → q < low → js q ≡ false)
      → open_rows {T = T} k js 0 end
      ≡ open_rows k js low (s - low) ++ (if js s then blank_row k s ++ open_rows k js (s + 1) (end - (s + 1)) else open_rows k js (s + 1) (end - (s + 1)))
  open_around js low s end le lt none =
      let left = end - (s + 1) in let all : end ≡ low + ((s - low) + suc left) = omega arith in
      let z : 0 + low ≡ low = omega arith in let at : low + (s - low) ≡ s = omega arith in
      ap (λ (n : ℕ). open_rows {T = T} k js 0 n) all ∙ open_both js 0 low ((s - low) + suc left)
      ∙ ap (λ (h : Hand T). h ++ open_rows k js (0 + low) ((s - low) + suc left)) (open_none js 0 low (λ q a b. none q (omega arith)))
      ∙ ap (λ (q : ℕ). open_rows {T = T} k js q ((s - low) + suc left)) z ∙ open_both js low (s - low) (suc left)
      ∙ ap (λ (q : ℕ). open_rows {T = T} k js low (s - low) ++ open_rows k js q (suc left)) at

-- the loop that counts them
pub count_next : (is : ℕ → Bool) (s upto count : ℕ) (opened : Bool) (one : ℕ) → s < upto → opened ≡ is s → one ≡ (if opened then 1 else 0)
    → count + one + open_count is (s + 1) (upto - (s + 1)) ≡ count + open_count is s (upto - s)
count_next is s upto count opened one lt same here =
    let e : upto - s ≡ suc (upto - (s + 1)) = omega arith in
    let all : open_count is s (upto - s) ≡ (if is s then 1 else 0) + open_count is (s + 1) (upto - (s + 1)) = ap (λ (n : ℕ). open_count is s n) e in
    let now : one ≡ (if is s then 1 else 0) = here ∙ ap (λ (b : Bool). if b then 1 else 0) same in omega arith

pub count_end : (is : ℕ → Bool) (s upto count : ℕ) → s ≡ upto → count ≡ count + open_count is s (upto - s)
count_end is s upto count end =
    let none : upto - s ≡ 0 = omega arith in let z : open_count is s (upto - s) ≡ 0 = ap (λ (n : ℕ). open_count is s n) none in omega arith

-- each has a row
pub open_slots : (T : Type 0) (k : Shape T) (is : ℕ → Bool) (s n : ℕ) → length (open_rows {T = T} k is s n) ≡ lanes_of k * open_count is s n
open_slots T k is s zero = omega arith
open_slots T k is s (suc n) =
    let row : Hand T = blank_row k s in
    let left : Hand T = open_rows k is (s + 1) n in
    let count = open_count is (s + 1) n in
    let more = open_slots T k is (s + 1) n in
    elim (cases_Bool (is s)) [
      | inl opened ↦ (let one : suc count ≡ 1 + count = omega arith in
          let longer : length (row ++ left) ≡ lanes_of k * suc count =
          omega (arith, length-append row left, blank_row_count T k s, mul-suc (lanes_of k) count) in
          ap (λ (b : Bool). length (if b then row ++ left else left)) opened ∙ longer ∙ ap (λ (m : ℕ). lanes_of k * m) one
          ∙ ap (λ (b : Bool). lanes_of k * ((if b then 1 else 0) + count)) (sym opened))
      | inr closed ↦ (let none : count ≡ 0 + count = omega arith in
          ap (λ (b : Bool). length (if b then row ++ left else left)) closed ∙ more ∙ ap (λ (m : ℕ). lanes_of k * m) none
          ∙ ap (λ (b : Bool). lanes_of k * ((if b then 1 else 0) + count)) (sym closed))
    ]
