-- A history that goes on.
use Rattle.std.proofs.Common.{◌≡◌, ◌+◌, ◌*◌, ◌^◌, ◌<◌, ◌≤◌, ℕ, List, [], ◌∷◌, ◌++◌, drop, length, refl, sym, ap, ◌∙◌, arith, append_assoc, inl, inr, length-append}
use Rattle.std.specs.Prelude.{sum_by}
use Rattle.std.proofs.lemmas.List.{append-nil}
use Rattle.std.proofs.lemmas.Bool.{cases_lt}
use Rattle.std.proofs.Math.Seq.{drop-append_seam}
use Rattle.dr_meaning.specs.declared.command.Command.{Command}
use Rattle.dr_meaning.specs.declared.command.Reply.{Reply}
use Rattle.dr_lock.specs.Meaning.History.{GoesOn, History, entries_since, halts_in}
use Rattle.dr_lock.specs.Calls.Lock.{IsAnswer}
use Rattle.dr_lock.specs.Inside.Weights.{most_calls, weight, weight_since}

-- a list that begins so has the rest after it
begins : {A : Type 0} (xs ys zs : List A) → xs ≡ ys ++ zs → xs ≡ ys ++ drop (length ys) xs
begins xs ys zs is = is ∙ ap (λ l. ys ++ l) (sym (drop-append_seam ys zs) ∙ ap (λ l. drop (length ys) l) (sym is))

pub goes_nowhere : {E : Type 0} (k : History E) → GoesOn k k
goes_nowhere k = record {
  setup = refl;
  names = refl;
  entries = begins k.entries k.entries [] (sym (append-nil k.entries));
  values = begins k.values k.values [] (sym (append-nil k.values));
}

-- what goes on from a history that goes on
longer : {A : Type 0} (xs ys zs : List A) → ys ≡ xs ++ drop (length xs) ys → zs ≡ ys ++ drop (length ys) zs → zs ≡ xs ++ drop (length xs) zs
longer xs ys zs h k = begins zs xs (drop (length xs) ys ++ drop (length ys) zs) (k ∙ ap (λ l. l ++ drop (length ys) zs) h ∙ append_assoc xs (drop (length xs) ys) (drop (length ys) zs))

pub goes_further : {E : Type 0} (b k l : History E) → GoesOn b k → GoesOn k l → GoesOn b l
goes_further b k l h m = record {
  setup = m.setup ∙ h.setup;
  names = m.names ∙ h.names;
  entries = longer b.entries k.entries l.entries h.entries m.entries;
  values = longer b.values k.values l.values h.values m.values;
}

pub answered_since : {E : Type 0} (b k : History E) (command : Command E) (reply : Reply) (values : List E) → GoesOn b k → IsAnswer k command reply values → IsAnswer b command reply values
answered_since b k command reply values h is =
    record { before = is.before; goes_on = goes_further b k is.before h is.goes_on; recorded = is.recorded; replies = is.replies; gives = is.gives }

-- a weight tells both counts
pub weighed : (calls halts n m : ℕ) → calls < 2 ^ 64 → n < 2 ^ 64 → weight calls halts ≡ weight n m → (n ≡ calls) × (m ≡ halts)
weighed calls halts n m small small' same =
    elim (cases_lt halts m) [
      | inl less ↦ absurd (omega arith)
      | inr not ↦ elim (cases_lt m halts) [ inl less ↦ absurd (omega arith) | inr not' ↦ (omega arith, omega arith) ]
    ]

-- a history's length is that of its beginning and of what came since
pub length_since : {E : Type 0} (b k : History E) → GoesOn b k → length k.entries ≡ length b.entries + length (entries_since b k)
length_since b k h = ap length h.entries ∙ length-append b.entries (entries_since b k)

pub tells_both : {E : Type 0} (b k : History E) (calls halts : ℕ) → GoesOn b k → length k.entries < 2 ^ 64 → calls < 2 ^ 64 → weight calls halts ≡ weight_since b k
    → (length (entries_since b k) ≡ calls) × (halts_in (entries_since b k) ≡ halts)
tells_both b k calls halts h fits small same =
    let long = length_since b k h in
    weighed calls halts (length (entries_since b k)) (halts_in (entries_since b k)) small (omega arith) same

pub sum_none : {A : Type 0} (f : A → ℕ) (xs : List A) → length xs ≡ 0 → sum_by f xs ≡ 0
sum_none f [] none = refl
sum_none f (x ∷ xs) none = absurd (omega arith)

-- all ends are back: their parts are the whole, and their calls weigh less than a halt
pub record AreBack (parts given had calls halts amount total : ℕ) : Type 0 where
  pub all : parts + given ≡ 65 + had
  pub few : parts ≤ 65
  pub most : given ≤ 64
  pub enough : given ≤ had
  pub weighs : amount ≡ weight calls halts
  pub small : calls ≤ most_calls * had
  pub whole : parts ≡ 65 → amount ≡ total

pub all_back : (parts given had calls halts amount total : ℕ) → AreBack parts given had calls halts amount total → (calls < 2 ^ 64) × (weight calls halts ≡ total)
all_back parts given had calls halts amount total h =
    let all = h.all in
    let few = h.few in
    let most = h.most in
    let enough = h.enough in
    let small = h.small in
    (omega arith, sym h.weighs ∙ h.whole (omega arith))
