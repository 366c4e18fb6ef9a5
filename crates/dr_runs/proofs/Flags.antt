-- What stores leave of a ring's words of halt and close.
use Rattle.std.proofs.Common.{◌≡◌, ◌≢◌, ℕ, ◌<◌, ◌≤◌, ◌⊎◌, inl, Bool, true, ◌==◌, ◌&&◌, List, length, set}
use Rattle.std.proofs.Common.{sym, refl, ◌∙◌, arith, get_or-set_same, get_or-set_other}
use Rattle.std.proofs.lemmas.Bool.{and_parts, eqb-true}
use Rattle.dr_runs.specs.OneSender.Words.{cursor_word, closed_word, halt_word, HaltAndClose}
use Rattle.dr_runs.specs.declared.look.Look.{Look}
use Rattle.dr_runs.specs.Looks.{last_look, ArePast}
use Rattle.dr_runs.proofs.Looks.{last_look_le}
use Rattle.dr_runs.proofs.Elements.{word_at}

pub flags_stay : (words us : List ℕ) (n : ℕ) (a b c : Bool) → word_at us halt_word ≡ word_at words halt_word
    → word_at us closed_word ≡ word_at words closed_word → HaltAndClose words n a b c → HaltAndClose us n a b c
flags_stay words us n a b c halt close F = record {
  halt = let f = F.halt in omega arith;
  close = let f = F.close in omega arith;
  by_sender = λ y. halt ∙ F.by_sender y;
  by_halter = λ y. halt ∙ F.by_halter y;
  closed = λ y. close ∙ F.closed y;
  known_halt = λ y. F.known_halt (sym halt ∙ y);
  known_close = λ y. F.known_close (sym close ∙ y);
  complete = λ y. let d = F.complete (sym close ∙ y) in (halt ∙ d.0, d.1);
}

-- where the ring is not closed, nothing is said of what is open
pub flags_open : (words : List ℕ) (n m : ℕ) (a b c : Bool) → word_at words closed_word ≢ 1 → HaltAndClose words n a b c → HaltAndClose words m a b c
flags_open words n m a b c going F = record {
  halt = F.halt;
  close = F.close;
  by_sender = F.by_sender;
  by_halter = F.by_halter;
  closed = F.closed;
  known_halt = F.known_halt;
  known_close = F.known_close;
  complete = λ y. absurd (going y);
}

-- once halt is stored
pub halts_flags : (words : List ℕ) (n : ℕ) (a b c a' c' : Bool) → halt_word < length words → (a' ≡ true) ⊎ (c' ≡ true) → HaltAndClose words n a b c
    → HaltAndClose (set words halt_word 1) n a' b c'
halts_flags words n a b c a' c' inside who F =
    let here : word_at (set words halt_word 1) halt_word ≡ 1 = get_or-set_same words halt_word 1 0 inside in
    let other : word_at (set words halt_word 1) closed_word ≡ word_at words closed_word =
    get_or-set_other words halt_word closed_word 1 0 (λ (e : closed_word ≡ halt_word). omega arith) in record {
      halt = omega arith;
      close = let f = F.close in omega arith;
      by_sender = λ y. here;
      by_halter = λ y. here;
      closed = λ y. other ∙ F.closed y;
      known_halt = λ y. who;
      known_close = λ y. F.known_close (sym other ∙ y);
      complete = λ y. (here, (F.complete (sym other ∙ y)).1);
    }

-- once closed is stored by a sender that halted, with nothing open
pub closes_flags : (words : List ℕ) (n : ℕ) (a b c : Bool) → closed_word < length words → a ≡ true → n ≡ 0 → HaltAndClose words n a b c
    → HaltAndClose (set words closed_word 1) n a true c
closes_flags words n a b c inside halted all F =
    let here : word_at (set words closed_word 1) closed_word ≡ 1 = get_or-set_same words closed_word 1 0 inside in
    let other : word_at (set words closed_word 1) halt_word ≡ word_at words halt_word =
    get_or-set_other words closed_word halt_word 1 0 (λ (e : halt_word ≡ closed_word). omega arith) in
    let halt : word_at (set words closed_word 1) halt_word ≡ 1 = other ∙ F.by_sender halted in record {
      halt = omega arith;
      close = omega arith;
      by_sender = λ y. halt;
      by_halter = λ y. halt;
      closed = λ y. here;
      known_halt = λ y. inl halted;
      known_close = λ y. refl;
      complete = λ y. (halt, all);
    }

-- who saw the ring closed, and finds no more published than it took, saw the truth: it is closed, and all is taken
pub drained_truth : (rising : ℕ) (words : List ℕ) (looks : List Look) (taken : ℕ)
    → ((last_look 0 looks closed_word == 1) && (word_at words cursor_word == taken)) ≡ true → word_at words closed_word ≤ 1 → ArePast rising words looks
    → (word_at words closed_word ≡ 1) × (word_at words cursor_word ≡ taken)
drained_truth rising words looks taken tells flag past =
    let both : ((last_look 0 looks closed_word == 1) ≡ true) × ((word_at words cursor_word == taken) ≡ true) = and_parts _ _ tells in
    let a : last_look 0 looks closed_word ≡ 1 = eqb-true _ _ both.0 in
    let seen = last_look_le rising words 0 looks closed_word (omega arith) past in (omega arith, eqb-true _ _ both.1)
