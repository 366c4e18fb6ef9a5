-- What a publication of many sequences does: what one after another would.
use Rattle.std.proofs.Common.{◌≡◌, ◌≢◌, ℕ, suc, ◌+◌, ◌<◌, ◌≤◌, Bool, if◌then◌else◌, List, [], ◌∷◌, ◌++◌, length, set, None, sym, refl, ap, ◌∙◌, subst}
use Rattle.std.proofs.Common.{arith, get_or-set_same}
use Rattle.std.proofs.lemmas.Bool.{ne_eqb}
use Rattle.std.proofs.lemmas.List.{append-nil}
use mathlib.Core.Option.{some}
use mathlib.Core.Option as maybe
use lib.ListN.{get_elem?}
use Rattle.atomic_table.proofs.Lists.{set_here}
use Rattle.dr_cells.specs.declared.token.Token.{Token}
use Rattle.dr_runs.proofs.Elements.{at_below, word_at}
use Rattle.dr_runs.proofs.Lists.{map_there}
use Rattle.dr_runs.proofs.Stretches.{filled}
use Rattle.dr_lent.proofs.Lists.{set_twice}
use Rattle.dr_lent.specs.declared.lent.Lent.{Lent}
use Rattle.dr_plain_senders.specs.Meaning.Shape.{Shape}
use Rattle.dr_plain_senders.specs.Meaning.Words.{mark_word, mark_bit, in_word, flipped}
use Rattle.dr_plain_senders.specs.declared.record.Stage.{Stage}
use Rattle.dr_plain_senders.specs.declared.record.Own.{Own}
use Rattle.dr_plain_senders.specs.declared.record.SenderRecord.{SenderRecord}
use Rattle.dr_plain_senders.specs.Meaning.Records.{Owns, published, own_after, brought, has_published}
use Rattle.dr_lent.specs.Events.{events_of}
use Rattle.dr_plain_senders.specs.Meaning.Rule.{World, KeepsRule}
use Rattle.dr_plain_senders.specs.Meaning.Lying.{lent, Lies}
use Rattle.dr_plain_senders.specs.Meaning.Steps.{PublishesAll, sender_publishes}
use Rattle.dr_plain_senders.specs.Inside.Rows.{row}
use Rattle.dr_plain_senders.specs.Inside.Seats.{Hand, given_by_publication}
use Rattle.dr_plain_senders.proofs.Facts.{near_open, owned}
use Rattle.dr_plain_senders.proofs.Bits.{mark_inside, same_word, next_bit, left_in_word, flip_more}
use Rattle.dr_plain_senders.proofs.KeepsPublishes.{keeps_publishes}
use Rattle.dr_plain_senders.proofs.Moving.{publishes_give}

-- the words, once the first mark and then all others in the word are flipped
words_more : {T : Type 0} (k : Shape T) (words : List ℕ) (s n : ℕ) → mark_word k s < length words → 1 < in_word k s
    → (let one : List ℕ = set words (mark_word k s) (flipped (word_at words (mark_word k s)) (mark_bit k s) 1) in
    set one (mark_word k (s + 1)) (flipped (word_at one (mark_word k (s + 1))) (mark_bit k (s + 1)) n))
    ≡ set words (mark_word k s) (flipped (word_at words (mark_word k s)) (mark_bit k s) (suc n))
words_more k words s n wide more =
    let i = mark_word k s in let b = mark_bit k s in let v = flipped (word_at words i) b 1 in let one : List ℕ = set words i v in
    (λ j. set one (same_word k s 1 more j) (flipped (word_at one (same_word k s 1 more j)) (next_bit k s 1 more j) n))
    ∙ ap (λ (x : ℕ). set one i (flipped x (b + 1) n)) (get_or-set_same words i v 0 wide)
    ∙ set_twice words i v (flipped v (b + 1) n) ∙ ap (set words i) (flip_more (word_at words i) b n)

module _ {T : Type 0} where
  -- so many of a sender's sequences from s on are not published
  abbrev pub MayPublish : SenderRecord T → ℕ → ℕ → Type 0
  MayPublish r s n = (i : ℕ) → i < n → (t : Stage T) × Owns r (s + i) t × (t.lent ≡ None)

  -- a sequence stays its sender's own, as far as it has come, where another comes further
  pub owns_else : (r : SenderRecord T) (s z : ℕ) (t : Stage T) (further : Stage T → Stage T) → z ≢ s → Owns r z t → Owns (brought r s further) z t
  owns_else r s z t further ne own = (
    own.0,
    map_there (own_after s further) r.own own.0 (record { sequence = z; stage = t }) own.1
        ∙ ap (λ (b : Bool). let o : Own T = record { sequence = z; stage = t } in some (if b then record o { stage = further t } else o)) (ne_eqb z s ne),
  )

  may_rest : (r : SenderRecord T) (s n : ℕ) (l : Lent T) → MayPublish r s (suc n) → MayPublish (brought r s (published l)) (s + 1) n
  may_rest r s n l may i lt =
      let x = may (suc i) (omega arith) in let at : s + suc i ≡ s + 1 + i = omega arith in
      (x.0, owns_else r s (s + 1 + i) x.0 (published l) (λ (e : s + 1 + i ≡ s). omega arith) (subst (λ (q : ℕ). Owns r q x.0) at x.1), x.2)

  filled_both : (homes : List (maybe.Option (Token T))) (xs ys : Hand T) → filled homes (xs ++ ys) ≡ filled (filled homes xs) ys
  filled_both homes [] ys = refl
  filled_both homes (x ∷ xs) ys = filled_both (set homes x.0 (some x.1)) xs ys

  joined : (k : Shape T) (s : ℕ) (l : Lent T) (ls : List (Lent T))
      → given_by_publication k s (l ∷ []) ++ given_by_publication k (s + 1) ls ≡ given_by_publication k s (l ∷ ls)
  joined k s l ls = ap (λ (h : Hand T). h ++ given_by_publication k (s + 1) ls) (append-nil (row k s (lent l)))

  -- the rows of the first, and then of all others, are those of all
  filled_rows : (k : Shape T) (s : ℕ) (l : Lent T) (ls : List (Lent T)) (homes : List (maybe.Option (Token T)))
      → filled (filled homes (given_by_publication k s (l ∷ []))) (given_by_publication k (s + 1) ls) ≡ filled homes (given_by_publication k s (l ∷ ls))
  filled_rows k s l ls homes =
      let first : Hand T = given_by_publication k s (l ∷ []) in let rest : Hand T = given_by_publication k (s + 1) ls in
      sym (filled_both homes first rest) ∙ ap (filled homes) (joined k s l ls)

  -- once some are published, in a world that one after another leads to
  pub record PublishesMany (k : Shape T) (w : World T) (r : SenderRecord T) (s : ℕ)
      (lents : List (Lent T)) (homes : List (maybe.Option (Token T))) : Type 0 where
    pub after : World T
    pub happens : PublishesAll k r.number s (events_of lents) w after
    pub words : after.words ≡ set w.words (mark_word k s) (flipped (word_at w.words (mark_word k s)) (mark_bit k s) (length lents))
    pub senders : after.senders ≡ set w.senders r.number (has_published r s lents)
    pub receivers : after.receivers ≡ w.receivers
    pub halter : after.halter ≡ w.halter
    pub lies : Lies k after (filled homes (given_by_publication k s lents))

  pub publishes_many : (k : Shape T) (w : World T) (r : SenderRecord T) (s : ℕ) (lents : List (Lent T)) (homes : List (maybe.Option (Token T)))
      → get_elem? w.senders r.number ≡ some r
      → 0 < length lents → length lents ≤ in_word k s → MayPublish r s (length lents) → KeepsRule k w → Lies k w homes → PublishesMany k w r s lents homes
  publishes_many k w r s [] homes at some_one few may K lies = absurd (omega arith)
  publishes_many k w r s (l ∷ []) homes at some_one few may K lies =
      let x = may 0 (omega arith) in let z : s + 0 ≡ s = omega arith in let t = x.0 in let own : Owns r s t = subst (λ (q : ℕ). Owns r q t) z x.1 in
      let here = (owned k w r.number r s own.0 t at own.1 K).1 in let near = near_open k w s t here x.2 K in record {
        after = sender_publishes k w r.number r s t l;
        happens = (sender_publishes k w r.number r s t l, (r, at, (t, own, x.2, (l, refl, refl))), refl);
        words = refl;
        senders = refl;
        receivers = refl;
        halter = refl;
        lies = publishes_give k K.shape.some_slot w.receivers w.stages s t l homes lies K.outlets here x.2 near;
      }
  publishes_many k w r s (l ∷ m ∷ ls) homes at some_one few may K lies =
      let x = may 0 (omega arith) in let z : s + 0 ≡ s = omega arith in let t = x.0 in let own : Owns r s t = subst (λ (q : ℕ). Owns r q t) z x.1 in
      let here = (owned k w r.number r s own.0 t at own.1 K).1 in let near = near_open k w s t here x.2 K in let pos = K.shape.some_slot in let wide = K.wide in
      let q = brought r s (published l) in let one = sender_publishes k w r.number r s t l in let more : 1 < in_word k s = omega arith in
      let inside = mark_inside k s pos in let left = left_in_word k s 1 more in
      let rest = publishes_many k one q (s + 1) (m ∷ ls) (filled homes (given_by_publication k s (l ∷ [])))
      (set_here w.senders r.number q (at_below w.senders r.number r at))
      (omega arith) (omega arith) (may_rest r s (length (m ∷ ls)) l may) (keeps_publishes k w r.number s own.0 r t l at own.1 x.2 K)
      (publishes_give k pos w.receivers w.stages s t l homes lies K.outlets here x.2 near) in record {
        after = rest.after;
        happens = (one, (r, at, (t, own, x.2, (l, refl, refl))), rest.happens);
        words = rest.words ∙ words_more k w.words s (length (m ∷ ls)) (omega arith) more;
        senders = rest.senders ∙ set_twice w.senders r.number q (has_published q (s + 1) (m ∷ ls));
        receivers = rest.receivers;
        halter = rest.halter;
        lies = subst (Lies k rest.after) (filled_rows k s l (m ∷ ls) homes) rest.lies;
      }
