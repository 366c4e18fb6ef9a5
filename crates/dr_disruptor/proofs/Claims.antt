-- How what was sent was claimed, one claim after another.
use Rattle.std.proofs.Common.{◌≡◌, ◌≤◌, ◌+◌, ◌-◌, ℕ, min, List, [], ◌∷◌, ◌++◌, length, refl, sym, ap, ◌∙◌, arith, length-append}
use Rattle.std.proofs.Math.Seq.{take-append_seam}
use Rattle.std.proofs.lemmas.List.{take-append-le}
use Rattle.std.specs.Prelude.{take}
use Rattle.dr_meaning.specs.Calls.InPlaceInlets.{Opens, Sending}
use Rattle.dr_workers.specs.Meaning.Work.{AreCut}
use Rattle.dr_meaning.specs.Calls.Calling.{InPlaceInletCall}
use Rattle.dr_disruptor.specs.Sending.{ClaimedAtOnce, ClaimedInCuts, ClaimedInTurn, ClaimsJust, SendsAll}
use Rattle.dr_disruptor.proofs.Called.{just_none, just_on}

-- how many sequences some claims are of
abbrev total : List ℕ → ℕ
total [] = 0
total (n ∷ claims) = n + total claims

cut_more : (cut left : ℕ) (claims : List ℕ) (n : ℕ) → AreCut cut left claims → n ≡ min (left - total claims) cut → AreCut cut left (claims ++ n ∷ [])
cut_more cut left [] n are is = (let e : n ≡ min left cut = omega arith in e, tt)
cut_more cut left (m ∷ claims) n are is = (are.0, cut_more cut (left - m) claims n are.1 (omega arith))

module _ {E I K : Type 0} (kept : I → K) (sending : I → Sending E) where
  -- a claim that was filled and published
  pub claimed_at_once : (n lo : ℕ) (old claimed new : I) (Are : List E → Type 0) → kept claimed ≡ kept old → Opens lo n (sending old) (sending claimed)
      → SendsAll Are n (sending old).published (sending new).published → ClaimedAtOnce kept sending (length (sending old).published) n old new
  claimed_at_once n lo old claimed new Are place opens sent = record {
    claimed = claimed;
    place = place;
    published = ap (λ (x : Sending E). x.published) opens ∙ sym (take-append_seam (sending old).published sent.events)
        ∙ ap (take (length (sending old).published)) (sym sent.published);
    unfilled = ap (λ (x : Sending E). x.pending) opens;
  }

  -- what some claims came to
  turns_end : (at : ℕ) (claims : List ℕ) (old new : I) → ClaimedInTurn kept sending at claims old new → length (sending new).published ≡ at + total claims
  turns_end at [] old new turns = omega arith
  turns_end at (n ∷ claims) old new turns = let rest = turns_end (at + n) claims old new turns.1 in omega arith

  -- one more claim after some
  turns_more : (at : ℕ) (claims : List ℕ) (n : ℕ) (old mid new : I) (more : List E) → kept mid ≡ kept old → length more ≡ n
      → (sending new).published ≡ (sending mid).published ++ more → ClaimedInTurn kept sending at claims old mid
      → ClaimedAtOnce kept sending (length (sending mid).published) n mid new → ClaimedInTurn kept sending at (claims ++ n ∷ []) old new
  turns_more at [] n old mid new more place many published turns last =
      let long : length (sending new).published ≡ length (sending mid).published + length more = ap length published ∙ length-append (sending mid).published more in (
        record {
          claimed = last.claimed;
          place = last.place ∙ place;
          published = last.published ∙ ap (λ (i : ℕ). take i (sending new).published) turns;
          unfilled = last.unfilled;
        },
        omega arith,
      )
  turns_more at (m ∷ claims) n old mid new more place many published turns last =
      let come = turns_end (at + m) claims old mid turns.1 in
      let within : at ≤ length (sending mid).published = omega arith in (
        record {
          claimed = turns.0.claimed;
          place = turns.0.place;
          published = turns.0.published ∙ sym (take-append-le at (sending mid).published more within) ∙ ap (take at) (sym published);
          unfilled = turns.0.unfilled;
        },
        turns_more (at + m) claims n old mid new more place many published turns.1 last,
      )

  -- before the first claim
  pub cuts_none : (does : I → InPlaceInletCall → I → Type 0) (cut n : ℕ) (old : I) → ClaimedInCuts kept sending does cut n old old
  cuts_none does cut n old = record { claims = []; cuts = tt; calls = just_none does old; turns = refl }

  -- one more claim of what is left
  pub cuts_more : (does : I → InPlaceInletCall → I → Type 0) (cut all done n : ℕ) (old mid new : I) (Were Are : List E → Type 0) → kept mid ≡ kept old → n ≡ min (all - done) cut
      → SendsAll Were done (sending old).published (sending mid).published → SendsAll Are n (sending mid).published (sending new).published
      → ClaimedInCuts kept sending does cut all old mid → ClaimedAtOnce kept sending (length (sending mid).published) n mid new → ClaimsJust does (n ∷ []) mid new
      → ClaimedInCuts kept sending does cut all old new
  cuts_more does cut all done n old mid new Were Are place is before sent cuts last just =
      let come = turns_end (length (sending old).published) cuts.claims old mid cuts.turns in
      let many = before.many in
      let long : length (sending mid).published ≡ length (sending old).published + length before.events =
      ap length before.published ∙ length-append (sending old).published before.events in
      let same : total cuts.claims ≡ done = omega arith in
      record {
        claims = cuts.claims ++ n ∷ [];
        cuts = cut_more cut all cuts.claims n cuts.cuts (is ∙ ap (λ (d : ℕ). min (all - d) cut) (sym same));
        calls = just_on does old mid new cuts.claims (n ∷ []) cuts.calls just;
        turns = turns_more (length (sending old).published) cuts.claims n old mid new sent.events place sent.many sent.published cuts.turns last;
      }
