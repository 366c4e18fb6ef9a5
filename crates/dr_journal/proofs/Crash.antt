-- What a crash leaves of a journal at rest, while room is made and while a batch is written.
use Rattle.std.proofs.Common.{◌≡◌, ◌<◌, ◌+◌, ◌-◌, inl, inr, ℕ, List, [], ◌++◌, length, refl, sym, ◌∙◌, ap, subst, arith, append_assoc, length-append}
use Rattle.std.specs.Prelude.{replicate}
use Rattle.std.proofs.lemmas.List.{length-replicate}
use Rattle.dr_journal.specs.Meaning.Disk.{Mixed, Grown, Follows, Only, IsUntouched, written}
use Rattle.dr_journal.specs.Meaning.Format.{header, behind_header, whole_length, whole_batches, records_from, recovered, frame}
use Rattle.dr_journal.specs.Calls.Parts.{device_of, end_of, length_of}
use Rattle.dr_journal.specs.Calls.Journals.{IsAtRest, StandsFor, IsBeforeOrAfter, file_of, records_of}
use Rattle.dr_journal.specs.declared.journal.Journal.{Journal}
use Rattle.dr_journal.proofs.Codes.{IsWhole, is_whole, length-kept}
use Rattle.dr_journal.proofs.Headers.{length-header, lift_written, lift_mixed, stands}
use Rattle.dr_journal.proofs.Batches.{kept_is, grown, extended, is_written, mixed, whole_with_batch, records_with_batch}

module _ {D : Type 0} (seen : D → List ℕ) (may_leave : D → List ℕ → Type 0) where
  -- a header, whole batches and zeros are a journal at rest
  pub rests : (journal : Journal D) (k : List ℕ) (n : ℕ) → IsWhole k → file_of seen journal ≡ header ++ (k ++ replicate n 0) → end_of journal ≡ 8 + length k → length_of journal ≡ 8 + length k + n → 0 < n
      → Only (file_of seen journal) (may_leave (device_of journal)) → IsAtRest seen may_leave journal × (records_of seen journal ≡ records_from [] 0 k)
  rests journal k n whole is ends lasts some only =
      let same : whole_batches (behind_header (file_of seen journal)) ≡ k = ap (λ (l : List ℕ). whole_batches (behind_header l)) is ∙ kept_is k n whole in
      let free : length_of journal - end_of journal ≡ n = omega (arith, ends, lasts) in
      let total : length (file_of seen journal) ≡ 8 + length (k ++ replicate n 0) = ap length is ∙ length-header (k ++ replicate n 0) in (
        record {
          file = is ∙ ap (λ (l : List ℕ). header ++ (l ++ replicate n 0)) (sym same) ∙ ap (λ (m : ℕ). header ++ (whole_batches (behind_header (file_of seen journal)) ++ replicate m 0)) (sym free);
          end = ends ∙ ap (λ (l : List ℕ). 8 + length l) (sym same);
          len = omega (arith, lasts, total, length-append k (replicate n 0), length-replicate {A = ℕ} n 0);
          room = omega (arith, ends, lasts, some);
          durable = only;
        },
        ap (λ (l : List ℕ). records_from [] 0 l) same,
      )

  module _ (journal : Journal D) (rest : IsAtRest seen may_leave journal) where
    abbrev pub body : List ℕ
    body = behind_header (file_of seen journal)

    abbrev pub free : ℕ
    free = length_of journal - end_of journal

    pub some : 0 < free
    some = omega (arith, rest.room)

    pub body_is : body ≡ whole_batches body ++ replicate free 0
    body_is = ap behind_header rest.file

    pub file_is : file_of seen journal ≡ header ++ body
    file_is = rest.file ∙ ap (λ (l : List ℕ). header ++ l) (sym body_is)

    pub ends : end_of journal ≡ 8 + whole_length body
    ends = rest.end ∙ ap (λ (n : ℕ). 8 + n) (length-kept body)

    -- what it leaves now
    pub stays : (c : List ℕ) → may_leave (device_of journal) c → StandsFor (records_of seen journal) c
    stays c left = stands body (records_of seen journal) c (rest.durable c left ∙ file_is) refl

    -- as it was
    pub untouched : (after : Journal D) → IsUntouched (file_of seen journal) (file_of seen after) (may_leave (device_of journal)) (may_leave (device_of after)) → end_of after ≡ end_of journal → length_of after ≡ length_of journal
        → IsAtRest seen may_leave after × (records_of seen after ≡ records_of seen journal)
    untouched after same ends_same lasts_same =
        let whole = ap (λ (l : List ℕ). whole_batches (behind_header l)) same.seen in
        let free_same : free ≡ length_of after - end_of after = omega (arith, ends_same, lasts_same) in (
          record {
            file = same.seen ∙ rest.file
                ∙ ap (λ (l : List ℕ). header ++ (l ++ replicate free 0)) (sym whole)
                ∙ ap (λ (n : ℕ). header ++ (whole_batches (behind_header (file_of seen after)) ++ replicate n 0)) free_same;
            end = ends_same ∙ rest.end ∙ ap (λ (l : List ℕ). 8 + length l) (sym whole);
            len = lasts_same ∙ rest.len ∙ ap length (sym same.seen);
            room = omega (arith, ends_same, lasts_same, rest.room);
            durable = λ c left. rest.durable c (same.left c left) ∙ sym same.seen;
          },
          ap recovered same.seen,
        )

    pub grow_crash : (n : ℕ) (now : List ℕ → Type 0) → Follows (Grown n) (may_leave (device_of journal)) now → (c : List ℕ) → now c → StandsFor (records_of seen journal) c
    grow_crash n now follows c left =
        let from = follows c left in
        let grows = subst (λ f. Grown n f c) (rest.durable from.0 from.1 ∙ file_is) from.2 in
        stands (body ++ grows.0) (records_of seen journal) c grows.2 (grown body free body_is grows.0 some)

    -- more zeros behind it
    pub grown_rests : (n : ℕ) (after : Journal D) → file_of seen after ≡ file_of seen journal ++ replicate n 0 → end_of after ≡ end_of journal → length_of after ≡ length_of journal + n
        → Only (file_of seen after) (may_leave (device_of after)) → IsAtRest seen may_leave after × (records_of seen after ≡ records_of seen journal)
    grown_rests n after is ends_same lasts only =
        rests after (whole_batches body) (free + n) (is_whole body)
        (is ∙ ap (λ (l : List ℕ). l ++ replicate n 0) file_is ∙ ap (λ (l : List ℕ). header ++ l) (extended body free body_is n))
        (ends_same ∙ rest.end) (omega (arith, lasts, rest.end, rest.room)) (omega (arith, some)) only

    module _ (batch : List (List ℕ)) (bytes : List ℕ) (is : bytes ≡ frame batch) (room : end_of journal + length bytes < length_of journal) where
      abbrev spare : ℕ
      spare = free - length (frame batch)

      fits : free ≡ length (frame batch) + spare
      fits = omega (arith, room, ap length is)

      pub write_crash : (now : List ℕ → Type 0) → Follows (Mixed (end_of journal) bytes) (may_leave (device_of journal)) now → (c : List ℕ) → now c → IsBeforeOrAfter (records_of seen journal) batch c
      write_crash now follows c left =
          let from = follows c left in
          let mix = subst (λ f. Mixed (end_of journal) bytes f c) (rest.durable from.0 from.1 ∙ file_is) from.2 in
          let m = lift_mixed (end_of journal) (whole_length body) bytes body c ends mix in
          elim (mixed body free body_is batch spare fits m.0 (subst (λ b. Mixed (whole_length body) b body m.0) is m.2)) [
            | inl old ↦ inl (stands m.0 (records_of seen journal) c m.1 old)
            | inr new ↦ inr (stands m.0 (records_of seen journal ++ batch) c m.1 new)
          ]

      -- the batch behind the others
      pub written_rests : (after : Journal D) → file_of seen after ≡ written (end_of journal) bytes (file_of seen journal) → end_of after ≡ end_of journal + length bytes → length_of after ≡ length_of journal
          → Only (file_of seen after) (may_leave (device_of after)) → IsAtRest seen may_leave after × (records_of seen after ≡ records_of seen journal ++ batch)
      written_rests after wrote ends_after lasts_same only =
          let size = length-append (whole_batches body) (frame batch) in
          let size_of = ap length is in
          let over = ap (λ (f : List ℕ). written (end_of journal) bytes f) file_is ∙ lift_written (end_of journal) (whole_length body) bytes body ends in
          let is_over = ap (λ (b : List ℕ). header ++ written (whole_length body) b body) is ∙ ap (λ (l : List ℕ). header ++ l) (is_written body free body_is batch spare fits ∙ sym (append_assoc (whole_batches body) (frame batch) (replicate spare 0))) in
          let all = rests after (whole_batches body ++ frame batch) spare (whole_with_batch body free body_is batch spare fits) (wrote ∙ over ∙ is_over)
          (omega (arith, ends_after, rest.end, size, size_of)) (omega (arith, lasts_same, room, rest.end, rest.room, size, size_of, fits)) (omega (arith, room, size_of)) only in
          (all.0, all.1 ∙ records_with_batch body free body_is batch spare fits)
