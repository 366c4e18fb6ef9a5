-- The ends of a new ring of bytes.
use Rattle.std.proofs.Common.{◌≡◌, ℕ, true, List, length, map, replicate, ap, sym, subst, ◌∙◌}
use Rattle.std.specs.Prelude.{Some}
use denote.RawPtr.{Ptr}
use Rattle.dr_plain.specs.Meaning.Shape.{Shape}
use Rattle.dr_plain.specs.Calls.Ends.{SenderEnd, ReceiverEnd, HalterEnd}
use Rattle.dr_plain.specs.Calls.Making.{AreFreshEnds}
use Rattle.dr_c.specs.declared.writer.Writer.{Writer}
use Rattle.dr_c.specs.Lengths.{all_have}
use Rattle.dr_c.specs.Opening.{FollowsMasks}
use Rattle.dr_c.specs.OpeningBytes.{AreOpened}
use Rattle.dr_c.proofs.Lengths.{zeros_fit}

-- as many bytes lie in each cell as in each event that the ring began with
pub fresh_fits : (k : Shape) (bytes size : ℕ) (events : List (List ℕ)) (s : SenderEnd (List ℕ)) (rs : List (ReceiverEnd (List ℕ))) (h : HalterEnd (List ℕ))
    → AreFreshEnds k events s rs h → events ≡ replicate size (replicate bytes 0) → all_have bytes s.cells ≡ true
fresh_fits k bytes size events s rs h fresh zeros =
    zeros_fit bytes size s.cells (fresh.cells ∙ ap (λ (es : List (List ℕ)). map (λ (event : List ℕ). Some event) es) zeros)

pub opened_by : (size limit bytes : ℕ) (masks : List ℕ) (graph : List (List ℕ)) (strip : Ptr) (events : List (List ℕ)) (s : SenderEnd (List ℕ)) (w : Writer)
    (rs : List (ReceiverEnd (List ℕ))) (h : HalterEnd (List ℕ)) → length graph ≡ length masks → FollowsMasks graph masks
    → AreFreshEnds (record { upstreams = graph; size = size; limit = limit; strip = strip }) events s rs h → events ≡ replicate size (replicate bytes 0)
    → w.sender ≡ s → w.bytes ≡ bytes → AreOpened size limit bytes masks w rs h
opened_by size limit bytes masks graph strip events s w rs h all follows fresh zeros same many =
    let k : Shape = record { upstreams = graph; size = size; limit = limit; strip = strip } in let its = replicate size (replicate bytes 0) in record {
      graph = graph;
      all = all;
      follows = follows;
      strip = strip;
      many = many;
      fresh = subst (λ (e : SenderEnd (List ℕ)). AreFreshEnds k its e rs h) (sym same) (subst (λ (es : List (List ℕ)). AreFreshEnds k es s rs h) zeros fresh);
    }
