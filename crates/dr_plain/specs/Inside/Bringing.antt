-- What the ends bring to its place, once they come together.
use Rattle.std.specs.Prelude.{◌≡◌, ℕ, ◌+◌, ◌≤◌, List, map, length}
use mathlib.Core.Option.{some}
use lib.ListN.{get_elem?}
use Rattle.dr_cells.specs.declared.token.Token.{Token}
use Rattle.dr_runs.specs.declared.counts.HandlerCounts.{HandlerCounts}
use Rattle.dr_plain.specs.Meaning.Records.{claimed}
use Rattle.dr_plain.specs.Calls.Ends.{SenderEnd, ReceiverEnd}
use Rattle.dr_plain.specs.Calls.Settling.{handler_counts}
use Rattle.dr_plain.specs.Inside.Fits.{PartsFit, TokensFit}

module _ {T : Type 0} where
  -- these are the receivers' tokens
  pub record AreHandsOf (es : List (ReceiverEnd T)) (hands : List (List (Token T))) : Type 0 where
    pub count : length hands ≡ length es
    pub each : (h : ℕ) (e : ReceiverEnd T) (parts : List (Token T)) → get_elem? es h ≡ some e → get_elem? hands h ≡ some parts → PartsFit e.knows parts

  -- what the ends keep, once their seats are together: the sender's numbers and tokens, and the receivers' counts and tokens
  pub record EndsKeep (s : SenderEnd T) (es : List (ReceiverEnd T)) (claimed_to published_to : ℕ) (tokens : List (Token T)) (counts : List HandlerCounts) (hands : List (List (Token T))) : Type 0 where
    pub next : claimed_to ≡ claimed s.knows
    pub front : published_to ≡ length s.knows.published
    pub near : claimed_to ≤ s.knows.plan.size + published_to
    pub tokens_fit : TokensFit s.knows tokens
    pub counted : counts ≡ map (λ (e : ReceiverEnd T). handler_counts e.knows) es
    pub handed : AreHandsOf es hands
