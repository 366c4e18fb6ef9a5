use Rattle.std.proofs.Common.{ℕ, List, sym, subst, ◌∙◌}
use denote.RawPtr.{Ptr}
use Rattle.dr_cells.specs.declared.token.Token.{Token}
use Rattle.dr_plain_senders.specs.Inside.Making.{StandFirst}
use Rattle.dr_plain_senders.proofs.FreshSeats.{ruled_new}
use Rattle.dr_plain_senders.proofs.Plans.{is_shape}
use Rattle.dr_plain_senders.proofs.Untouched.{stand_first}
use Rattle.dr_plain_senders.proofs.opening.ends.Goals as goal

pub new-requires : goal.new-requires
new-requires g c = ruled_new _ _ _ (c.as_slice.ensures.value ∙ c.requires.rooms.words) c.requires.tokens (is_shape _ c.requires.made)

pub give_up-requires : goal.give_up-requires
give_up-requires g c =
    let first = stand_first c.args.plan c.args.tokens.items c.requires.tokens in
    subst (λ (ts : List (Token g.row.T.Denot)). StandFirst c.args.strip.cells.ptr c.args.strip.len ts) (sym c.in-Err.ensures.err)
    (subst (λ (x : Ptr × ℕ). StandFirst x.0 x.1 c.args.tokens.items) (λ i. (c.requires.strip.0 i, c.requires.strip.1 i)) first)
