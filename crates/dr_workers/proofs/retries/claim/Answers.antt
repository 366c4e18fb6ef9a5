use Rattle.std.proofs.Common.{◌≡◌, ◌+◌, ◌∙◌, ap, inl, inr, refl, rules, subst, Err, Ok}
use Rattle.dr_meaning.specs.declared.ends.Trouble.TheVariants.{Refused}
use Rattle.dr_meaning.specs.declared.refusal.Refusal.TheVariants.{NoRoom}
use Rattle.dr_meaning.specs.Calls.Calling.{TriesClaim}
use Rattle.dr_workers.specs.Calls.Waits.{Provides}
use Rattle.dr_workers.proofs.Biding.{with_room}
use Rattle.dr_workers.proofs.Calling.{retried, retry_more}
use Rattle.dr_workers.proofs.Showing.{shown_same}
use Rattle.dr_workers.proofs.retries.claim.Goals as goal

pub loop-preserved : goal.loop-preserved
loop-preserved g c =
    let none = c.in-Err-Refused-NoRoom in
    let is : c.try_claim.result ≡ Err (Refused NoRoom) = none.is ∙ ap (λ t. Err t) (none.field-0-is ∙ ap (λ r. Refused r) none.field-0-0-is) in
    let a = with_room c.args.inlet.now c.args.patience.now c.args.room.now in
    let b = with_room c.loop.inlet c.loop.patience c.loop.room in
    let d = with_room c.try_claim.new.self c.wait_for_room.new.patience c.wait_for_room.new.room in
    let call : Provides g.I.Inlet.does g.P.Patience.waits g.P.Patience.finds b (TriesClaim c.args.n (Err (Refused NoRoom))) d = (
      subst (λ r. g.I.Inlet.does c.loop.inlet (TriesClaim c.args.n r) c.try_claim.new.self) is c.try_claim.ensures.called,
      inl (refl, c.wait_for_room.ensures.none, c.wait_for_room.ensures.waits),
    ) in (
      tt,
      tt,
      c.try_claim.ensures.kept ∙ c.loop.invariant.2,
      shown_same _ _ none.ensures.sent ∙ c.loop.invariant.3,
      (
        c.loop.invariant.4.0 + 1,
        retry_more (Provides g.I.Inlet.does g.P.Patience.waits g.P.Patience.finds) a b d
            (TriesClaim c.args.n (Err (Refused NoRoom))) c.loop.invariant.4.0 c.loop.invariant.4.1 call,
      ),
    )

pub returns-in-Ok-clause-called : goal.returns-in-Ok-clause-called
returns-in-Ok-clause-called g c =
    let fine = c.in-Ok in
    let a = with_room c.args.inlet.now c.args.patience.now c.args.room.now in
    let b = with_room c.loop.inlet c.loop.patience c.loop.room in
    let d = with_room c.try_claim.new.self c.loop.patience _ in
    let call : Provides g.I.Inlet.does g.P.Patience.waits g.P.Patience.finds b (TriesClaim c.args.n (Ok fine.claimed)) d = (
      subst (λ r. g.I.Inlet.does c.loop.inlet (TriesClaim c.args.n r) c.try_claim.new.self) fine.is c.try_claim.ensures.called,
      (refl, c.saturating_add.ensures),
    ) in
    retried (Provides g.I.Inlet.does g.P.Patience.waits g.P.Patience.finds) a b d _ _ c.loop.invariant.4.0 c.loop.invariant.4.1 call

pub returns-in-Err-clause-called : goal.returns-in-Err-clause-called
returns-in-Err-clause-called g c =
    let no = c.in-Err in
    let a = with_room c.args.inlet.now c.args.patience.now c.args.room.now in
    let b = with_room c.loop.inlet c.loop.patience c.loop.room in
    let d = with_room c.try_claim.new.self c.loop.patience c.loop.room in
    let call : Provides g.I.Inlet.does g.P.Patience.waits g.P.Patience.finds b (TriesClaim c.args.n (Err no.trouble)) d = (
      subst (λ r. g.I.Inlet.does c.loop.inlet (TriesClaim c.args.n r) c.try_claim.new.self) no.is c.try_claim.ensures.called,
      inr (search rules, refl, refl),
    ) in
    retried (Provides g.I.Inlet.does g.P.Patience.waits g.P.Patience.finds) a b d _ _ c.loop.invariant.4.0 c.loop.invariant.4.1
    (subst (λ r. Provides g.I.Inlet.does g.P.Patience.waits g.P.Patience.finds b (TriesClaim c.args.n r) d) (search rules) call)
