use Rattle.std.proofs.Common.{◌≡◌, ℕ, ◌+◌, ◌-◌, ◌≤◌, ◌<◌, List, [], ◌∷◌, ◌++◌, Ok, arith, refl, sym, ap, ◌∙◌, subst}
use Rattle.dr_seq.proofs.Sizes.{size_at_most}
use Rattle.dr_runs.specs.Runs.{IsBeginning}
use Rattle.dr_lent.specs.Rows.{cells_of}
use Rattle.dr_lent.specs.Events.{events_of}
use Rattle.dr_plain.specs.declared.record.Step.{Step}
use Rattle.dr_plain.specs.declared.record.Step.TheVariants.{SenderPublishes}
use Rattle.dr_plain.specs.Calls.Ends.{SenderEnd, SenderStand}
use Rattle.dr_plain.specs.Calls.Sending.{PublishCall}
use Rattle.dr_runs.specs.declared.written.Written.{Written}
use Rattle.dr_plain.specs.Inside.Lending.{lents_of}
use Rattle.dr_plain.specs.Inside.Views.{sender_end}
use Rattle.dr_plain.proofs.Claims.{collected_many}
use Rattle.dr_runs.proofs.Beginnings.{begins_same}
use Rattle.dr_plain.proofs.Publishing.{publish_none, publish_unclaimed, publish_early, publish_unwritten, publish_late, publish_done, publish_stores}
use Rattle.dr_plain.proofs.Publishing.{lend_hand, turn_room, publish_order, publish_lents, publish_hand, published_knows, turned_knows, fits_publish}
use Rattle.dr_plain.proofs.sender.Sender.publish.Goals as goal
use Rattle.dr_plain.proofs.sender.Sender.publish.Goals.{After-has_all}

pub returns-then-lo-hi : goal.returns-then-lo-hi
returns-then-lo-hi g c = ((refl, begins_same _), publish_none c.self.invariant c.self.view_is c.args.lo c.args.hi c.if-lo-hi.true, refl)

pub returns-then-hi-self : goal.returns-then-hi-self
returns-then-hi-self g c = ((refl, begins_same _), publish_unclaimed c.self.invariant c.self.view_is c.args.lo c.args.hi c.if-lo-hi.false c.if-hi-self.true, refl)

pub returns-then-lo-self : goal.returns-then-lo-self
returns-then-lo-self g c = ((refl, begins_same _), publish_early c.self.invariant c.self.view_is c.args.lo c.args.hi c.if-lo-hi.false c.if-hi-self.false c.if-lo-self.true, refl)

pub returns-then-not-has_all : goal.returns-then-not-has_all
returns-then-not-has_all g c = (
  (refl, begins_same _),
  publish_unwritten c.self.invariant c.if-lo-hi.false c.if-hi-self.false c.if-lo-self.false c.self.view_is c.if-not-has_all.ensures,
  refl,
)

pub returns-then-lo-self-2 : goal.returns-then-lo-self-2
returns-then-lo-self-2 g c = (
  (refl, begins_same _),
  publish_late c.self.invariant c.if-lo-hi.false c.if-hi-self.false c.if-lo-self.false c.self.view_is c.if-not-has_all.ensures c.if-lo-self-2.true,
  refl,
)

-- the first of them is the next to be published
front : (g : _) (c : After-has_all g) → c.args.lo ≤ c.self.inside.published → c.args.lo ≡ c.self.inside.published
front g c le = let ge = c.if-lo-self.false in omega arith

before_end : (g : _) (c : After-has_all g) → c.args.lo < c.args.hi + 1
before_end g c = let order = c.if-lo-hi.false in omega arith

claimed_all : (g : _) (c : After-has_all g) → c.args.hi + 1 ≤ c.self.inside.claimed
claimed_all g c = let within = c.if-hi-self.false in omega arith

pub lend-requires-clause-hand : goal.lend-requires-clause-hand
lend-requires-clause-hand g c =
    let a = (goal.at.lend-requires-clause-hand g c).After-has_all in
    lend_hand c.self.inside.tokens.items c.args.lo (c.args.hi + 1) c.self.invariant (front g a c.if-lo-self-2.false) (before_end g a) (claimed_all g a)

pub turn_rows-requires : goal.turn_rows-requires
turn_rows-requires g c =
    let a = (goal.at.turn_rows-requires g c).After-has_all in let F = c.self.invariant in
    let near = F.near in let early = c.if-lo-self.false in
    turn_room c.lend.new.tokens.items c.args.lo (c.args.hi + 1) F (front g a c.if-lo-self-2.false) (before_end g a) (claimed_all g a) c.lend.ensures.hand _ refl
    (let few = size_at_most c.self.inside.station.knows.plan.size F.made.size in let order = c.if-lo-hi.false in omega arith)

pub publish_lent-requires-clause-order : goal.publish_lent-requires-clause-order
publish_lent-requires-clause-order g c =
    let a = (goal.at.publish_lent-requires-clause-order g c).After-has_all in
    publish_order c.lend.new.tokens.items c.args.lo (c.args.hi + 1) c.self.invariant (front g a c.if-lo-self-2.false) (before_end g a) (claimed_all g a) c.lend.ensures.hand _ refl
    c.turn_rows.ensures

pub publish_lent-requires-clause-lent : goal.publish_lent-requires-clause-lent
publish_lent-requires-clause-lent g c =
    let a = (goal.at.publish_lent-requires-clause-lent g c).After-has_all in
    publish_lents c.lend.new.tokens.items c.args.lo (c.args.hi + 1) c.self.invariant (front g a c.if-lo-self-2.false) (before_end g a) (claimed_all g a) c.lend.ensures.hand _ refl
    c.turn_rows.ensures c.lend.ensures.lent

pub publish_lent-requires-clause-hand : goal.publish_lent-requires-clause-hand
publish_lent-requires-clause-hand g c =
    let a = (goal.at.publish_lent-requires-clause-hand g c).After-has_all in
    publish_hand c.lend.new.tokens.items c.args.lo (c.args.hi + 1) c.self.invariant (front g a c.if-lo-self-2.false) (before_end g a) (claimed_all g a) c.lend.ensures.hand _ refl
    c.turn_rows.ensures

pub invariant_of-self : goal.invariant_of-self
invariant_of-self g c =
    let a = (goal.at.invariant_of-self g c).After-has_all in let w = c.self.inside.written in
    fits_publish c.lend.new.tokens.items c.args.lo (c.args.hi + 1) c.self.invariant (front g a c.if-lo-self-2.false) (before_end g a) (claimed_all g a) c.lend.ensures.hand _ refl
    c.turn_rows.ensures c.publish_lent.new.self _ c.publish_lent.ensures.1 c.publish_lent.ensures.2
    (ap (λ (n : ℕ). let x : Written = record w { upto = n } in x) c.max-self-inside.ensures) c.lend.ensures.lent c.lend.ensures.others
    (collected_many _ _ _ _ _ c.lend.ensures.others)

pub returns : goal.returns
returns g c =
    let a = (goal.at.returns g c).After-has_all in let e = c.self.inside.station in let w = c.self.inside.written in let P = c.publish_lent.ensures in
    let lo = c.args.lo in let upto = c.args.hi + 1 in let tokens = c.lend.new.tokens.items in
    let w' : Written = record w { upto = c.max-self-inside.result } in let E' = sender_end c.publish_lent.new.self w' (cells_of tokens) in
    let knows = published_knows tokens lo upto c.self.invariant (front g a c.if-lo-self-2.false) (before_end g a) (claimed_all g a) c.lend.ensures.hand _ refl c.turn_rows.ensures c.publish_lent.new.self P.1 in
    let ring = P.0 ∙ ap (λ (x : SenderStand g.row.T.Denot). x.ring) c.turn_rows.ensures ∙ ap (λ (x : SenderStand g.row.T.Denot). x.ring) c.lend.ensures.hand in
    let past = ap (λ (x : SenderStand g.row.T.Denot). x.past) c.turn_rows.ensures ∙ ap (λ (x : SenderStand g.row.T.Denot). x.past) c.lend.ensures.hand in
    let stored = ap (λ (x : SenderStand g.row.T.Denot). x.stored) c.turn_rows.ensures ∙ ap (λ (x : SenderStand g.row.T.Denot). x.stored) c.lend.ensures.hand in
    let turned = turned_knows tokens lo upto c.self.invariant (front g a c.if-lo-self-2.false) (before_end g a) (claimed_all g a) c.lend.ensures.hand _ refl c.turn_rows.ensures in
    let lents = lents_of e.knows.plan tokens lo (upto - lo) in
    let event_stored : c.publish_lent.new.self.stored ≡ e.stored ++ SenderPublishes (events_of lents) ∷ [] =
    P.4 ∙ (λ i. stored i ++ SenderPublishes (events_of (lents_of (turned i).plan tokens lo (upto - lo))) ∷ []) in
    subst (λ (E : SenderEnd g.row.T.Denot). PublishCall E lo c.args.hi E' (Ok tt)) c.self.view_is (
      ((λ i. (ring i, (knows i).plan)), subst (λ (p : List (Step g.row.T.Denot)). IsBeginning p c.publish_lent.new.self.past) past P.3),
      publish_done c.publish_lent.new.self c.self.invariant c.if-lo-hi.false c.if-hi-self.false c.if-lo-self.false refl tokens w' c.if-not-has_all.ensures c.if-lo-self-2.false
          c.lend.ensures.lent c.lend.ensures.others (collected_many _ _ _ _ _ c.lend.ensures.others) knows
          (ap (λ (n : ℕ). let x : Written = record w { upto = n } in x) c.max-self-inside.ensures),
      event_stored ∙ ap (λ (events : List g.row.T.Denot). e.stored ++ SenderPublishes events ∷ [])
          (sym (publish_stores c.publish_lent.new.self c.self.invariant c.if-lo-hi.false c.if-hi-self.false c.if-lo-self.false refl tokens knows refl)),
    )
