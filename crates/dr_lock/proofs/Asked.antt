-- What calls of an end that goes through another end tell of that one.
use Rattle.std.proofs.Common.{◌≡◌, List, [], ◌∷◌, ap, sym, subst}
use Rattle.dr_meaning.specs.Calls.Calling.{CallsLead, SomeCalls}

module _ {S T C : Type 0} (does : S → C → S → Type 0) (tells : T → C → T → Type 0) (end_of : S → T) (Is : S → Type 0)
    (step : (old new : S) (call : C) → Is old → does old call new → Is new × tells (end_of old) call (end_of new)) where
  along : (old new : S) (calls : List C) → Is old → CallsLead does old calls new → CallsLead tells (end_of old) calls (end_of new)
  along old new [] here lead = ap end_of lead
  along old new (call ∷ calls) here lead =
      let next = step old lead.0 call here lead.1 in
      (end_of lead.0, next.1, along lead.0 new calls next.0 lead.2)

  pub asked : {Holds : List C → Type 0} (old new : S) (given back : T) → Is old → end_of old ≡ given → back ≡ end_of new → SomeCalls does old new Holds → SomeCalls tells given back Holds
  asked old new given back here begins ends some = record {
    calls = some.calls;
    lead = subst (λ t. CallsLead tells t some.calls back) begins
        (subst (λ t. CallsLead tells (end_of old) some.calls t) (sym ends) (along old new some.calls here some.lead));
    holds = some.holds;
  }
