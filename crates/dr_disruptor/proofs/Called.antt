-- Calls of an end, one after another.
use Rattle.std.proofs.Common.{◌≡◌, ℕ, List, [], ◌∷◌, ◌++◌, Ok, Err, refl, ap, ◌∙◌}
use Rattle.dr_meaning.specs.Calls.Calling.{ChangesEvent, ClaimsStretch, InPlaceInletCall, PublishesFilled}
use Rattle.dr_meaning.proofs.Calling.{lead_more}
use Rattle.dr_disruptor.specs.Sending.{ClaimsJust, OnlyCalled, accepted}

accepted_on : (before after : List InPlaceInletCall) → accepted (before ++ after) ≡ accepted before ++ accepted after
accepted_on [] after = refl
accepted_on (ClaimsStretch n (Ok claimed) ∷ before) after = ap (λ claims. n ∷ claims) (accepted_on before after)
accepted_on (ClaimsStretch n (Err fault) ∷ before) after = accepted_on before after
accepted_on (ChangesEvent s ∷ before) after = accepted_on before after
accepted_on (PublishesFilled lo hi ∷ before) after = accepted_on before after

module _ {I : Type 0} (does : I → InPlaceInletCall → I → Type 0) where
  pub called_none : (a : I) → OnlyCalled does a a
  called_none a = ([], refl)

  pub called_once : (a b : I) (call : InPlaceInletCall) → does a call b → OnlyCalled does a b
  called_once a b call is = (call ∷ [], (b, is, refl))

  -- some calls after others
  pub called_on : (a b c : I) → OnlyCalled does a b → OnlyCalled does b c → OnlyCalled does a c
  called_on a b c before after = (before.0 ++ after.0, lead_more does a b c before.0 after.0 before.1 after.1)

  pub called_more : (a b c : I) (call : InPlaceInletCall) → OnlyCalled does a b → does b call c → OnlyCalled does a c
  called_more a b c call before is = called_on a b c before (called_once b c call is)

  -- a claim, a change of what it gave, and its publication
  pub called_thrice : (a b c d : I) (claim change publication : InPlaceInletCall) → does a claim b → does b change c → does c publication d → OnlyCalled does a d
  called_thrice a b c d claim change publication first second third =
      called_more a c d publication (called_more a b c change (called_once a b claim first) second) third

  -- the same, with what the accepted claims are of
  pub just_none : (a : I) → ClaimsJust does [] a a
  just_none a = record { calls = []; lead = refl; holds = refl }

  pub just_once : (a b : I) (call : InPlaceInletCall) → does a call b → ClaimsJust does (accepted (call ∷ [])) a b
  just_once a b call is = record { calls = call ∷ []; lead = (b, is, refl); holds = refl }

  pub just_on : (a b c : I) (first second : List ℕ) → ClaimsJust does first a b → ClaimsJust does second b c → ClaimsJust does (first ++ second) a c
  just_on a b c first second before after = record {
    calls = before.calls ++ after.calls;
    lead = lead_more does a b c before.calls after.calls before.lead after.lead;
    holds = accepted_on before.calls after.calls ∙ (λ i. before.holds i ++ after.holds i);
  }

  pub just_more : (a b c : I) (first : List ℕ) (call : InPlaceInletCall) → ClaimsJust does first a b → does b call c → ClaimsJust does (first ++ accepted (call ∷ [])) a c
  just_more a b c first call before is = just_on a b c first (accepted (call ∷ [])) before (just_once b c call is)

  pub called_just : (a b : I) (claims : List ℕ) → ClaimsJust does claims a b → OnlyCalled does a b
  called_just a b claims just = (just.calls, just.lead)
