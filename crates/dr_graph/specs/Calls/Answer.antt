-- What a call answers, where the fault of what is asked is known.
use Rattle.std.specs.Prelude.{◌≡◌, Option, None, Some, Result, Err, IfErr}

-- that fault; or, where there is none, no fault but a lack of memory
unfoldable pub Answers : {A F : Type 0} → F → Option F → Result A F → Type 0
Answers lack (Some fault) result = result ≡ Err fault
Answers lack None result = IfErr result (λ fault. fault ≡ lack)
