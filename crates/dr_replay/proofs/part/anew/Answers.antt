use Rattle.std.proofs.Common.{◌≡◌, ◌++◌, ◌∷◌, [], IfOk, string_bytes, true}
use Rattle.std.proofs.lemmas.List.{append-nil}
use Rattle.dr_meaning.specs.Calls.Handling.{showings}
use Rattle.dr_replay.proofs.part.anew.Goals as goal

pub returns : goal.returns
returns g c =
    let list = c.args.list.now in
    let told : IfOk c.part.result (λ text. string_bytes text ≡ g.P.Reporter.part_of (list ++ [])) = c.part.ensures.text c.begin-handler.result
    (record { first = 0; events = list; end = true } ∷ []) c.begin-handler.ensures.new (rw (append-nil (showings list 0 true)) c.show.ensures) in
    rw (append-nil list) at told
