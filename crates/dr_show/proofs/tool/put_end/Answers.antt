use Rattle.std.proofs.Common.{string_bytes, sym, ◌∙◌}
use Rattle.dr_show.proofs.Pages.{complete, lacking, last_put}
use Rattle.dr_show.proofs.tool.put_end.Goals as goal

pub returns-in-Some : goal.returns-in-Some
returns-in-Some c = λ phase shown.
    let is = c.missing-missing.ensures phase shown in
    (lacking c.args.k phase c.in-Some.cause (sym c.in-Some.is ∙ is), last_put c.args.k phase c.missing-missing.result (string_bytes c.args.page.now) (string_bytes c.put_last.new.page) c.requires is c.in_ok-put_last.ensures)

pub returns-in-None : goal.returns-in-None
returns-in-None c = λ phase shown.
    let is = c.missing-missing.ensures phase shown in
    (complete c.args.k phase (sym c.in-None.is ∙ is), last_put c.args.k phase c.missing-missing.result (string_bytes c.args.page.now) (string_bytes c.put_last.new.page) c.requires is c.in_ok-put_last.ensures)
