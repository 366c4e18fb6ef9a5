use Rattle.std.proofs.Common.{codes, decimal, string_bytes}
use Rattle.dr_show.specs.Meaning.Texts.{bool_text, comma_before}
use Rattle.dr_show.specs.Meaning.StateText.{answer_word}
use Rattle.dr_show.proofs.Naming.{handler_put}
use Rattle.dr_show.proofs.handlers.put_handler.Goals as goal

pub returns : goal.returns
returns c =
    let it = c.args.it in
    handler_put c.put_gates.result (string_bytes c.args.page.now) (comma_before c.args.h) (codes "{\"taken\":") (decimal it.taken) (codes ",\"completed\":") (decimal it.completed)
    (codes ",\"ready\":") (decimal it.ready) (codes ",\"poll\":\"") (answer_word it.poll) (codes "\",\"retired\":") (bool_text it.is_retired) (codes ",\"gates\":")
    (bool_text it.gates) (codes ",\"holds\":") (bool_text it.holds) (codes "}") (string_bytes c.put_comma.new.page) (string_bytes c.put_counts.new.page) (string_bytes c.put_answer.new.page)
    (string_bytes c.put_gates.new.page) c.in_ok-put_comma.ensures c.in_ok-put_counts.ensures c.in_ok-put_answer.ensures c.put_gates.ensures
