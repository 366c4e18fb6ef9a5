use Rattle.std.proofs.Common.{codes, decimal, string_bytes}
use Rattle.dr_show.proofs.Naming.{counts_put}
use Rattle.dr_show.proofs.handlers.put_counts.Goals as goal

pub returns : goal.returns
returns c =
    let it = c.args.it in
    counts_put c.write.result (string_bytes c.args.page.now) (codes "{\"taken\":") (decimal it.taken) (codes ",\"completed\":") (decimal it.completed) (codes ",\"ready\":")
    (decimal it.ready) (string_bytes c.write.new.self) c.write.ensures.bytes
