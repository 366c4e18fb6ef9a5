use Rattle.std.proofs.Common.{rules}
use Rattle.dr_core.proofs.engine.polling.copy_out.Goals as goal

pub returns-else-count-lt-MANY_EVENTS : goal.returns-else-count-lt-MANY_EVENTS
returns-else-count-lt-MANY_EVENTS g c d = let copied = c.copy_to.ensures d in search rules
