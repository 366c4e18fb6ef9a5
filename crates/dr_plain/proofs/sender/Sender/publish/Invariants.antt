use Rattle.std.proofs.Common.{◌-◌}
use Rattle.dr_plain.specs.Inside.Lending.{lents_of}
use Rattle.dr_plain.proofs.sender.Sender.publish.Given as goal

abbrev pub ghosts-publish_lent : goal.ghosts-publish_lent
ghosts-publish_lent g a = record { lents = lents_of a.self.now.knows.plan a.tokens.now.items a.first (a.upto - a.first) }
