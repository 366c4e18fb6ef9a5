use Rattle.std.proofs.Common.{◌∙◌, sym}
use Rattle.dr_ledger.proofs.Comings.{read_of_open, read_still}
use Rattle.dr_ledger.proofs.coming.Coming.finish.Goals as goal

pub returns-in_default-clause-read : goal.returns-in_default-clause-read
returns-in_default-clause-read c = read_still c.args.self.now.opening _ _ c.args.self.now.before.value c.requires c.take.ensures.after c.of.ensures

pub returns-in-Ok-clause-read : goal.returns-in-Ok-clause-read
returns-in-Ok-clause-read c = read_still c.args.self.now.opening _ _ c.args.self.now.before.value c.requires c.take.ensures.after c.of.ensures

pub returns-in-Ok-clause-same : goal.returns-in-Ok-clause-same
returns-in-Ok-clause-same c = c.in-Ok.ensures.same ∙ sym (read_of_open c.args.self.now.opening c.in-Some.opening c.args.self.now.before.value (sym c.take.ensures.value ∙ c.in-Some.is))

pub returns-in-Ok-clause-any_moment : goal.returns-in-Ok-clause-any_moment
returns-in-Ok-clause-any_moment c = λ file left.
    c.in-Ok.ensures.any_moment file left ∙ sym (read_of_open c.args.self.now.opening c.in-Some.opening c.args.self.now.before.value (sym c.take.ensures.value ∙ c.in-Some.is))

pub returns-in-Err-clause-read : goal.returns-in-Err-clause-read
returns-in-Err-clause-read c = read_still c.args.self.now.opening _ _ c.args.self.now.before.value c.requires c.take.ensures.after c.of.ensures
