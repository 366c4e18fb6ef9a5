use Rattle.std.proofs.Common.{◌∙◌, arith, length-append, sym}
use Rattle.dr_ledger.proofs.Starts.{books_more}
use Rattle.dr_ledger.proofs.accounts.Accounts.book.Goals as goal

pub returns-in-Some-clause-booked : goal.returns-in-Some-clause-booked
returns-in-Some-clause-booked c = λ past booked.
    let well = sym c.is_failed.ensures ∙ c.if-is_failed.false in
    let more = length-append past c.args.events.now in
    let had = booked.count in
    record {
      balances = books_more c.args.self.now.business c.show.new.handler past c.args.events.now booked.balances c.show.ensures well;
      well = well;
      count = omega (arith, more, had);
    }
