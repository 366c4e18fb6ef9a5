use Rattle.std.proofs.Common.{◌∙◌}
use Rattle.dr_ledger.proofs.accounts.Accounts.into_responder.Goals as goal

pub returns : goal.returns
returns c = λ past booked.
    let well = c.new.ensures.well ∙ booked.well in
    record { accounts = c.new.ensures.empty past (λ fine. booked.balances) well; well = well }
