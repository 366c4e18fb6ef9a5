use Rattle.dr_disruptor.proofs.Unrefused.{stays_open}
use Rattle.dr_disruptor.proofs.UnhaltedOfSeveral.{stores_no_halt}
use Rattle.dr_disruptor.proofs.laws.sending.what_a_send_says.Goals as goal

pub returns-clause-sends : goal.returns-clause-sends
returns-clause-sends g c fill old new sends = sends

pub returns-clause-refuses : goal.returns-clause-refuses
returns-clause-refuses g c n r old new is = (is.refused, is.waits, is.place, is.before, is.same, is.calls)

pub returns-clause-stops : goal.returns-clause-stops
returns-clause-stops g c fill n cut r old new is = (is.some, is.place, (is.claims.calls.calls, is.claims.calls.lead), (is.sent.events, is.sent.many, is.sent.fills, is.sent.published))

pub returns-clause-stops_refused : goal.returns-clause-stops_refused
returns-clause-stops_refused g c fill n cut r old new is = is.refused

pub returns-clause-refuses_of_one_sender : goal.returns-clause-refuses_of_one_sender
returns-clause-refuses_of_one_sender g c e e' n r refuses = refuses

pub returns-clause-claims_of_one_sender : goal.returns-clause-claims_of_one_sender
returns-clause-claims_of_one_sender g c e e' n claimed claims = claims

pub returns-clause-stays_open : goal.returns-clause-stays_open
returns-clause-stays_open g c e e' called = stays_open e e' called

pub returns-clause-stays_open_of_several : goal.returns-clause-stays_open_of_several
returns-clause-stays_open_of_several g c e e' called = stores_no_halt e e' called
