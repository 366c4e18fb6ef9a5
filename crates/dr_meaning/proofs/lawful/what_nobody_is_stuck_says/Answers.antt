use Rattle.dr_meaning.proofs.lawful.what_nobody_is_stuck_says.Goals as goal

pub returns-clause-front : goal.returns-clause-front
returns-clause-front g c s m stuck = stuck.publishes

pub returns-clause-publishes : goal.returns-clause-publishes
returns-clause-publishes g c s m p at may event = (may.writes event, may.publishes event)

pub returns-clause-handlers : goal.returns-clause-handlers
returns-clause-handlers g c s m stuck = stuck.completes

pub returns-clause-claims : goal.returns-clause-claims
returns-clause-claims g c s m stuck = stuck.claims

pub returns-clause-drains : goal.returns-clause-drains
returns-clause-drains g c s m stuck = stuck.drains

pub returns-clause-goes_on : goal.returns-clause-goes_on
returns-clause-goes_on g c s m h awaits = (awaits.awaited, awaits.path, awaits.leads, awaits.goes_on)

pub returns-clause-takes : goal.returns-clause-takes
returns-clause-takes g c s m h may = may

pub returns-clause-completes : goal.returns-clause-completes
returns-clause-completes g c s m h may = (may.more, may.completes)

pub returns-clause-path_ends : goal.returns-clause-path_ends
returns-clause-path_ends g c s m from to leads = leads

pub returns-clause-path : goal.returns-clause-path
returns-clause-path g c s m from up to ups leads = leads

pub returns-clause-waits : goal.returns-clause-waits
returns-clause-waits g c s m h up waits = (waits.upstream, waits.left, waits.taken, waits.completed)

pub returns-clause-claim_waits : goal.returns-clause-claim_waits
returns-clause-claim_waits g c s m n waits = (waits.last, waits.gates, waits.behind, waits.goes_on)
