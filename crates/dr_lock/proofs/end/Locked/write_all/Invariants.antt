use Rattle.std.proofs.Common.{◌≡◌, ◌+◌, ◌<◌, ℕ, Ok, take}
use Rattle.dr_lock.specs.Calls.Lock.{IsAt, IsWritten, after_calls, writes_from}
use Rattle.dr_lock.specs.Inside.Locked.{AreCalls}
use Rattle.dr_lock.proofs.end.Locked.write_all.Given as goal

abbrev pub invariant-loop-k : goal.invariant-loop-k
invariant-loop-k g l = record {
  calls : l.end.calls ≡ l.fn.end.calls + l.k;
  halts : l.end.halts ≡ l.fn.end.halts;
  asked : l.end ≡ after_calls (writes_from l.p l.lo (take l.k l.events)) l.fn.end;
  each : (k : ℕ) (event : g.row.E.Denot) → k < l.k → IsAt l.events k event → IsWritten g.L.Exchange.begun l.p (l.lo + k) event (Ok tt);
  written : AreCalls l.fn.self.recorded l.p l.lo (take l.k l.events) l.self.recorded;
}
