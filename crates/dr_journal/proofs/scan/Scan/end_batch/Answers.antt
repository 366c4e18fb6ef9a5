use Rattle.std.proofs.Common.{ap}
use Rattle.dr_journal.specs.Calls.Journals.{bytes_of}
use Rattle.dr_journal.proofs.Reading.{ends_so}
use Rattle.dr_journal.proofs.scan.Scan.end_batch.Goals as goal

pub returns-clause-takes : goal.returns-clause-takes
returns-clause-takes c = λ body s.
    let was = c.args.self.now in
    let all = ends_so was.len was.end was.last was.is_over (bytes_of was.waiting.items) was.record.items was.less body s c.requires.going
    (bytes_of c.append.new.other.items) c.new.result.items (ap (λ l. bytes_of l) c.in_ok-append.ensures.other_items) c.new.ensures.items in
    (all.0, (was.waiting.items, c.in_ok-append.ensures.items, all.1))
