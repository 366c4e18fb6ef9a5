use Rattle.std.proofs.Common.{◌≡◌, ◌≢◌, ◌-◌, ◌∙◌, [], ap, sym, rules}
use Rattle.std.proofs.lemmas.List.{append-nil}
use Rattle.dr_journal.specs.Calls.Journals.{bytes_of}
use Rattle.dr_journal.proofs.Reading.{within_batch, record_ends, four_less, own_byte}
use Rattle.dr_journal.proofs.scan.Scan.push_code.Goals as goal

pub returns-in_ok-push-in-1-clause-takes : goal.returns-in_ok-push-in-1-clause-takes
returns-in_ok-push-in-1-clause-takes c = λ records body s.
    let was = c.args.self.now in
    let goes = record_ends was.waiting.items was.record.items was.less c.args.code c.replace-record.result c.push.new.self.items c.replace-record.new.dest.items
    c.in_ok-push-in-1.ensures.items (ap (λ v. v.items) c.replace-record.ensures.value) (ap (λ v. v.items) c.replace-record.ensures.after ∙ c.new.ensures.items) c.in-1.is in
    let all = within_batch was.len was.end was.last was.is_over (bytes_of was.waiting.items) was.record.items was.less body s c.requires.going
    c.args.code c.requires.within.0 c.requires.within.1 (bytes_of c.push.new.self.items) c.replace-record.new.dest.items 0 goes in
    (all.0, ([], sym (append-nil records), all.1))

pub returns-in-3-clause-takes : goal.returns-in-3-clause-takes
returns-in-3-clause-takes c = λ records body s.
    let was = c.args.self.now in
    let goes = four_less was.waiting.items was.record.items was.less c.args.code c.in-3.is in
    let all = within_batch was.len was.end was.last was.is_over (bytes_of was.waiting.items) was.record.items was.less body s c.requires.going
    c.args.code c.requires.within.0 c.requires.within.1 (bytes_of was.waiting.items) was.record.items 4 goes in
    (all.0, ([], sym (append-nil records), all.1))

pub returns-in_ok-push-in_default-clause-takes : goal.returns-in_ok-push-in_default-clause-takes
returns-in_ok-push-in_default-clause-takes c = λ records body s.
    let was = c.args.self.now in
    let not_1 : c.args.code ≢ 1 = search rules in
    let not_3 : c.args.code ≢ 3 = search rules in
    let less : c.saturating_sub.result ≡ c.args.code - was.less = search rules in
    let goes = own_byte was.waiting.items was.record.items was.less c.args.code c.saturating_sub.result c.push-in_default.new.self.items
    c.in_ok-push-in_default.ensures.items less not_1 c.requires.within.1 not_3 in
    let all = within_batch was.len was.end was.last was.is_over (bytes_of was.waiting.items) was.record.items was.less body s c.requires.going
    c.args.code c.requires.within.0 c.requires.within.1 (bytes_of was.waiting.items) c.push-in_default.new.self.items 0 goes in
    (all.0, ([], sym (append-nil records), all.1))
