use Rattle.std.proofs.Common.{ap, ◌∙◌}
use Rattle.dr_operations.specs.Arriving.{arrival_from, read_of}
use Rattle.dr_records.specs.Records.{records_of}
use Rattle.dr_operations.proofs.Arrivals.{read_in}
use Rattle.dr_operations.proofs.event_stream.EventStream.new.Goals as goal

pub returns : goal.returns
returns c = λ text. ap (λ rows. read_of (arrival_from 1 rows)) (c.new.ensures text) ∙ read_in (records_of text)
