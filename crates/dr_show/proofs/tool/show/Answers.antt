use Rattle.std.proofs.Common.{◌≡◌, List, ℕ, None, Some, arith, string_bytes, subst}
use Rattle.std.specs.Io.KnownBytes.{Appends}
use Rattle.dr_files.specs.Counting.{inner_of}
use Rattle.dr_drive.specs.Meaning.DriveText.{drive_text}
use Rattle.dr_drive.proofs.Whole.{at_input}
use Rattle.dr_show.specs.Meaning.PageText.{page_text}
use Rattle.dr_show.proofs.Shows.{fault_shown, whole_shown}
use Rattle.dr_show.proofs.tool.show.Goals as goal

pub put_page-requires : goal.put_page-requires
put_page-requires g c = omega (arith, c.as_slice.type_inv.1)

pub returns-in-Ok-clause-bytes : goal.returns-in-Ok-clause-bytes
returns-in-Ok-clause-bytes g c =
    let con = g.W.Write.contents in
    let old = con (inner_of c.args.writer.now) in
    let new = con (inner_of c.write_text.new.writer) in
    let w = c.args.window in
    let before = c.args.before.now in
    let after = c.args.after.now in
    let text = c.in_ok-text.text.items in
    let P : List ℕ → Type 0 = λ input. ((drive_text input).fault ≡ None) × Appends old new (page_text w before after input) in
    at_input (g.R.Read.remaining (inner_of c.args.reader.now)) text P c.in_ok-text.ensures.whole
    (subst P c.as_slice.ensures.value (whole_shown w before after c.as_slice.result.now (string_bytes c.put_page.new.page) (string_bytes c.new-page.result)
    c.as_bytes.result.now old new c.new-page.ensures.bytes c.as_bytes.ensures.value c.in-Ok.ensures c.in_ok-write_text-in-Ok.ensures.0))

pub returns-in-Err-Input-clause-bytes : goal.returns-in-Err-Input-clause-bytes
returns-in-Err-Input-clause-bytes g c =
    let con = g.W.Write.contents in
    let old = con (inner_of c.args.writer.now) in
    let new = con (inner_of c.write_text-in-Err-Input.new.writer) in
    let w = c.args.window in
    let before = c.args.before.now in
    let after = c.args.after.now in
    let k = c.in-Err-Input.k in
    let cause = c.in-Err-Input.cause in
    let text = c.in_ok-text.text.items in
    let P : List ℕ → Type 0 = λ input. ((drive_text input).fault ≡ Some (record { k = k; cause = cause })) × Appends old new (page_text w before after input) in
    at_input (g.R.Read.remaining (inner_of c.args.reader.now)) text P c.in_ok-text.ensures.whole
    (subst P c.as_slice.ensures.value (fault_shown w before after c.as_slice.result.now (string_bytes c.put_page.new.page) (string_bytes c.new-page.result)
    c.as_bytes-in-Err-Input.result.now old new k cause c.new-page.ensures.bytes c.as_bytes-in-Err-Input.ensures.value
    (rw c.in-Err-Input.field-0-is at c.in-Err-Input.ensures)
    c.in_ok-write_text-in-Err-Input.ensures.0))
