use Rattle.std.proofs.Common.{None, Some, string_bytes}
use Rattle.dr_records.proofs.RowsLeft.{numbers_fit}
use Rattle.dr_records.specs.Rows.{rows_left}
use Rattle.dr_show.proofs.Pages.{page_put}
use Rattle.dr_show.proofs.tool.put_page.Goals as goal

pub put_objects-requires : goal.put_objects-requires
put_objects-requires c = numbers_fit c.args.text.now (rows_left c.new-rows.result) c.requires c.new-rows.ensures

pub returns-in-Ok : goal.returns-in-Ok
returns-in-Ok c =
    page_put None c.args.window c.args.before.now c.args.after.now c.args.text.now (rows_left c.new-rows.result) (string_bytes c.args.page.now) (string_bytes c.put_head.new.page)
    (string_bytes c.put_objects.new.page) (string_bytes c.put_tail.new.page) c.new-rows.ensures
    c.in_ok-put_head.ensures c.in-Ok.ensures c.in_ok-put_tail-in-Ok.ensures

pub returns-in-Err-Input : goal.returns-in-Err-Input
returns-in-Err-Input c =
    page_put (Some (record { k = c.in-Err-Input.k; cause = c.in-Err-Input.cause })) c.args.window c.args.before.now c.args.after.now c.args.text.now (rows_left c.new-rows.result)
    (string_bytes c.args.page.now) (string_bytes c.put_head.new.page) (string_bytes c.put_objects.new.page) (string_bytes c.put_tail-in-Err-Input.new.page) c.new-rows.ensures
    c.in_ok-put_head.ensures (rw c.in-Err-Input.field-0-is at c.in-Err-Input.ensures) c.in_ok-put_tail-in-Err-Input.ensures
