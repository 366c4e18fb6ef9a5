use Rattle.std.proofs.Common.{rules, ◌≡◌, sym, ap, subst, ◌∙◌}
use Rattle.std.specs.Str.{IsUtf8}
use Rattle.hex.specs.Hex.{encode_lower}
use Rattle.dr_accounts.specs.Report.{hexadecimal}
use Rattle.dr_accounts.proofs.Hexadecimal.{is_text, of_bytes}
use Rattle.dr_accounts.proofs.replica.push_word.Goals as goal

pub unreachable-requires-in_default-from_utf8 : goal.unreachable-requires-in_default-from_utf8
unreachable-requires-in_default-from_utf8 c =
    c.in_default-from_utf8.ensures.cases.0 (subst IsUtf8 (sym c.in-Ok.ensures.written) (is_text c.to_be_bytes.result))

pub returns : goal.returns
returns c =
    let digits = c.in-Ok.ensures.written ∙ ap encode_lower c.to_be_bytes.ensures ∙ of_bytes c.args.word c.ranges.word.fits in
    let text : c.in-Ok-from_utf8.text.now ≡ hexadecimal c.args.word = c.in-Ok-from_utf8.ensures.cases.0 ∙ digits in
    rw (← text) (search rules)
