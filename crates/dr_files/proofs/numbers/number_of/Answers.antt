use Rattle.std.proofs.Common.{◌≡◌, ◌≤◌, ◌<◌, ◌+◌, ◌-◌, ◌*◌, ◌^◌, true, get_or, length, arith, rules}
use Rattle.std.proofs.lemmas.Grind.{common_steps}
use Rattle.dr_files.specs.Numbers.{is_digit}
use Rattle.dr_files.proofs.Digits.{ended, over}
use Rattle.dr_files.proofs.numbers.number_of.Goals as goal

pub returns : goal.returns
returns c =
    let some : 0 < length c.args.field.now = grind (arith, common_steps) in
    ended c.args.field.now c.loop-byte.number c.loop-byte.byte-index c.loop-byte.invariant.goes_on (omega arith) some c.loop-byte.invariant.fits

pub returns-in-None-checked_add : goal.returns-in-None-checked_add
returns-in-None-checked_add c =
    let field = c.args.field.now in
    let i = c.loop-byte.byte-index in
    let digit : is_digit (get_or field i 0) ≡ true = search rules in
    let large : 2 ^ 64 ≤ c.loop-byte.number * 10 + (get_or field i 0 - 48) = omega (arith, c.in-Some.ensures, c.in-None-checked_add.ensures) in
    over field c.loop-byte.number i c.loop-byte.invariant.goes_on c.loop-byte-test.true digit large

pub returns-in-None : goal.returns-in-None
returns-in-None c =
    let field = c.args.field.now in
    let i = c.loop-byte.byte-index in
    let digit : is_digit (get_or field i 0) ≡ true = search rules in
    let large : 2 ^ 64 ≤ c.loop-byte.number * 10 + (get_or field i 0 - 48) = omega (arith, c.in-None.ensures) in
    over field c.loop-byte.number i c.loop-byte.invariant.goes_on c.loop-byte-test.true digit large
