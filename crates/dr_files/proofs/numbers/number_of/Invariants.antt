use Rattle.std.proofs.Common.{◌≡◌, ◌<◌, ◌^◌, drop}
use Rattle.dr_files.proofs.Digits.{number_from}
use Rattle.dr_files.proofs.numbers.number_of.Given as goal

abbrev pub invariant-loop-byte : goal.invariant-loop-byte
invariant-loop-byte l = record {
  goes_on : number_from 0 l.field ≡ number_from l.number (drop l.byte-index l.field);
  fits : l.number < 2 ^ 64;
}
