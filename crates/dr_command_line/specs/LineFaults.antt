-- How a program ends whose command line is refused.
use Rattle.std.specs.Prelude.{ℕ, List, codes, string_bytes}
use Rattle.dr_command_line.specs.declared.errands.LineFault.{LineFault}
use Rattle.dr_command_line.specs.declared.errands.LineFault.TheVariants as refused

-- 1 where the words are at fault, 3 where there is no memory
abbrev pub line_status : LineFault → ℕ
line_status (refused.Usage text) = 1
line_status refused.BadSize = 1
line_status refused.NotUtf8 = 1
line_status refused.Memory = 3

-- what it prints: of the words, what the reader of command lines has to say
abbrev pub line_text : LineFault → List ℕ
line_text (refused.Usage text) = string_bytes text
line_text refused.BadSize = codes "bad-size"
line_text refused.NotUtf8 = codes "error: a word of the command line is not UTF-8"
line_text refused.Memory = codes "no-memory"
