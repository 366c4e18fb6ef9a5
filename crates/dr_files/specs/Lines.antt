-- The lines that a tool writes. A line has its own end, so the bytes of lines are one line after another.
use Rattle.std.specs.Prelude.{ℕ, List, flat_map}

abbrev pub Line : Type 0
Line = List ℕ

abbrev pub joined : List Line → List ℕ
joined lines = flat_map (λ line. line) lines
