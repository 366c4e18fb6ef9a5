-- What a counted reader or writer shows, and what its calls do to the count.
use Rattle.std.specs.Prelude.{◌≡◌, ◌+◌, ℕ, ◌-◌, ◌^◌, Result, Ok, Err, List, length, if◌then◌else◌, ◌==◌, ◌&&◌, nat_lt}
use Rattle.dr_files.specs.declared.counted.Counted.{Counted}

-- the reader or writer underneath
abbrev pub inner_of : {T : Type 0} → Counted T → T
inner_of c = c.inner

-- how many calls failed so far
abbrev pub faults_of : {T : Type 0} → Counted T → ℕ
faults_of c = c.faults

-- one failed call more, up to `u64::MAX`
abbrev pub one_more : ℕ → ℕ
one_more n = if nat_lt n (2 ^ 64 - 1) then n + 1 else n

-- a call that failed counts
abbrev pub CountsCall : {A E : Type 0} → Result A E → ℕ → ℕ → Type 0
CountsCall (Ok x) old new = new ≡ old
CountsCall (Err e) old new = new ≡ one_more old

-- a write that failed counts, and so does one that took nothing of a piece
abbrev pub CountsWrite : {E : Type 0} → Result ℕ E → List ℕ → ℕ → ℕ → Type 0
CountsWrite (Ok n) piece old new = new ≡ (if (n == 0) && nat_lt 0 (length piece) then one_more old else old)
CountsWrite (Err e) piece old new = new ≡ one_more old
