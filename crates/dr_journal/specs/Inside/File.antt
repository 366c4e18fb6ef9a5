-- What a real file has after its calls, and what a crash may leave of it.
use Rattle.std.specs.Prelude.{◌≡◌, ◌⊎◌, ℕ, ◌+◌, ◌≤◌, List, [], ◌++◌, length, true, if◌then◌else◌}
use mathlib.Core.Logic.{inl, inr}
use native.Mathlib.Omega.{arith}
use Rattle.dr_journal.specs.Meaning.Disk.{Mixed, Grown, written}
use Rattle.dr_journal.specs.declared.file.Calls.{Calls, Unopened, Read', Overwritten', Extended', Synced'}

-- what the file has: each write that was answered is there
abbrev pub seen_in : Calls → List ℕ
seen_in Unopened = []
seen_in (Read' snapshot before piece) = seen_in before ++ piece.value.items
seen_in (Overwritten' snapshot before at bytes done) = if done then written at bytes.value.items (seen_in before) else seen_in before
seen_in (Extended' snapshot before at bytes done) = if done then written at bytes.value.items (seen_in before) else seen_in before
seen_in (Synced' snapshot before done) = seen_in before

-- how many were not answered
abbrev pub faults_in : Calls → ℕ
faults_in Unopened = 0
faults_in (Read' snapshot before piece) = faults_in before
faults_in (Overwritten' snapshot before at bytes done) = if done then faults_in before else 1 + faults_in before
faults_in (Extended' snapshot before at bytes done) = if done then faults_in before else 1 + faults_in before
faults_in (Synced' snapshot before done) = if done then faults_in before else 1 + faults_in before

-- what a crash may leave: of a file that is being opened what was read, and then what it might have left before with some of the write, and after an answered sync what the file has. A write that
-- does not begin at the file's end is no growth: of it this says nothing. Nor does it of a sync after a call that was not answered.
abbrev pub left_in : Calls → List ℕ → Type 0
left_in Unopened c = c ≡ []
left_in (Read' snapshot before piece) c = c ≡ seen_in before ++ piece.value.items
left_in (Overwritten' snapshot before at bytes done) c = (d : List ℕ) × left_in before d × Mixed at bytes.value.items d c
left_in (Extended' snapshot before at bytes done) c = at ≡ length (seen_in before) → (d : List ℕ) × left_in before d × Grown (length bytes.value.items) d c
left_in (Synced' snapshot before done) c = left_in before c × (done ≡ true → faults_in before ≡ 0 → c ≡ seen_in before)

-- how many calls there were
abbrev pub moment_in : Calls → ℕ
moment_in Unopened = 0
moment_in (Read' snapshot before piece) = 0
moment_in (Overwritten' snapshot before at bytes done) = 1 + moment_in before
moment_in (Extended' snapshot before at bytes done) = 1 + moment_in before
moment_in (Synced' snapshot before done) = 1 + moment_in before

-- what a crash at some moment from t on might have left
abbrev pub since_in : Calls → ℕ → List ℕ → Type 0
since_in Unopened t c = c ≡ []
since_in (Read' snapshot before piece) t c = c ≡ seen_in before ++ piece.value.items
since_in (Overwritten' snapshot before at bytes done) t c = left_in (Overwritten' snapshot before at bytes done) c ⊎ ((t ≤ moment_in before) × since_in before t c)
since_in (Extended' snapshot before at bytes done) t c = left_in (Extended' snapshot before at bytes done) c ⊎ ((t ≤ moment_in before) × since_in before t c)
since_in (Synced' snapshot before done) t c = left_in (Synced' snapshot before done) c ⊎ ((t ≤ moment_in before) × since_in before t c)

pub now_counts : (calls : Calls) (t : ℕ) (c : List ℕ) → left_in calls c → since_in calls t c
now_counts Unopened t c now = now
now_counts (Read' snapshot before piece) t c now = now
now_counts (Overwritten' snapshot before at bytes done) t c now = inl now
now_counts (Extended' snapshot before at bytes done) t c now = inl now
now_counts (Synced' snapshot before done) t c now = inl now

no_later : (n : ℕ) → 1 + n ≤ n → ⊥
no_later n le = omega (arith, le)

pub now_only : (calls : Calls) (c : List ℕ) → since_in calls (moment_in calls) c → left_in calls c
now_only Unopened c left = left
now_only (Read' snapshot before piece) c left = left
now_only (Overwritten' snapshot before at bytes done) c (inl now) = now
now_only (Overwritten' snapshot before at bytes done) c (inr past) = absurd (no_later (moment_in before) past.0)
now_only (Extended' snapshot before at bytes done) c (inl now) = now
now_only (Extended' snapshot before at bytes done) c (inr past) = absurd (no_later (moment_in before) past.0)
now_only (Synced' snapshot before done) c (inl now) = now
now_only (Synced' snapshot before done) c (inr past) = absurd (no_later (moment_in before) past.0)
