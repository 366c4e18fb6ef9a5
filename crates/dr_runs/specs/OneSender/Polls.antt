-- What a poll answers, by what it saw.
use Rattle.std.specs.Prelude.{ℕ, ◌==◌, ◌&&◌, nat_lt, if◌then◌else◌, List}
use Rattle.dr_meaning.specs.declared.command.Polled.{Polled}
use Rattle.dr_meaning.specs.declared.command.Polled.TheVariants.{Drained, Gating, Idle}
use Rattle.dr_runs.specs.Looks.{offered_by}

-- what a poll saw where one word tells of publications: closed, then the cursor, then the count of each upstream
pub record PollLooks : Type 0 where
  pub closed : ℕ
  pub cursor : ℕ
  pub counts : List ℕ

-- what the barrier offered: the least count that was seen or, without upstreams, the cursor
abbrev pub offer : PollLooks → ℕ
offer seen = offered_by seen.cursor seen.counts

-- the answer where the barrier offered nothing
abbrev pub nothing_offered : ℕ → ℕ → ℕ → Polled
nothing_offered closed cursor taken = if (closed == 1) && (cursor == taken) then Drained else if nat_lt taken cursor then Gating else Idle
