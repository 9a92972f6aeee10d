-- What the code keeps of a line that a block breaks off.
use Rattle.std.specs.Prelude.{ℕ, ◌+◌, ◌*◌, ◌-◌, min}
use Rattle.frames.specs.Frames.{longest_frame}

-- of an unfinished line one digit more is kept than the longest frame has, so that it stays too long
abbrev pub most_kept : ℕ
most_kept = 2 * longest_frame + 1

-- how much is kept of a line that the block breaks off
abbrev pub kept_count : ℕ → ℕ → ℕ
kept_count from end = min (end - from) most_kept
