-- The end of a commit in closed form, as the code finds it: what it promises its caller. That it is the end which the definition of
-- specs/Preview.antt sees is a law (`closed`, proofs/Closed.antt).
use Rattle.std.specs.Prelude.{ℕ, ◌+◌, ◌*◌, ◌%◌, ◌^◌, true, false, nat_le}
use Rattle.le.specs.Choice.{pick}
use Rattle.page.specs.Page.{page_size}
use Rattle.frame.specs.Frame.{frame_size}
use Rattle.wal.specs.Header.{header_size}
use Rattle.wal.specs.declared.Wal.{Wal}
use Rattle.pager_state.specs.Commit.{checkpoint_frames}
use Rattle.pager_preview.specs.declared.Preview.{Preview}

-- the frames of n differing pages and the commit frame more; the count wraps, in made-up stores alone
abbrev pub frames_after : ℕ → Wal → ℕ
frames_after n v = (v.frame_count + (n + 1)) % 2 ^ 64

-- without a checkpoint: so many frames more, and the main file as it is
abbrev pub longer_by : ℕ → Wal → ℕ → Preview
longer_by n v main =
    record { answer = n; frame_count = frames_after n v; log_len = v.len + frame_size * (n + 1); main_len = main; checkpointed = false }

-- with one: a log of its header alone, and a main file of the new page count
abbrev pub emptied_to : ℕ → ℕ → Preview
emptied_to n count = record { answer = n; frame_count = 0; log_len = header_size; main_len = page_size * count; checkpointed = true }

unfoldable pub end_of : ℕ → Wal → ℕ → ℕ → Preview
end_of n v main count = pick (nat_le checkpoint_frames (frames_after n v)) (emptied_to n count) (longer_by n v main)
