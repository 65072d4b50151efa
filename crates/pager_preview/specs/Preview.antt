-- Document 02, P5: "Before committing, the desk wants to see the answer the call would give, the frame count, the log and main lengths
-- afterwards and whether it would fold. The preview must equal committing on a copy of all areas, refusals included, and alter nothing."
use Rattle.std.specs.Prelude.{Err, Ok, Result, ℕ, Bool, List, ◌==◌}
use Rattle.refusal.specs.declared.Refusal.{Refusal}
use Rattle.header.specs.declared.DbHeader.{DbHeader}
use Rattle.wal.specs.Header.{header_size}
use Rattle.pager_state.specs.World.{World}
use Rattle.pager_state.specs.Steps.{commit_answer, commit_world}
use Rattle.pager_preview.specs.declared.Preview.{Preview}

-- "whether it would fold": the log that the commit leaves is emptied, "log length 32"
abbrev pub emptied : World → Bool
emptied v = v.pager.wal.len == header_size

-- "the answer the call would give" is n; "the frame count, the log and main lengths afterwards" are those of the world v that it leaves
abbrev pub seen : ℕ → World → Preview
seen n v =
    record {
      answer = n;
      frame_count = v.pager.wal.frame_count;
      log_len = v.pager.wal.len;
      main_len = v.pager.storage.len;
      checkpointed = emptied v;
    }

-- "refusals included"
abbrev pub shown : Result ℕ Refusal → World → Result Preview Refusal
shown (Ok n) v = Ok (seen n v)
shown (Err r) v = Err r

-- "committing on a copy of all areas": what the commit itself answers, and the world that it leaves of w. The salt is the commit's
unfoldable pub preview_commit : List ℕ → World → DbHeader → ℕ → Result Preview Refusal
preview_commit g w h salt = shown (commit_answer g w h) (commit_world g w h salt)
