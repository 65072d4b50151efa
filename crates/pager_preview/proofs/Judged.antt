-- What the judgement of a commit makes of its preview. Assumes nothing.
use Rattle.std.proofs.Common.{◌≡◌, ℕ, ◌+◌, ◌*◌, ◌≤◌, List, length, sym, ap, ◌∙◌}
use Rattle.std.specs.Prelude.{Err, Ok}
use Rattle.refusal.specs.declared.Refusal.{Refusal}
use Rattle.header.specs.declared.DbHeader.{DbHeader}
use Rattle.frame.specs.Frame.{frame_size}
use Rattle.wal.specs.Recovery.{wal_area}
use Rattle.pager_state.specs.World.{World, staged_limit, page_limit, count_of}
use Rattle.pager_state.specs.Steps.{differing, commit_start}
use Rattle.pager_state.proofs.Begun.{commit-begun}
use Rattle.pager_judge.proofs.Judging as judging
use Rattle.pager_preview.specs.Preview.{preview_commit}
use Rattle.pager_preview.specs.Closed.{end_of}
use Rattle.pager_preview.specs.declared.Preview.{Preview}
use Rattle.pager_preview.proofs.Closed.{closed, refused}

module _ (g : List ℕ) (w : World) (h : DbHeader) where
  pub refused-shown : {r : Refusal} → Err r ≡ commit_start g w h → (salt : ℕ) → Err r ≡ preview_commit g w h salt
  refused-shown {r} j salt = sym (refused g w h r (judging.refused g w h j) salt)

  -- n pages differ
  module _ {n : ℕ} (j : Ok tt ≡ commit_start g w h) (e : n ≡ differing g w) where
    -- what finding the end asks
    pub begun-fits : (w.pager.wal.len + frame_size * (n + 1) ≤ wal_area) × (count_of h ≤ page_limit)
    begun-fits = let b = commit-begun g w h (judging.begun g w h j) in (rw e b.room, b.high)

    pub begun-shown : length w.pager.staged.pages ≡ staged_limit → {p : Preview} → p ≡ end_of n w.pager.wal w.pager.storage.len (count_of h)
        → (salt : ℕ) → Ok p ≡ preview_commit g w h salt
    begun-shown slots f salt = ap Ok (f ∙ rw e) ∙ sym (closed g w h salt slots (judging.begun g w h j))
