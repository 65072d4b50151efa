-- What the judgement of a commit makes of the store that it is run on up to its commit frame. Assumes nothing.
use mathlib.Core.Path.{◌≡◌, ap, ◌∙◌}
use mathlib.Core.List.{List}
use Prim.Native.Nat.{ℕ, ◌+◌}
use lib.ListN.{length, take}
use Rattle.std.specs.Prelude.{Ok}
use Rattle.header.specs.declared.DbHeader.{DbHeader}
use Rattle.pager_state.specs.World.{World}
use Rattle.pager_state.specs.Pages.{differs}
use Rattle.pager_state.specs.Steps.{differing, commit_start, begin_commit, steps, commit_answer}
use Rattle.pager_state.proofs.Begun.{CommitBegun, commit-begun}
use Rattle.pager_state.proofs.Searches.{pages-same}
use Rattle.pager_differing.specs.Differing.{is_in}
use Rattle.pager_judge.proofs.Judging.{begun}
use Rattle.pager_judge.specs.Judged.{Begins}
use Rattle.pager_judge.specs.declared.Judged.{Judged}
use Rattle.pager_commit.specs.CommitStep.{commit_frames_world}
use Rattle.pager_commit.specs.Parts.{marked_pages, HasRoomFor, Begun, committing}

module _ (g : List ℕ) (w : World) (h : DbHeader) (j : Ok tt ≡ commit_start g w h) where
  pub begun-told : CommitBegun g w h
  begun-told = commit-begun g w h (begun g w h j)

  module _ (y : Judged) (k : Begins g w y) where
    abbrev marks : List ℕ
    marks = take w.pager.staged.count y.marks

    -- as many are marked as differ
    marked_all : marked_pages marks ≡ differing g w
    unfolding differing
    marked_all = ap length (pages-same (is_in marks) (differs g w) 0 (λ n a b. k.marked.same n b))

    -- their frames and the commit frame have room
    pub begun-room : HasRoomFor w.pager.wal marks
    begun-room = rw marked_all begun-told.room

    pub begun-marked : Begun g w marks
    begun-marked = record { right = begun-told.right; before = begun-told.before; marked = k.marked }

    pub run-begun : (salt : ℕ) {v : World} → v ≡ steps g (marked_pages marks + 1) (committing h salt y.pages 0 w)
        → (Ok y.pages ≡ commit_answer g w h) × (v ≡ commit_frames_world g w h salt)
    unfolding commit_answer commit_frames_world begin_commit
    run-begun salt f = let b = begun g w h j in (rw b (ap Ok k.pages), f ∙ rw (marked_all, k.pages, b))
