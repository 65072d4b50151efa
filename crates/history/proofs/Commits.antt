-- A commit, begun or in one call. Assumes nothing.
use mathlib.Core.Path.{◌≡◌, refl, sym, ap, subst}
use mathlib.Core.Bool.{Bool, true, false}
use mathlib.Core.List.{List, []}
use Prim.Native.Nat.{ℕ, ◌^◌, ◌≤◌, ◌<◌}
use native.Mathlib.Omega.{arith}
use borrow.Author.Tests.{leb-true, le-leb, lt-ltb, not-false}
use lib.Dec.{leb}
use Rattle.std.specs.Prelude.{None}
use Rattle.le.proofs.Compare.{both_true}
use Rattle.header.specs.declared.DbHeader.{DbHeader}
use Rattle.pager_state.specs.World.{World, count_of, header_of, with_job}
use Rattle.pager_state.specs.Overlay.{is_staged, committed_in}
use Rattle.pager_state.specs.Pages.{differs_in, lacks}
use Rattle.pager_state.specs.Stores.{disk_of}
use Rattle.pager_state.specs.Steps.{differing, lacking, commit_refusal, begin_commit, todo, steps, most_steps, on_store, commit_world}
use Rattle.pager_state.specs.declared.Job.TheVariants as job
use Rattle.pager_state.specs.declared.Pager.{Pager}
use Rattle.pager_state.specs.declared.Staged.{Staged}
use Rattle.pager_state.proofs.Begun.{CommitBegun, commit-begun, begun-commit}
use Rattle.pager_state.proofs.Done.{todo-length}
use Rattle.pager_state.proofs.Searches.{pages-none, no-lowest}
use Rattle.history.specs.Model.{Model, model_header, model_stores}
use Rattle.history.specs.Calls.{Commit, BeginCommit, Words, stores_of, world_after}
use Rattle.history.specs.Run.{kept_after}
use Rattle.history.proofs.Opening.{re-model}
use Rattle.history.proofs.Rest.{Held, Resting, Committing, ForSome, Inv, held-disk}
use Rattle.history.proofs.Running.{cut-none, RunOk, run_ok}
use Rattle.history.proofs.Taken.{Taken, taken-by, at_rest}

-- ---- a commit

module _ (w : World) (g : List ℕ) (b : Model) (z : List ℕ) (i : Inv w g b z) (h : DbHeader) (salt : ℕ) (words : Words h) (small : salt < 2 ^ 32)
    (taken : commit_refusal g w h ≡ None) where
  starts : CommitBegun g w h
  starts = commit-begun g w h taken

  k : ForSome (Resting w g b) z
  k = at_rest w g b z i starts.idle

  version : (4 ≤ h.format_version) × (h.format_version ≤ 6)
  version =
      let d = both_true (leb 4 h.format_version) (leb h.format_version 6) starts.version in
      (leb-true _ _ d.0, leb-true _ _ d.1)

  abbrev v : World
  v = on_store w (with_job w.pager (job.Commit h salt 0 (differing g w)))

  pager-is : (begin_commit g w h salt).pager ≡ with_job w.pager (job.Commit h salt 0 (differing g w))
  pager-is = begun-commit g w h taken salt

  -- a page that joins is staged
  lacks-not : (s : Staged) (old new n : ℕ) → 1 ≤ n → old ≤ n → n < new → lacks s old new n ≡ false → is_staged s n ≡ true
  unfolding lacks
  lacks-not s old new n h1 h2 h3 e = not-false (is_staged s n) (rw (le-leb 1 n h1, le-leb old n h2, lt-ltb n new h3) at e)

  joins-ok : (n : ℕ) → 1 ≤ n → count_of b.header ≤ n → n < count_of h → is_staged w.pager.staged n ≡ true
  unfolding lacking
  joins-ok n h1 h2 h3 =
      let lack : ℕ → Bool = lacks w.pager.staged (count_of (header_of w.pager)) (count_of h) in
      let c : count_of (header_of w.pager) ≤ n = omega (arith, ap count_of k.it.held.header) in
      lacks-not w.pager.staged (count_of (header_of w.pager)) (count_of h) n h1 c h3
      (pages-none lack 0 (no-lowest lack 0 starts.joined) n (omega arith) (omega (arith, starts.high)))

  held-begun : Held v g (model_header h b) k.l k.S k.P k.mh
  held-begun =
      let q = k.it.held in
      record {
        on = re-model q.on (model_header h b) refl refl refl q.on.model.times;
        table_long = q.table_long;
        staging_long = q.staging_long;
        salt = q.salt;
        older = q.older;
        clock = q.clock;
        header = q.header;
        clean = q.clean;
        slots = q.slots;
        staged = q.staged;
        waiting = q.waiting;
      }

  committing : Committing h salt 0 v g (model_header h b) k.l k.S k.P k.mh
  unfolding differs_in committed_in differing
  committing =
      record {
        held = held-begun;
        table = k.it.table;
        given = refl;
        plain =
            record { count = words.count; root = words.root; free = words.freelist; low = version.0; high = version.1 };
        least = starts.low;
        most = starts.high;
        fits = small;
        unstaged = λ n hn s. k.it.loose n hn;
        done = λ n hn lt s. absurd (omega arith);
        joins = joins-ok;
        room = starts.room;
      }

  begun : Inv v g (model_header h b) z
  begun = record { l = k.l; S = k.S; P = k.P; mh = k.mh; it = committing; kept = k.kept }

  pub begin-commit-ok : Taken (BeginCommit h salt) w g b z
  unfolding stores_of world_after model_stores kept_after
  begin-commit-ok =
      record {
        after = subst (λ (p : Pager). Inv (on_store w p) g (model_header h b) z) (sym pager-is) begun;
        cut = cut-none [] (disk_of w) (model_header h b) z (held-disk held-begun k.kept);
      }

  pub run : RunOk g most_steps v (model_header h b) z (todo g v) (disk_of w)
  run = run_ok g most_steps v (model_header h b) z (todo g v) (disk_of w) refl refl (todo-length g v) begun

  pub stores-is : stores_of (Commit h salt) w g ≡ todo g v
  unfolding stores_of
  stores-is = ap (λ (p : Pager). todo g (on_store w p)) pager-is

  pub world_is : world_after (Commit h salt) w g ≡ steps g most_steps v
  unfolding world_after commit_world
  world_is = rw taken (ap (λ (p : Pager). steps g most_steps (on_store w p)) pager-is)

  pub commit-ok : Taken (Commit h salt) w g b z
  commit-ok = taken-by (Commit h salt) w g b z world_is stores-is run.after run.cut
