-- Staging, clearing, the clock and batches keep a store as the laws of steps ask. Assumes nothing.
use mathlib.Core.Path.{◌≡◌, refl, sym, subst, ◌∙◌}
use mathlib.Core.Bool.{Bool, true, false, not}
use mathlib.Core.List.{List}
use Prim.Native.Nat.{ℕ}
use native.Mathlib.Omega.{arith}
use lib.Dec.{leb}
use lib.ListN.{length, length-set}
use Rattle.std.specs.Prelude.{Option, None, Some}
use Rattle.le.specs.Choice.{pick, both}
use Rattle.le.specs.Le.{put}
use Rattle.page.specs.Page.{page_size}
use Rattle.refusal.specs.Refusal.{accepts}
use Rattle.refusal.specs.declared.Refusal.{Refusal}
use Rattle.refusal.specs.declared.Refusal.TheVariants as refusal
use Rattle.refusal.proofs.Judged.{met, first-none}
use Rattle.mvcc.specs.Seen.{heading_refusal}
use Rattle.wal.specs.Write.{with_frame, with_clock}
use Rattle.wal.specs.declared.Wal.{Wal}
use Rattle.pager_state.specs.World.{World, world, log_fine, busy, with_staged, with_wal, none_staged}
use Rattle.pager_state.specs.Overlay.{slot_of}
use Rattle.pager_state.specs.Staging.{stage_refusal, with_slot, staged_after, stage_page, clear_staged}
use Rattle.pager_state.specs.Batches.{batch_frame, append_refusal, append_batch, append_after}
use Rattle.pager_state.specs.Queries.{raised, observed_by, observe_clock}
use Rattle.pager_state.specs.declared.Opening.{Opening}
use Rattle.pager_state.specs.declared.Opening.TheVariants as opening
use Rattle.pager_state.specs.Steps.{on_store}
use Rattle.pager_state.specs.declared.Job.{Job}
use Rattle.pager_state.specs.declared.Job.TheVariants as job
use Rattle.pager_state.specs.declared.Pager.{Pager}
use Rattle.pager_state.specs.declared.Staged.{Staged}
use Rattle.pager_state.proofs.Sizes.{frame-len}
use Rattle.pager_state.proofs.Made.{PlacedOf, AsksOf, Made, every}
use Rattle.pager_state.proofs.Begun.{off, not-busy}

-- what is asked of a store goes by the table and the log's length
asks-same : (j : Job) (w v : World) → v.table ≡ w.table → v.pager.wal.len ≡ w.pager.wal.len → AsksOf every j w → AsksOf every j v
asks-same job.Idle w v t l a = rw (t, l) a
asks-same (job.Commit h salt page answer) w v t l a = (rw (t, l) a.0, (λ n e. refl, a.1.1))
asks-same (job.Checkpoint salt page answer) w v t l a = rw (t, l) a
asks-same (job.MainLength salt answer) w v t l a = rw (t, l) a
asks-same (job.LogLength salt answer) w v t l a = rw (t, l) a
asks-same (job.LogHeader salt answer) w v t l a = l ∙ a

-- ---- staging

staged-length : (b : Bool) (s : Staged) (i n : ℕ) → length (pick b (with_slot s i n) s).pages ≡ length s.pages
unfolding with_slot
staged-length true s i n = length-set s.pages i n
staged-length false s i n = refl

pub stage-made : (w : World) (g : List ℕ) (n : ℕ) (bytes : List ℕ) → Made w → Made (on_store w (stage_page w.pager g n bytes).pager)
unfolding staged_after
stage-made w g n bytes m =
    let s : Staged = w.pager.staged in
    let v : World = on_store w (stage_page w.pager g n bytes).pager in
    record {
      slots = staged-length (accepts (stage_refusal (busy w.pager) s g n bytes)) s (slot_of s n) n ∙ m.slots;
      asked = asks-same w.pager.job w v refl refl m.asked;
    }

cleared-made : (w : World) → Made w → (b : Bool) → busy w.pager ≡ b → Made (on_store w (clear_staged w.pager).pager)
unfolding clear_staged
cleared-made w m true e = rw e m
cleared-made w m false e =
    let v : World = on_store w (with_staged w.pager (none_staged w.pager.staged)) in
    rw e (record { slots = m.slots; asked = asks-same w.pager.job w v refl refl m.asked })

pub clear-made : (w : World) → Made w → Made (on_store w (clear_staged w.pager).pager)
clear-made w m = cleared-made w m (busy w.pager) refl

-- ---- the clock

clock-len : (v : Wal) (c : ℕ) → (with_clock v c).len ≡ v.len
unfolding with_clock
clock-len v c = refl

pick-len : (b : Bool) (v u : Wal) → u.len ≡ v.len → (pick b v u).len ≡ v.len
pick-len true v u e = refl
pick-len false v u e = e

raised-len : (v : Wal) (c : ℕ) → (raised v c).len ≡ v.len
unfolding raised
raised-len v c = pick-len (leb c v.header.clock_high_water) v (with_clock v c) (clock-len v c)

observed-len : (o : Opening) (v : Wal) (c : ℕ) → (observed_by o v c).len ≡ v.len
observed-len opening.Clean v c = raised-len v c
observed-len opening.Plain v c = raised-len v c
observed-len opening.ReadOnly v c = raised-len v c
observed-len opening.NoLog v c = refl

observed-made : (w : World) (c : ℕ) → Made w → (b : Bool) → busy w.pager ≡ b → Made (on_store w (observe_clock w.pager c).pager)
unfolding observe_clock
observed-made w c m true e = rw e m
observed-made w c m false e =
    let v : World = on_store w (with_wal w.pager (observed_by w.pager.opening w.pager.wal c)) in
    rw e (record { slots = m.slots; asked = asks-same w.pager.job w v refl (observed-len w.pager.opening w.pager.wal c) m.asked })

pub observe-made : (w : World) (c : ℕ) → Made w → Made (on_store w (observe_clock w.pager c).pager)
observe-made w c m = observed-made w c m (busy w.pager) refl

-- ---- batches: one is appended where nothing is part done

pub append-idle : (p : Pager) (l body : List ℕ) → append_refusal p l body ≡ None → p.job ≡ job.Idle
unfolding append_refusal
append-idle p l body e =
    let a = met (both (log_fine p.wal.len l) (leb (length body) page_size)) refusal.Area _ e in
    let b = met (not (busy p)) refusal.Busy _ (first-none (heading_refusal body) _ a.1).1 in
    not-busy p.job (off _ b.0)

longer-placed : (w : World) (l : List ℕ) → PlacedOf every w → PlacedOf every (world (with_wal w.pager (with_frame w.pager.wal 0)) w.table l w.main)
longer-placed w l p n h o i = omega (arith, p n h o i, frame-len w.pager.wal 0)

appended-made : (w : World) (body : List ℕ) → Made w → (v : Option Refusal) → append_refusal w.pager w.log body ≡ v
    → Made (world (append_batch w.pager w.log body).pager w.table (append_after w.pager w.log body) w.main)
unfolding append_batch append_after
appended-made w body m None e =
    let j : w.pager.job ≡ job.Idle = append-idle w.pager w.log body e in
    let l : List ℕ = put w.log w.pager.wal.len (batch_frame w.pager body) in
    let v : World = world (with_wal w.pager (with_frame w.pager.wal 0)) w.table l w.main in
    let p : PlacedOf every w = subst (λ (x : Job). AsksOf every x w) j m.asked in
    let q : AsksOf every w.pager.job v = subst (λ (x : Job). AsksOf every x v) (sym j) (longer-placed w l p) in
    rw e (record { slots = m.slots; asked = q })
appended-made w body m (Some r) e = rw e (record { slots = m.slots; asked = asks-same w.pager.job w w refl refl m.asked })

pub append-made : (w : World) (body : List ℕ) → Made w
    → Made (world (append_batch w.pager w.log body).pager w.table (append_after w.pager w.log body) w.main)
append-made w body m = appended-made w body m (append_refusal w.pager w.log body) refl
