-- Staging a page. Assumes nothing.
use mathlib.Core.Path.{◌≡◌, refl, sym, ap, ◌∙◌, subst}
use mathlib.Core.Bool.{not}
use mathlib.Core.List.{List, []}
use Prim.Native.Nat.{ℕ, ◌<◌}
use native.Mathlib.Omega.{arith}
use borrow.Author.Tests.{eqb-true, ltb-true}
use lib.Dec.{ltb, eqb}
use lib.ListN.{length}
use Rattle.std.specs.Prelude.{Some, None}
use Rattle.le.specs.Choice.{pick, both}
use Rattle.le.specs.Le.{put}
use Rattle.le.proofs.Compare.{both_true}
use Rattle.le.proofs.Stores.{length-put}
use Rattle.page.specs.Page.{page_size}
use Rattle.refusal.specs.declared.Refusal.TheVariants as refusal
use Rattle.refusal.proofs.Rows.{accepted}
use Rattle.refusal.proofs.Judged.{met}
use Rattle.pager_state.specs.World.{World, staged_limit, page_limit, staging_fine, busy, with_staged}
use Rattle.pager_state.specs.Overlay.{slot_of, staged_at}
use Rattle.pager_state.specs.Staging.{stage_refusal, with_slot, staged_after, staging_bytes, stage_after}
use Rattle.pager_state.specs.Stores.{disk_of}
use Rattle.pager_state.specs.Steps.{on_store}
use Rattle.pager_state.specs.declared.Job.TheVariants as job
use Rattle.pager_state.specs.declared.Staged.{Staged}
use Rattle.pager_state.proofs.Begun.{off, not-busy}
use Rattle.history.specs.Model.{Model, model_stage, model_stores}
use Rattle.history.specs.Calls.{Stage, refused_by, stores_of, world_after}
use Rattle.history.specs.Run.{kept_after}
use Rattle.history.proofs.Slots.{slotted-slots, staged-anew}
use Rattle.history.proofs.Opening.{re-model}
use Rattle.history.proofs.Rest.{Resting, ForSome, Inv, held-disk}
use Rattle.history.proofs.Running.{cut-none}
use Rattle.history.proofs.Taken.{Taken, at_rest, rest-inv}

-- ---- staging

module _ (w : World) (g : List ℕ) (b : Model) (z : List ℕ) (i : Inv w g b z) (n : ℕ) (bytes : List ℕ) (ok : refused_by (Stage n bytes) w g ≡ 0) where
  taken : stage_refusal (busy w.pager) w.pager.staged g n bytes ≡ None
  unfolding refused_by
  taken = accepted _ ok

  record Staging : Type 0 where
    long : length bytes ≡ page_size
    idle : w.pager.job ≡ job.Idle
    page : n < page_limit
    low : slot_of w.pager.staged n < staged_limit

  staging-ok : Staging
  unfolding stage_refusal
  staging-ok =
      let a = met (both (staging_fine g) (eqb (length bytes) page_size)) refusal.Area _ taken in
      let c = met (not (busy w.pager)) refusal.Busy _ a.1 in
      let d = met (ltb n page_limit) refusal.Page _ c.1 in
      let f = met (ltb (slot_of w.pager.staged n) staged_limit) refusal.Staging None d.1 in
      record {
        long = eqb-true _ _ (both_true (staging_fine g) (eqb (length bytes) page_size) a.0).1;
        idle = not-busy w.pager.job (off _ c.0);
        page = ltb-true _ _ d.0;
        low = ltb-true _ _ f.0;
      }

  abbrev slots' : Staged
  slots' = with_slot w.pager.staged (slot_of w.pager.staged n) n

  abbrev g' : List ℕ
  g' = put g (staged_at w.pager.staged n) bytes

  abbrev v : World
  v = on_store w (with_staged w.pager slots')

  slots-is : staged_after (busy w.pager) w.pager.staged g n bytes ≡ slots'
  unfolding staged_after
  slots-is = rw taken

  staging-is : stage_after w.pager g n bytes ≡ g'
  unfolding staging_bytes
  staging-is = rw taken

  k : ForSome (Resting w g b) z
  k = at_rest w g b z i staging-ok.idle

  resting : Resting v g' (model_stage n bytes b) k.l k.S k.P k.mh
  resting =
      let q = k.it.held in
      let low = staging-ok.low in
      let long = staging-ok.long in
      record {
        held =
            record {
              on = re-model q.on (model_stage n bytes b) refl refl refl q.on.model.times;
              table_long = q.table_long;
              staging_long = length-put g (staged_at w.pager.staged n) bytes (omega (arith, low, long, q.staging_long)) ∙ q.staging_long;
              salt = q.salt;
              older = q.older;
              clock = q.clock;
              header = q.header;
              clean = q.clean;
              slots = slotted-slots w.pager.staged q.slots n low staging-ok.page;
              staged = λ m. staged-anew w.pager.staged q.slots n low g bytes q.staging_long long m ∙ ap (pick (eqb m n) (Some bytes)) (q.staged m);
              waiting = q.waiting;
            };
        table = k.it.table;
        loose = k.it.loose;
      }

  after-ok : Inv v g' (model_stage n bytes b) z
  after-ok = rest-inv v g' (model_stage n bytes b) z staging-ok.idle (record { l = k.l; S = k.S; P = k.P; mh = k.mh; it = resting; kept = k.kept })

  pub stage-ok : Taken (Stage n bytes) w g b z
  unfolding stores_of world_after model_stores kept_after
  stage-ok =
      record {
        after = subst (λ (s : Staged). Inv (on_store w (with_staged w.pager s)) (stage_after w.pager g n bytes) (model_stage n bytes b) z) (sym slots-is)
            (subst (λ (h : List ℕ). Inv v h (model_stage n bytes b) z) (sym staging-is) after-ok);
        cut = cut-none [] (disk_of w) (model_stage n bytes b) z (held-disk resting.held k.kept);
      }
