-- What staging a page answers and leaves, from its judgement alone.
use mathlib.Core.Path.{◌≡◌}
use mathlib.Core.Bool.{Bool}
use mathlib.Core.List.{List}
use Prim.Native.Nat.{ℕ}
use Rattle.std.specs.Prelude.{None, Some, Err, Ok, Result}
use Rattle.le.specs.Le.{put}
use Rattle.refusal.specs.declared.Refusal.{Refusal}
use Rattle.pager_state.specs.Overlay.{slot_of, staged_at}
use Rattle.pager_state.specs.Staging.{stage_refusal, stage_answer, with_slot, staged_after, staging_bytes}
use Rattle.pager_state.specs.declared.Staged.{Staged}

module _ (busy : Bool) (s : Staged) (g : List ℕ) (n : ℕ) (bytes : List ℕ) where
  abbrev pub Stages : Result (Unit {0}) Refusal → Staged → List ℕ → Type 0
  Stages x t m = (x ≡ stage_answer busy s g n bytes) × ((t ≡ staged_after busy s g n bytes) × (m ≡ staging_bytes busy s g n bytes))

  pub refuses : (r : Refusal) {x : (Result (Unit {0}) Refusal)} {t : Staged} → stage_refusal busy s g n bytes ≡ Some r → x ≡ Err r → t ≡ s → Stages x t g
  unfolding staged_after staging_bytes
  refuses r e f h = (rw (e, f), (rw (e, h), rw e))

  pub stages : {t : Staged} {m : List ℕ} → stage_refusal busy s g n bytes ≡ None → t ≡ with_slot s (slot_of s n) n → m ≡ put g (staged_at s n) bytes
      → Stages (Ok tt) t m
  unfolding staged_after staging_bytes
  stages e h k = (rw e, (rw (e, h), rw (e, k)))
