-- No table that the calls make is refused by a commit's start. Assumes nothing.
use mathlib.Core.Path.{◌≡◌, refl, ap}
use mathlib.Core.Bool.{Bool, true, false, not}
use mathlib.Core.List.{List}
use Prim.Native.Nat.{ℕ, ◌+◌}
use native.Mathlib.Omega.{arith}
use lib.Dec.{leb}
use Rattle.std.specs.Prelude.{Option, None, Err}
use Rattle.refusal.specs.Refusal.{number, unless, number_of}
use Rattle.refusal.specs.declared.Refusal.{Refusal}
use Rattle.refusal.specs.declared.Refusal.TheVariants as refusal
use Rattle.header.specs.declared.DbHeader.{DbHeader}
use Rattle.pager_state.specs.World.{World, page_limit, busy, read_only}
use Rattle.pager_state.specs.Steps.{header_good, differing, lacking, room_for, table_fits, commit_fine, commit_refusal, commit_start, step_fine}
use Rattle.pager_state.specs.declared.Job.TheVariants as job
use Rattle.pager_state.proofs.Before.{staged-before}
use Rattle.pager_state.proofs.Begun.{not-busy}
use Rattle.pager_state.proofs.Made.{Made, ready-fine}
use Rattle.history.proofs.GuardNew.{made-framed}
use Rattle.history.proofs.GuardRefusals.{refused-told}

-- a judgement that is not 1 where neither of its parts is
later : (b : Bool) (r : Refusal) (rest : Option Refusal) → (number r ≡ 1 → ⊥) → (number_of rest ≡ 1 → ⊥) → number_of (unless b r rest) ≡ 1 → ⊥
later true r rest n m e = m e
later false r rest n m e = n e

module _ (g : List ℕ) (w : World) (h : DbHeader) (k : Made w) (f : step_fine g w ≡ true) where
  -- where nothing is part done its places lie inside the log
  fits : w.pager.job ≡ job.Idle → table_fits w ≡ true
  fits e =
      let t = (ready-fine g w f).0.table in
      staged-before w.table w.pager.wal.len w.pager.staged (λ n l o i. (made-framed w k).1 e n (omega (arith, t, l)) i)

  -- so refusal 1 does not apply
  table-fine : (b : Bool) → busy w.pager ≡ b → commit_fine g w ≡ true
  table-fine true e = rw (f, e)
  table-fine false e = rw (f, e, fits (not-busy w.pager.job e))

  area-not : number_of (commit_refusal g w h) ≡ 1 → ⊥
  unfolding commit_refusal
  area-not e =
      later (not (busy w.pager)) refusal.Busy _ (λ q. omega arith)
      (later (not (read_only w.pager)) refusal.ReadOnly _ (λ q. omega arith)
      (later (header_good h) refusal.NewHeader _ (λ q. omega arith)
      (later (leb page_limit (lacking w h)) (refusal.Joining (lacking w h)) _ (λ q. omega arith)
      (later (room_for w (differing g w + 1)) refusal.LogFull None (λ q. omega arith) (λ q. omega arith)))))
      (rw (table-fine (busy w.pager) refl) at e)

  pub table_taken : commit_start g w h ≡ Err refusal.Area → ⊥
  table_taken e = area-not (ap number_of (refused-told g w h refusal.Area e))
