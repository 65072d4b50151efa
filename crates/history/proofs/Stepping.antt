-- One store of a commit or checkpoint: what is to be shown of it, and what a commit's frames share. Assumes nothing.
use mathlib.Core.Path.{◌≡◌, refl, sym, ap, ◌∙◌}
use mathlib.Core.Bool.{Bool, true, false, not}
use mathlib.Core.List.{List, [], ◌∷◌, ◌++◌}
use mathlib.Core.Logic.{◌⊎◌, inl, inr}
use Prim.Native.Nat.{ℕ, ◌+◌, ◌≤◌, ◌<◌}
use native.Mathlib.Omega.{arith}
use lib.ListN.{length, get_or, set}
use lib.Seq.{get_or-set_same, get_or-set_other}
use Rattle.std.specs.Prelude.{Option, None, Some}
use Rattle.le.specs.Choice.{both}
use Rattle.le.proofs.Tests.{eq-or-not}
use Rattle.le.proofs.Compare.{same-equal}
use Rattle.page.specs.Page.{page_size}
use Rattle.header.specs.declared.DbHeader.{DbHeader}
use Rattle.wal.specs.Header.{header_size}
use Rattle.wal.specs.Recovery.{chunk_at, page_of}
use Rattle.pager_state.specs.World.{World, page_limit}
use Rattle.pager_state.specs.Overlay.{is_staged, staged_bytes, on_main, entry, committed_bytes}
use Rattle.pager_state.specs.Opening.{place_from, has_page}
use Rattle.pager_state.specs.Pages.{differs_in, differs}
use Rattle.pager_state.specs.Stores.{disk_of, Act, Put, SetLen, kind_of, inside, stored, cut_store, size_of}
use Rattle.pager_state.specs.Commit as commit
use Rattle.pager_state.specs.Steps.{todo, advance, step_fine}
use Rattle.history.specs.Model.{Model, model_store}
use Rattle.history.specs.Run.{kept_by}
use Rattle.history.proofs.Frames.{place_same, place_other, or_give}
use Rattle.history.proofs.Disk.{DiskOk}
use Rattle.history.proofs.Rest.{Inv, world_page, committed-bytes, entry-main}

-- it has bytes at or behind the file's first 32: a cut behind all of them leaves it whole
abbrev pub Covers : Act → Type 0
Covers (Put k f at bs flush) = (header_size ≤ at + length bs) × (1 ≤ length bs)
Covers (SetLen k f n flush) = Unit {0}

-- the next store, and the store after it
pub record StepOk (g : List ℕ) (w : World) (b : Model) (z : List ℕ) : Type 0 where
  pub act : Act
  pub rest : List Act
  pub next : World
  pub todo_is : todo g w ≡ act ∷ rest
  pub next_is : advance g w ≡ next
  pub lies : inside act ≡ true
  pub covers : Covers act
  pub fine : step_fine g w ≡ true
  pub disk : disk_of next ≡ stored act (disk_of w)
  pub left : todo g next ≡ rest
  pub after : Inv next g (model_store [] (kind_of act) b) (kept_by act (stored act (disk_of w)) z)
  pub cut : (k : ℕ) → k < size_of act → DiskOk (cut_store act k (disk_of w)) b z

-- ---- the table with a frame entered

pub table-entered : (t : List ℕ) (fs : List (List ℕ)) (mh : DbHeader) (f : List ℕ) (n at : ℕ) → length t ≡ page_limit → n < page_limit → page_of f ≡ n → at ≡ chunk_at (length fs)
    → ((m : ℕ) → m < page_limit → get_or t m 0 ≡ entry (place_from m 0 fs) (has_page mh m))
    → (m : ℕ) → m < page_limit → get_or (commit.with_entry t n at) m 0 ≡ entry (place_from m 0 (fs ++ (f ∷ []))) (has_page mh m)
table-entered t fs mh f n at tl hn e a k m hm = go (eq-or-not m n)
  where
    go : (m ≡ n) ⊎ (m ≡ n → ⊥) → get_or (commit.with_entry t n at) m 0 ≡ entry (place_from m 0 (fs ++ (f ∷ []))) (has_page mh m)
    go (inl q) =
        let o : on_main t n ≡ has_page mh n = entry-main t n (place_from n 0 fs) (has_page mh n) (k n hn) in
        let s : get_or (set t n (entry at (on_main t n))) n 0 ≡ entry at (on_main t n) = get_or-set_same t n (entry at (on_main t n)) 0 (omega arith) in
        rw (q, s, o, a, place_same n fs f e)
    go (inr q) =
        let p : page_of f ≡ m → ⊥ = λ r. q (sym r ∙ e) in
        get_or-set_other t n m (entry at (on_main t n)) 0 q ∙ rw (place_other m fs f p) (k m hm)

-- ---- a staged page that does not differ is the log's or the main file's

some_of : (x : Option (List ℕ)) (y : List ℕ) → or_give x [] ≡ y → length y ≡ page_size → x ≡ Some y
some_of None y e h = let z : ◌≡◌ {A = ℕ} 0 page_size = ap length e ∙ h in absurd (omega arith)
some_of (Some a) y e h = ap {B = Option (List ℕ)} Some e

both_right : (a b : Bool) → both a b ≡ false → a ≡ true → b ≡ false
both_right true b e h = e
both_right false b e h = let z : ◌≡◌ {A = ℕ} 0 1 = cc in absurd (omega arith)

not-not : (a : Bool) → not a ≡ false → a ≡ true
not-not true e = refl
not-not false e = let z : ◌≡◌ {A = ℕ} 0 1 = cc in absurd (omega arith)

pub settled : (g : List ℕ) (w : World) (n : ℕ) → differs g w n ≡ false → is_staged w.pager.staged n ≡ true
    → length (staged_bytes w.pager.staged g n) ≡ page_size → world_page w n ≡ Some (staged_bytes w.pager.staged g n)
unfolding differs_in
settled g w n e s h =
    let x : List ℕ = staged_bytes w.pager.staged g n in
    let q = not-not _ (both_right (is_staged w.pager.staged n) _ e s) in
    some_of (world_page w n) x (sym (committed-bytes w n) ∙ sym (same-equal x (committed_bytes w n) q)) h
