-- A checkpoint that is begun, run to its end: the log has its header alone, and the pages that it had are in the main file. Assumes nothing.
use mathlib.Core.Path.{◌≡◌, refl, sym, ap, ◌∙◌}
use mathlib.Core.Bool.{Bool, true, false, not}
use mathlib.Core.List.{List, [], ◌∷◌}
use mathlib.Core.Logic.{◌⊎◌, inl, inr}
use Prim.Native.Nat.{ℕ, zero, suc, ◌+◌, ◌-◌, ◌*◌, ◌/◌, ◌%◌, ◌≤◌, ◌<◌}
use native.Mathlib.Nat.{suc-add}
use native.Mathlib.Omega.{arith}
use borrow.Author.Tests.{le-leb, lt-leb, lt-ltb, leb-true, ltb-true, eqb-true, eqb-false, ne_eqb, not-true}
use lib.Dec.{leb, ltb, eqb}
use lib.ListN.{length, drop, replicate, get_or, length-take, length-drop}
use Rattle.std.specs.Prelude.{Option, None, Some, Err, Ok}
use Rattle.le.specs.Choice.{pick, both}
use Rattle.le.proofs.Compare.{no_test, both_true}
use Rattle.le.proofs.Tests.{le-or-lt, eq-or-not}
use Rattle.page.specs.Page.{page_size}
use Rattle.refusal.specs.Refusal.{accepts, answered}
use Rattle.refusal.specs.declared.Refusal.{Refusal}
use Rattle.refusal.proofs.Judged.{accepts-none}
use Rattle.header.specs.Header.{encode_header}
use Rattle.header.proofs.Encoding.{length-encode_header}
use Rattle.wal.specs.Write.{empty_wal, truncated_header}
use Rattle.pager_state.specs.World.{World, main_area_size, staged_limit, page_limit, count_of, header_of, with_job}
use Rattle.pager_state.specs.Overlay.{page_from, frame_of, in_log, on_main, log_bytes}
use Rattle.pager_state.specs.Stores.{File, disk_of, Act, grown, put_file, len_file}
use Rattle.pager_state.specs.Pages.{pages_from, in_checkpoint_by, in_checkpoint}
use Rattle.pager_state.specs.Checkpoint.{checkpointed_from, page_stored, main_header_stored, main_length_stored, log_length_stored, checkpointed, pages_todo, checkpoint_todo, checkpoint_advance, pages_advance}
use Rattle.pager_state.specs.Commit.{commit_todo, commit_advance}
use Rattle.pager_state.specs.Steps.{nothing_to_checkpoint, checkpoint_refusal, checkpoint_start, checkpoint_begins, checkpoint_count, begin_checkpoint, todo, done, stepped, steps, most_steps, on_store, checkpoint_answer, checkpoint_world}
use Rattle.pager_state.specs.declared.Job.{Job}
use Rattle.pager_state.specs.declared.Job.TheVariants as job
use Rattle.pager_state.specs.declared.CheckpointStart.TheVariants as checkpoint
use Rattle.pager_state.proofs.Searches.{First, first, pages-none, pages-length}
use Rattle.pager_state.proofs.Stored.{Lies, AllInside, length-grown, put-lies}
use Rattle.pager_state.proofs.Entries.{part-before, checkpointed-none}
use Rattle.pager_state.proofs.Inside.{checkpoint-stores-inside}
use Rattle.pager_state.proofs.Made.{Fine, ReadyOf, ready-fine}
use Rattle.pager_state.proofs.Next.{todo-by, advance-by}
use Rattle.pager_state.proofs.Steps.{step_keeps}
use Rattle.pager_state.proofs.Runs.{steps-add, idle-stays}
use Rattle.pager_state.proofs.Begun.{off, begun-checkpoint, checkpoint-ready}
use Rattle.history.proofs.Files.{page-other, page-same}
use Rattle.history.specs.Guards.{FramesInside, Empty, CheckpointedTo}

-- ---- pages of a file that lies in the main area

-- a whole page of it
pub record Has (n : ℕ) (x : List ℕ) (f : File) : Type 0 where
  pub bytes : page_from (page_size * n) f.area ≡ x
  pub inside : page_size * suc n ≤ f.len

module _ (f : File) (s : Lies main_area_size f) where
  -- growing leaves it
  has-grown : (n m : ℕ) (x : List ℕ) → Has n x f → page_from (page_size * n) (grown f m) ≡ x
  unfolding grown
  has-grown n m x h =
      part-before f.area f.len (replicate (m - f.len) 0) (page_size * n) page_size (omega (arith, h.inside)) (omega (arith, s.area, s.len)) ∙ h.bytes

  module _ (i : ℕ) (xs : List ℕ) (l : length xs ≡ page_size) (b : i < page_limit) where
    grown-long : length (grown f (page_size * i)) ≡ main_area_size
    grown-long = length-grown f (page_size * i) (omega (arith, s.area, s.len)) (omega (arith, s.area)) ∙ s.area

    put-own : Has i xs (put_file f (page_size * i) xs)
    unfolding put_file
    put-own = record { bytes = page-same (grown f (page_size * i)) i xs (omega arith) (omega (arith, grown-long)) l; inside = omega arith }

    put_other : (n : ℕ) (x : List ℕ) → (n ≡ i → ⊥) → Has n x f → Has n x (put_file f (page_size * i) xs)
    unfolding put_file
    put_other n x ne h =
        record {
          bytes = page-other (grown f (page_size * i)) i xs (omega arith) (omega (arith, grown-long)) n ne ∙ has-grown n (page_size * i) x h;
          inside = omega (arith, h.inside);
        }

-- ---- the worlds of a checkpoint

module _ (g : List ℕ) (salt answer : ℕ) where
  -- after these pages
  unfoldable pub pages_world : List ℕ → World → World
  pages_world [] w = w
  pages_world (n ∷ ns) w = pages_world ns (page_stored salt answer n w)

  -- and after the four stores behind them
  abbrev pub end_world : World → World
  end_world w = checkpointed salt (log_length_stored salt answer (main_length_stored salt answer (main_header_stored salt answer w)))

  -- ---- one step

  module _ {P : ℕ → Bool} (w : World) (r : ReadyOf P g w) where
    checkpoint-step : (j : Job) (a : Act) (rest : List Act) → w.pager.job ≡ j → todo g w ≡ checkpoint_todo j w → checkpoint_todo j w ≡ a ∷ rest
        → stepped g w ≡ checkpoint_advance j (commit_advance g j w)
    unfolding stepped done
    checkpoint-step j a rest e t f =
        let i : AllInside (a ∷ rest) = rw f at (checkpoint-stores-inside j w (ready-fine g w r.right).0.count) in
        rw (r.right, t, f, i.0) (advance-by g w j e)

    page-step : (p n : ℕ) (ns : List ℕ) → w.pager.job ≡ job.Checkpoint salt p answer → pages_from (in_checkpoint w) p ≡ n ∷ ns → stepped g w ≡ page_stored salt answer n w
    unfolding commit_todo commit_advance checkpoint_todo checkpoint_advance pages_todo
    page-step p n ns j e =
        let k : Job = job.Checkpoint salt p answer in
        checkpoint-step k _ _ j (todo-by g w k j) (ap (λ (l : List ℕ). pages_todo salt answer l w) e) ∙ ap (λ (l : List ℕ). pages_advance salt answer l w) e

    header-step : (p : ℕ) → w.pager.job ≡ job.Checkpoint salt p answer → pages_from (in_checkpoint w) p ≡ [] → stepped g w ≡ main_header_stored salt answer w
    unfolding commit_todo commit_advance checkpoint_todo checkpoint_advance pages_todo
    header-step p j e =
        let k : Job = job.Checkpoint salt p answer in
        checkpoint-step k _ _ j (todo-by g w k j) (ap (λ (l : List ℕ). pages_todo salt answer l w) e) ∙ ap (λ (l : List ℕ). pages_advance salt answer l w) e

    length-step : w.pager.job ≡ job.MainLength salt answer → stepped g w ≡ main_length_stored salt answer w
    unfolding commit_todo commit_advance checkpoint_todo checkpoint_advance
    length-step j = checkpoint-step (job.MainLength salt answer) _ _ j (todo-by g w (job.MainLength salt answer) j) refl

    empty-step : w.pager.job ≡ job.LogLength salt answer → stepped g w ≡ log_length_stored salt answer w
    unfolding commit_todo commit_advance checkpoint_todo checkpoint_advance
    empty-step j = checkpoint-step (job.LogLength salt answer) _ _ j (todo-by g w (job.LogLength salt answer) j) refl

    last_step : w.pager.job ≡ job.LogHeader salt answer → stepped g w ≡ checkpointed salt w
    unfolding commit_todo commit_advance checkpoint_todo checkpoint_advance
    last_step j = checkpoint-step (job.LogHeader salt answer) _ _ j (todo-by g w (job.LogHeader salt answer) j) refl

  -- ---- all of them

  next-ready : {P : ℕ → Bool} (w v : World) → stepped g w ≡ v → ReadyOf P g w → ReadyOf P g v
  next-ready w v e r = rw e at (step_keeps g w r)

  end-run : {P : ℕ → Bool} (w : World) (p : ℕ) → w.pager.job ≡ job.Checkpoint salt p answer → pages_from (in_checkpoint w) p ≡ [] → ReadyOf P g w → steps g 4 w ≡ end_world w
  unfolding steps main_header_stored main_length_stored log_length_stored
  end-run {P} w p j e r =
      let w₁ : World = main_header_stored salt answer w in
      let w₂ : World = main_length_stored salt answer w₁ in
      let w₃ : World = log_length_stored salt answer w₂ in
      let a : stepped g w ≡ w₁ = header-step w r p j e in
      let s : ReadyOf P g w₁ = next-ready w w₁ a r in
      let b : stepped g w₁ ≡ w₂ = length-step w₁ s refl in
      let t : ReadyOf P g w₂ = next-ready w₁ w₂ b s in
      let c : stepped g w₂ ≡ w₃ = empty-step w₂ t refl in
      let u : ReadyOf P g w₃ = next-ready w₂ w₃ c t in
      rw (a, b, c) (last_step w₃ u refl)

  paged-job : (n : ℕ) (w : World) → (page_stored salt answer n w).pager.job ≡ job.Checkpoint salt (suc n) answer
  unfolding page_stored
  paged-job n w = refl

  paged-left : (w : World) (p n : ℕ) (ns : List ℕ) → pages_from (in_checkpoint w) p ≡ n ∷ ns → pages_from (in_checkpoint (page_stored salt answer n w)) (suc n) ≡ ns
  unfolding page_stored in_checkpoint_by
  paged-left w p n ns e =
      let s = (first (in_checkpoint w) p n ns e).split in
      cc

  one_more : (k : ℕ) (w v u : World) → stepped g w ≡ v → steps g k v ≡ u → steps g (suc k) w ≡ u
  unfolding steps
  one_more k w v u a e = ap (steps g k) a ∙ e

  pages-run : {P : ℕ → Bool} (l : List ℕ) (w : World) (p : ℕ) → w.pager.job ≡ job.Checkpoint salt p answer → pages_from (in_checkpoint w) p ≡ l → ReadyOf P g w
      → steps g (length l + 4) w ≡ end_world (pages_world l w)
  unfolding pages_world
  pages-run [] w p j e r = end-run w p j e r
  pages-run (n ∷ ns) w p j e r =
      let v : World = page_stored salt answer n w in
      let a : stepped g w ≡ v = page-step w r p n ns j e in
      rw suc-add (one_more (length ns + 4) w v (end_world (pages_world ns v)) a (pages-run ns v (suc n) (paged-job n w) (paged-left w p n ns e) (next-ready w v a r)))

  -- in as many steps or more
  pub checkpoint-run : {P : ℕ → Bool} (k : ℕ) (w : World) → w.pager.job ≡ job.Checkpoint salt 0 answer → ReadyOf P g w → length (pages_from (in_checkpoint w) 0) + 4 ≤ k
      → steps g k w ≡ end_world (pages_world (pages_from (in_checkpoint w) 0) w)
  unfolding checkpointed
  checkpoint-run k w j r h =
      let l : List ℕ = pages_from (in_checkpoint w) 0 in
      let e : length l + 4 + (k - (length l + 4)) ≡ k = omega arith in
      ap (λ (n : ℕ). steps g n w) (sym e) ∙ steps-add g (length l + 4) (k - (length l + 4)) w
      ∙ ap (steps g (k - (length l + 4))) (pages-run l w 0 j refl r) ∙ idle-stays g (k - (length l + 4)) (end_world (pages_world l w)) refl

  -- ---- what the pages' stores leave

  abbrev main_of : World → File
  main_of w = (disk_of w).main

  pub record Paged (w v : World) : Type 0 where
    pub table : v.table ≡ w.table
    pub log : v.log ≡ w.log
    pub wal : v.pager.wal ≡ w.pager.wal
    pub staged : v.pager.staged ≡ w.pager.staged
    pub header : header_of v.pager ≡ header_of w.pager
    pub lies : Lies main_area_size (main_of v)

  -- every frame that the table names has a whole page
  abbrev Wholes : World → Type 0
  Wholes w = (n : ℕ) → n < page_limit → in_log w.table n ≡ true → length (log_bytes w.table w.log n) ≡ page_size

  checkpoints-so : (w : World) (n : ℕ) → in_checkpoint w n ≡ true → (1 ≤ n) × (n < count_of (header_of w.pager)) × (in_log w.table n ≡ true)
  unfolding in_checkpoint_by
  checkpoints-so w n e =
      let a = both_true (leb 1 n) _ e in
      let b = both_true (ltb n (count_of (header_of w.pager))) (in_log w.table n) a.1 in
      (leb-true 1 n a.0, ltb-true _ _ b.0, b.1)

  module _ (w : World) (s : Lies main_area_size (main_of w)) (n : ℕ) (b : n < page_limit) (l : length (log_bytes w.table w.log n) ≡ page_size) where
    paged-main : main_of (page_stored salt answer n w) ≡ put_file (main_of w) (page_size * n) (log_bytes w.table w.log n)
    unfolding page_stored
    paged-main = refl

    paged-lies : Lies main_area_size (main_of (page_stored salt answer n w))
    paged-lies = rw paged-main (put-lies main_area_size (main_of w) (page_size * n) (log_bytes w.table w.log n) (omega arith) s)

    paged-own : Has n (log_bytes w.table w.log n) (main_of (page_stored salt answer n w))
    paged-own = rw paged-main (put-own (main_of w) s n (log_bytes w.table w.log n) l b)

    paged-other : (m : ℕ) (x : List ℕ) → (m ≡ n → ⊥) → Has m x (main_of w) → Has m x (main_of (page_stored salt answer n w))
    paged-other m x ne h = rw paged-main (put_other (main_of w) s n (log_bytes w.table w.log n) l b m x ne h)

  -- the world behind the first page
  module _ (w : World) (p n : ℕ) (ns : List ℕ) (e : pages_from (in_checkpoint w) p ≡ n ∷ ns) (k : Wholes w) (s : Lies main_area_size (main_of w)) where
    at : First (in_checkpoint w) p n
    at = first (in_checkpoint w) p n ns e

    whole : length (log_bytes w.table w.log n) ≡ page_size
    whole = k n at.below (checkpoints-so w n at.holds).2

    behind-lies : Lies main_area_size (main_of (page_stored salt answer n w))
    behind-lies = paged-lies w s n at.below whole

    behind-own : Has n (log_bytes w.table w.log n) (main_of (page_stored salt answer n w))
    behind-own = paged-own w s n at.below whole

    behind-other : (m : ℕ) (x : List ℕ) → (m < p) ⊎ (in_checkpoint w m ≡ false) → Has m x (main_of w) → Has m x (main_of (page_stored salt answer n w))
    behind-other m x (inl h) y = paged-other w s n at.below whole m x (λ z. omega (arith, at.from, h, z)) y
    behind-other m x (inr h) y = paged-other w s n at.below whole m x (λ z. no_test (sym h ∙ ap (in_checkpoint w) z ∙ at.holds)) y

    behind-wholes : Wholes (page_stored salt answer n w)
    unfolding page_stored
    behind-wholes = k

  -- they leave table, log and header
  pages-keep : (l : List ℕ) (w : World) (p : ℕ) → pages_from (in_checkpoint w) p ≡ l → Wholes w → Lies main_area_size (main_of w) → Paged w (pages_world l w)
  unfolding pages_world page_stored
  pages-keep [] w p e k s = record { table = refl; log = refl; wal = refl; staged = refl; header = refl; lies = s }
  pages-keep (n ∷ ns) w p e k s =
      let v : World = page_stored salt answer n w in
      let i = pages-keep ns v (suc n) (paged-left w p n ns e) (behind-wholes w p n ns e k s) (behind-lies w p n ns e k s) in
      record { table = i.table; log = i.log; wal = i.wal; staged = i.staged; header = i.header; lies = i.lies }

  -- every page that they are not of stays
  pages-kept : (l : List ℕ) (w : World) (p : ℕ) → pages_from (in_checkpoint w) p ≡ l → Wholes w → Lies main_area_size (main_of w)
      → (m : ℕ) (x : List ℕ) → (m < p) ⊎ (in_checkpoint w m ≡ false) → Has m x (main_of w) → Has m x (main_of (pages_world l w))
  unfolding pages_world page_stored in_checkpoint_by
  pages-kept [] w p e k s m x h y = y
  pages-kept (n ∷ ns) w p e k s m x h y =
      pages-kept ns (page_stored salt answer n w) (suc n) (paged-left w p n ns e) (behind-wholes w p n ns e k s) (behind-lies w p n ns e k s) m x
      (still h) (behind-other w p n ns e k s m x h y)
    where
      still : (m < p) ⊎ (in_checkpoint w m ≡ false) → (m < suc n) ⊎ (in_checkpoint (page_stored salt answer n w) m ≡ false)
      still (inl z) = inl (omega (arith, (first (in_checkpoint w) p n ns e).from))
      still (inr z) = inr z

  -- and each of theirs is there
  pages-brought : (l : List ℕ) (w : World) (p : ℕ) → pages_from (in_checkpoint w) p ≡ l → Wholes w → Lies main_area_size (main_of w)
      → (m : ℕ) → p ≤ m → m < page_limit → in_checkpoint w m ≡ true → Has m (log_bytes w.table w.log m) (main_of (pages_world l w))
  unfolding pages_world page_stored in_checkpoint_by
  pages-brought [] w p e k s m a b t = no_test (sym (pages-none (in_checkpoint w) p e m a b) ∙ t)
  pages-brought (n ∷ ns) w p e k s m a b t =
      let v : World = page_stored salt answer n w in
      let x = paged-left w p n ns e in
      let y = behind-wholes w p n ns e k s in
      let z = behind-lies w p n ns e k s in
      go (eq-or-not m n) (pages-kept ns v (suc n) x y z n (log_bytes w.table w.log n) (inl (omega arith)) (behind-own w p n ns e k s))
      (λ h. pages-brought ns v (suc n) x y z m h b t)
    where
      go : (m ≡ n) ⊎ (m ≡ n → ⊥) → Has n (log_bytes w.table w.log n) (main_of (pages_world ns (page_stored salt answer n w)))
          → (suc n ≤ m → Has m (log_bytes w.table w.log m) (main_of (pages_world ns (page_stored salt answer n w))))
          → Has m (log_bytes w.table w.log m) (main_of (pages_world ns (page_stored salt answer n w)))
      go (inl q) own later = rw q own
      go (inr q) own later = later (above (le-or-lt m n))
        where
          above : (m ≤ n) ⊎ (n < m) → suc n ≤ m
          above (inl h) = no_test (sym ((first (in_checkpoint w) p n ns e).before m a (lower (le-or-lt n m))) ∙ t)
            where
              lower : (n ≤ m) ⊎ (m < n) → m < n
              lower (inl i) = absurd (q (omega arith))
              lower (inr i) = i
          above (inr h) = h

  -- ---- and the stores behind them

  module _ (v : World) where
    headed-main : main_of (main_header_stored salt answer v) ≡ put_file (main_of v) (page_size * 0) (encode_header (header_of v.pager))
    unfolding main_header_stored
    headed-main = refl

    headed-lies : Lies main_area_size (main_of v) → Lies main_area_size (main_of (main_header_stored salt answer v))
    headed-lies s =
        let l = length-encode_header (header_of v.pager) in
        rw headed-main (put-lies main_area_size (main_of v) (page_size * 0) (encode_header (header_of v.pager)) (omega arith) s)

    end-main : (end_world v).main ≡ grown (main_of (main_header_stored salt answer v)) (page_size * count_of (header_of v.pager))
    unfolding checkpointed log_length_stored main_length_stored main_header_stored len_file
    end-main = refl

    end-page : Lies main_area_size (main_of v) → (n : ℕ) (x : List ℕ) → 1 ≤ n → Has n x (main_of v) → page_from (page_size * n) (end_world v).main ≡ x
    end-page s n x a h =
        let l = length-encode_header (header_of v.pager) in
        let y : Has n x (main_of (main_header_stored salt answer v)) =
        rw headed-main (put_other (main_of v) s 0 (encode_header (header_of v.pager)) l (omega arith) n x (λ e. omega arith) h) in
        rw end-main (has-grown (main_of (main_header_stored salt answer v)) (headed-lies s) n (page_size * count_of (header_of v.pager)) x y)

    -- the log has its header alone
    pub end_empty : Empty (end_world v)
    unfolding checkpointed log_length_stored main_length_stored main_header_stored empty_wal
    end_empty = record { rests = refl; log_file = refl; frames = refl; none = checkpointed-none (count_of (header_of v.pager)) 0 v.table }

-- ---- the table

-- a page from 1 below the count that is somewhere is then in the main file
checkpointed-there : (count k : ℕ) (t : List ℕ) (n : ℕ) → 1 ≤ k + n → k + n < count → (get_or t n 0 ≡ 0 → ⊥) → get_or (checkpointed_from count k t) n 0 ≡ 1
unfolding checkpointed_from
checkpointed-there count k [] n a b h = absurd (h refl)
checkpointed-there count k (x ∷ xs) zero a b h =
    rw (ne_eqb k 0 (λ e. omega arith), lt-leb count k (omega arith), ne_eqb x 0 h)
checkpointed-there count k (x ∷ xs) (suc n) a b h = checkpointed-there count (suc k) xs n (omega arith) (omega arith) h

checkpointed-main : (count : ℕ) (t : List ℕ) (n : ℕ) → 1 ≤ n → n < count → (get_or t n 0 ≡ 0 → ⊥) → on_main (checkpointed_from count 0 t) n ≡ true
unfolding on_main
checkpointed-main count t n a b h = rw (checkpointed-there count 0 t n (omega arith) (omega arith) h)

log-entry : (t : List ℕ) (n : ℕ) → in_log t n ≡ true → get_or t n 0 ≡ 0 → ⊥
unfolding in_log frame_of
log-entry t n e z =
    let k = eqb-false (get_or t n 0 / 2) 0 (not-true (eqb (get_or t n 0 / 2) 0) e) in
    k (omega arith)

main-entry : (t : List ℕ) (n : ℕ) → on_main t n ≡ true → get_or t n 0 ≡ 0 → ⊥
unfolding on_main
main-entry t n e z =
    let k = eqb-true (get_or t n 0 % 2) 1 e in
    omega arith

-- ---- a checkpoint that is begun

-- as the answer says
begins-by : (v : Option Refusal) (b : Bool) → answered Err (pick b (Ok checkpoint.Nothing) (Ok checkpoint.Begun)) v ≡ (Ok checkpoint.Begun) → both (accepts v) (not b) ≡ true
begins-by None false e = refl
begins-by None true e = let z : ◌≡◌ {A = ℕ} 0 1 = cc in absurd (omega arith)
begins-by (Some r) b e = let z : ◌≡◌ {A = ℕ} 0 1 = cc in absurd (omega arith)

pub start-begins : (g : List ℕ) (w : World) → checkpoint_start g w ≡ (Ok checkpoint.Begun) → checkpoint_begins g w ≡ true
unfolding checkpoint_start
start-begins g w e = begins-by (checkpoint_refusal g w) (nothing_to_checkpoint w) e

module _ (g : List ℕ) (w : World) (salt : ℕ) (slots : length w.pager.staged.pages ≡ staged_limit) (i : FramesInside w)
    (b : checkpoint_begins g w ≡ true) where
  abbrev begun : World
  begun = on_store w (with_job w.pager (job.Checkpoint salt 0 (checkpoint_count w)))

  begun-is : on_store w (begin_checkpoint g w salt).pager ≡ begun
  begun-is = rw (begun-checkpoint g w b salt)

  begun-ready : ReadyOf (λ (n : ℕ). false) g begun
  begun-ready = rw begun-is at (checkpoint-ready g w b salt slots)

  -- after the pages
  abbrev written : World
  written = pages_world g salt (checkpoint_count w) (pages_from (in_checkpoint begun) 0) begun

  checkpoint-is : checkpoint_world g w salt ≡ end_world g salt (checkpoint_count w) written
  unfolding checkpoint_world
  checkpoint-is = rw (b, begun-is) (checkpoint-run g salt (checkpoint_count w) most_steps begun refl begun-ready (omega (arith, pages-length (in_checkpoint begun) 0)))

  begun-fine : Fine begun
  begun-fine = (ready-fine g begun begun-ready.right).0

  wholes : (n : ℕ) → n < page_limit → in_log w.table n ≡ true → length (log_bytes w.table w.log n) ≡ page_size
  unfolding log_bytes
  wholes n h e =
      length-take page_size (drop (frame_of w.table n + 16) w.log)
      ∙ omega (arith, length-drop (frame_of w.table n + 16) w.log, i n h e, begun-fine.files.log.len, begun-fine.files.log.area)

  paged-all : Paged g salt (checkpoint_count w) begun written
  paged-all = pages-keep g salt (checkpoint_count w) (pages_from (in_checkpoint begun) 0) begun 0 refl wholes begun-fine.files.main

  begun-checkpoints : (n : ℕ) → 1 ≤ n → n < count_of (header_of w.pager) → in_checkpoint begun n ≡ in_log w.table n
  unfolding in_checkpoint_by
  begun-checkpoints n a c = rw (le-leb 1 n a, lt-ltb n (count_of (header_of w.pager)) c)

  -- a page that stands in the main file then, of an entry of the table
  settled : (n : ℕ) (x : List ℕ) → 1 ≤ n → n < count_of (header_of w.pager) → (get_or w.table n 0 ≡ 0 → ⊥) → Has n x (disk_of written).main
      → (page_from (page_size * n) (checkpoint_world g w salt).main ≡ x) × (on_main (checkpoint_world g w salt).table n ≡ true)
  unfolding checkpointed log_length_stored main_length_stored main_header_stored
  settled n x a c z h =
      let k = paged-all in (
        rw checkpoint-is (end-page g salt (checkpoint_count w) written k.lies n x a h),
        rw (checkpoint-is, k.header, k.table) (checkpointed-main (count_of (header_of w.pager)) w.table n a c z),
      )

  pub checkpoint-leaves : CheckpointedTo w (checkpoint_world g w salt)
  unfolding checkpointed log_length_stored main_length_stored main_header_stored len_file empty_wal truncated_header
  checkpoint-leaves =
      let k = paged-all in
      let most = begun-fine.count in
      record {
        empty = rw checkpoint-is (end_empty g salt (checkpoint_count w) written);
        clock = rw (checkpoint-is, k.wal);
        staged = rw checkpoint-is k.staged;
        main_file = rw (checkpoint-is, k.header);
        brought = λ n a c e. settled n (log_bytes w.table w.log n) a c (log-entry w.table n e)
            (pages-brought g salt (checkpoint_count w) (pages_from (in_checkpoint begun) 0) begun 0 refl wholes begun-fine.files.main n (omega arith) (omega arith) (begun-checkpoints n a c ∙ e));
        stayed = λ n a c e f h. settled n (page_from (page_size * n) w.main) a c (main-entry w.table n f)
            (pages-kept g salt (checkpoint_count w) (pages_from (in_checkpoint begun) 0) begun 0 refl wholes begun-fine.files.main n (page_from (page_size * n) w.main)
            (inr (begun-checkpoints n a c ∙ e)) (record { bytes = refl; inside = h }));
      }

  pub checkpointed-answer : checkpoint_answer g w ≡ Ok (checkpoint_count w)
  unfolding checkpoint_answer
  checkpointed-answer =
      let x = both_true (accepts (checkpoint_refusal g w)) (not (nothing_to_checkpoint w)) b in
      rw (accepts-none (checkpoint_refusal g w) x.0, off (nothing_to_checkpoint w) x.1)
