-- What each store of a commit or checkpoint leaves: the files, the stores then left, and what the laws of steps ask. Assumes nothing.
use mathlib.Core.Path.{◌≡◌, refl, sym, ap, ◌∙◌}
use mathlib.Core.Bool.{Bool, true, false, not}
use mathlib.Core.List.{List, [], append-nil}
use Prim.Native.Nat.{ℕ, suc, ◌+◌, ◌≤◌, ◌<◌, max}
use native.Mathlib.Omega.{arith}
use lib.Dec.{leb}
use lib.ListN.{length}
use Rattle.le.specs.Choice.{pick, both}
use Rattle.le.specs.Le.{put, same_bytes}
use Rattle.le.proofs.Compare.{no_test}
use Rattle.header.specs.Header.{encode_header}
use Rattle.header.specs.declared.DbHeader.{DbHeader}
use Rattle.frame.specs.Frame.{encode_frame}
use Rattle.frame.proofs.Stores.{length-encode_frame}
use Rattle.wal.specs.Header.{encode_wal_header}
use Rattle.wal.specs.Write.{empty_wal, with_frame}
use Rattle.wal.proofs.Encoding.{length-encode_wal_header}
use Rattle.pager_state.specs.World.{World, page_limit, staging_area, count_of, header_of, busy_with, busy}
use Rattle.pager_state.specs.Overlay.{is_staged, staged_bytes, entry, on_main, committed_bytes}
use Rattle.pager_state.specs.Stores.{File, disk_of, Act, put_file, len_file, stored}
use Rattle.pager_state.specs.Pages.{pages_from, differs_in, differs, in_checkpoint_by, in_checkpoint}
use Rattle.pager_state.specs.Checkpoint.{page_act, main_header_act, main_length_act, log_length_act, log_header_act, next_header, page_stored, main_header_stored, main_length_stored, log_length_stored, checkpointed, pages_todo, length_todo, empty_todo, header_todo, checkpoint_todo}
use Rattle.pager_state.specs.Commit.{checkpoint_frames, salt_of, frame_act, page_frame_stored, commit_frame_act, committed_pager, committed_world, frames_todo, commit_todo}
use Rattle.pager_state.specs.Steps.{todo, answer_of}
use Rattle.pager_state.specs.declared.Job.TheVariants as job
use Rattle.pager_state.proofs.Searches.{pages-same}
use Rattle.pager_state.proofs.Stored.{put-end}
use Rattle.pager_state.proofs.Sizes.{staged-size, commit-frame-size, frame-len, empty-len}
use Rattle.pager_state.proofs.Entries.{bytes-other, below-entered, length-entered, checkpointed-below, length-checkpointed}
use Rattle.pager_state.proofs.Made.{Fine, PlacedOf, Names, AsksOf, MadeOf}

-- v is a world like w in which the store a is done and the rest is left
pub record After (P : ℕ → Bool) (g : List ℕ) (w : World) (a : Act) (rest : List Act) (v : World) : Type 0 where
  pub disk : disk_of v ≡ stored a (disk_of w)
  pub left : todo g v ≡ rest
  pub table : length v.table ≡ length w.table
  pub count : count_of (header_of v.pager) ≤ page_limit
  pub made : MadeOf P v
  pub answer : busy v.pager ≡ true → answer_of v.pager.job ≡ answer_of w.pager.job

-- ---- a page's frame

module _ (g : List ℕ) (h : DbHeader) (salt answer : ℕ) (w : World) (n : ℕ) where
  framed-log : (page_frame_stored g h salt answer n w).log ≡ put w.log w.pager.wal.len (encode_frame n 0 (salt_of w) (staged_bytes w.pager.staged g n))
  unfolding page_frame_stored
  framed-log =
      let f : File = record { area = w.log; len = w.pager.wal.len } in
      put-end f (encode_frame n 0 (salt_of w) (staged_bytes w.pager.staged g n))

  -- what a staged page is compared with stays
  framed-bytes : {P : ℕ → Bool} → PlacedOf P w → Names P w → w.pager.wal.len ≤ length w.log → (m : ℕ) → suc n ≤ m → m < page_limit → (s : Bool) → is_staged w.pager.staged m ≡ s
      → both s (not (same_bytes (staged_bytes w.pager.staged g m) (committed_bytes (page_frame_stored g h salt answer n w) m)))
      ≡ both s (not (same_bytes (staged_bytes w.pager.staged g m) (committed_bytes w m)))
  unfolding page_frame_stored
  framed-bytes p c l m a b true e =
      let x : ℕ = entry w.pager.wal.len (on_main w.table n) in
      rw (bytes-other (page_frame_stored g h salt answer n w) w n x w.pager.wal.len (encode_frame n 0 (salt_of w) (staged_bytes w.pager.staged g n))
      refl framed-log refl l m (λ q. omega (arith, q, a)) (p m b (c m e)))
  framed-bytes p c l m a b false e = refl

  pub framed-differs : {P : ℕ → Bool} → PlacedOf P w → Names P w → w.pager.wal.len ≤ length w.log → (m : ℕ) → suc n ≤ m → m < page_limit
      → differs g (page_frame_stored g h salt answer n w) m ≡ differs g w m
  unfolding differs_in page_frame_stored
  framed-differs p c l m a b = framed-bytes p c l m a b (is_staged w.pager.staged m) refl

  framed-left : {P : ℕ → Bool} → PlacedOf P w → Names P w → w.pager.wal.len ≤ length w.log
      → todo g (page_frame_stored g h salt answer n w) ≡ frames_todo g h salt answer (pages_from (differs g w) (suc n)) (page_frame_stored g h salt answer n w)
  unfolding todo commit_todo checkpoint_todo page_frame_stored
  framed-left p c l =
      append-nil _ ∙ ap (λ (l : List ℕ). frames_todo g h salt answer l (page_frame_stored g h salt answer n w))
      (pages-same (differs g (page_frame_stored g h salt answer n w)) (differs g w) (suc n) (framed-differs p c l))

  framed-disk : length (encode_frame n 0 (salt_of w) (staged_bytes w.pager.staged g n)) ≡ 4112
      → disk_of (page_frame_stored g h salt answer n w) ≡ stored (frame_act g w n) (disk_of w)
  unfolding page_frame_stored put_file
  framed-disk s =
      let e : max w.pager.wal.len (w.pager.wal.len + length (encode_frame n 0 (salt_of w) (staged_bytes w.pager.staged g n))) ≡ w.pager.wal.len + 4112 =
      omega arith in
      rw (e, frame-len w.pager.wal 0)

  framed-made : {P : ℕ → Bool} → MadeOf P w → PlacedOf P w → Names P w → count_of h ≤ page_limit → n < length w.table → MadeOf P (page_frame_stored g h salt answer n w)
  unfolding page_frame_stored
  framed-made {P} m p i c l =
      record {
        slots = m.slots;
        asked = (rw (frame-len w.pager.wal 0) (below-entered P w.table n w.pager.wal.len l p), (i, c));
      }

  pub after-framed : {P : ℕ → Bool} → Fine w → length g ≡ staging_area → MadeOf P w → PlacedOf P w → Names P w → count_of h ≤ page_limit → is_staged w.pager.staged n ≡ true → n < page_limit
      → answer_of w.pager.job ≡ answer
      → After P g w (frame_act g w n) (frames_todo g h salt answer (pages_from (differs g w) (suc n)) (page_frame_stored g h salt answer n w)) (page_frame_stored g h salt answer n w)
  unfolding page_frame_stored
  after-framed f k m p i c s l q =
      let b = staged-size w.pager.staged g n m.slots k s in
      record {
        disk = framed-disk (length-encode_frame n 0 (salt_of w) (staged_bytes w.pager.staged g n) b);
        left = framed-left p i (omega (arith, f.files.log.len, f.files.log.area));
        table = length-entered w.table n w.pager.wal.len;
        count = f.count;
        made = framed-made m p i c (omega (arith, f.table));
        answer = λ z. sym q;
      }

-- ---- the commit frame

after-job : (g : List ℕ) (salt answer : ℕ) (b : Bool) (v : World) → commit_todo g (pick b (job.Checkpoint salt 0 answer) job.Idle) v ≡ []
unfolding commit_todo
after-job g salt answer true v = refl
after-job g salt answer false v = refl

job-asks : (P : ℕ → Bool) (salt answer : ℕ) (b : Bool) (v : World) → PlacedOf P v → AsksOf P (pick b (job.Checkpoint salt 0 answer) job.Idle) v
job-asks P salt answer true v p = p
job-asks P salt answer false v p = p

job-answer : (salt answer : ℕ) (b : Bool) → busy_with (pick b (job.Checkpoint salt 0 answer) job.Idle) ≡ true → answer_of (pick b (job.Checkpoint salt 0 answer) job.Idle) ≡ answer
job-answer salt answer true e = refl
job-answer salt answer false e = no_test e

module _ (g : List ℕ) (h : DbHeader) (salt answer : ℕ) (w : World) where
  committed-left : todo g (committed_world h salt answer w) ≡ checkpoint_todo (committed_world h salt answer w).pager.job (committed_world h salt answer w)
  unfolding todo committed_world committed_pager
  committed-left = rw (after-job g salt answer (leb checkpoint_frames (with_frame w.pager.wal (count_of h)).frame_count) (committed_world h salt answer w))

  committed-disk : disk_of (committed_world h salt answer w) ≡ stored (commit_frame_act h w) (disk_of w)
  unfolding committed_world committed_pager put_file
  committed-disk =
      let s = commit-frame-size h (count_of h) (salt_of w) in
      let e : max w.pager.wal.len (w.pager.wal.len + length (encode_frame 0 (count_of h) (salt_of w) (encode_header h))) ≡ w.pager.wal.len + 4112 =
      omega arith in
      rw (e, frame-len w.pager.wal (count_of h))

  committed-placed : {P : ℕ → Bool} → PlacedOf P w → 0 < length w.table → PlacedOf P (committed_world h salt answer w)
  unfolding committed_world committed_pager
  committed-placed {P} p l = rw (frame-len w.pager.wal (count_of h)) (below-entered P w.table 0 w.pager.wal.len l p)

  pub after-committed : {P : ℕ → Bool} → Fine w → MadeOf P w → PlacedOf P w → count_of h ≤ page_limit → answer_of w.pager.job ≡ answer
      → After P g w (commit_frame_act h w) (checkpoint_todo (committed_world h salt answer w).pager.job (committed_world h salt answer w)) (committed_world h salt answer w)
  unfolding committed_world committed_pager
  after-committed {P} f m p c q =
      record {
        disk = committed-disk;
        left = committed-left;
        table = length-entered w.table 0 w.pager.wal.len;
        count = c;
        made = record {
          slots = m.slots;
          asked = job-asks P salt answer (leb checkpoint_frames (with_frame w.pager.wal (count_of h)).frame_count) (committed_world h salt answer w) (committed-placed p (omega (arith, f.table)));
        };
        answer = λ z. job-answer salt answer (leb checkpoint_frames (with_frame w.pager.wal (count_of h)).frame_count) z ∙ sym q;
      }

-- ---- a checkpoint's stores

module _ {P : ℕ → Bool} (g : List ℕ) (salt answer : ℕ) (w : World) (f : Fine w) (m : MadeOf P w) (q : answer_of w.pager.job ≡ answer) where
  pub after-paged : PlacedOf P w → (n : ℕ) (last : Bool)
      → After P g w (page_act w n last) (pages_todo salt answer (pages_from (in_checkpoint w) (suc n)) (page_stored salt answer n w)) (page_stored salt answer n w)
  unfolding page_stored todo commit_todo checkpoint_todo in_checkpoint_by
  after-paged p n last =
      record { disk = refl; left = refl; table = refl; count = f.count; made = record { slots = m.slots; asked = p }; answer = λ z. sym q }

  pub after-headed : PlacedOf P w → After P g w (main_header_act w) (length_todo salt answer (main_header_stored salt answer w)) (main_header_stored salt answer w)
  unfolding main_header_stored todo commit_todo checkpoint_todo
  after-headed p =
      record { disk = refl; left = refl; table = refl; count = f.count; made = record { slots = m.slots; asked = p }; answer = λ z. sym q }

  pub after-lengthened : PlacedOf P w → After P g w (main_length_act w) (empty_todo salt answer (main_length_stored salt answer w)) (main_length_stored salt answer w)
  unfolding main_length_stored todo commit_todo checkpoint_todo
  after-lengthened p =
      record { disk = refl; left = refl; table = refl; count = f.count; made = record { slots = m.slots; asked = p }; answer = λ z. sym q }

  emptied-disk : disk_of (log_length_stored salt answer w) ≡ stored log_length_act (disk_of w)
  unfolding log_length_stored len_file
  emptied-disk = rw (empty-len w.pager.wal.header)

  pub after-emptied : After P g w log_length_act (header_todo salt (log_length_stored salt answer w)) (log_length_stored salt answer w)
  unfolding log_length_stored todo commit_todo checkpoint_todo
  after-emptied =
      record {
        disk = emptied-disk;
        left = refl;
        table = refl;
        count = f.count;
        made = record { slots = m.slots; asked = empty-len w.pager.wal.header };
        answer = λ z. sym q;
      }

  checkpointed-disk : w.pager.wal.len ≡ 32 → disk_of (checkpointed salt w) ≡ stored (log_header_act w salt) (disk_of w)
  unfolding checkpointed put_file
  checkpointed-disk e =
      let s = length-encode_wal_header (next_header w salt) in
      let k : max w.pager.wal.len (0 + length (encode_wal_header (next_header w salt))) ≡ 32 = omega arith in
      rw (k, empty-len (next_header w salt))

  pub after-checkpointed : w.pager.wal.len ≡ 32 → After P g w (log_header_act w salt) [] (checkpointed salt w)
  unfolding checkpointed todo commit_todo checkpoint_todo
  after-checkpointed e =
      record {
        disk = checkpointed-disk e;
        left = refl;
        table = length-checkpointed (count_of (header_of w.pager)) 0 w.table;
        count = f.count;
        made = record { slots = m.slots; asked = checkpointed-below P (count_of (header_of w.pager)) 0 w.table (empty_wal (next_header w salt)).len };
        answer = λ z. no_test z;
      }
