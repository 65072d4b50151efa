-- What hosts hand over of a store in numbers to `may_read`, `place_page` and `stage_in`: its own fields, the job's number (0 to 5) among them.
use Rattle.std.specs.Prelude.{Result, ◌≡◌, Bool, not, List, ℕ, eqb}
use Rattle.refusal.specs.declared.Refusal.{Refusal}
use Rattle.pager_state.specs.World.{world, count_of}
use Rattle.pager_state.specs.Overlay.{slots, place_page, find_page}
use Rattle.pager_state.specs.Staging.{stage_answer, staged_after, staging_bytes, stage_page, stage_after}
use Rattle.pager_state.specs.declared.Pager.{Pager}
use Rattle.pager_state.specs.declared.PageFound.{PageFound}
use Rattle.pager_state.specs.declared.Staged.{Staged}
use Rattle.pager_read.specs.Reading.{may_read, read_as}
use Rattle.capi_numbers.specs.Numbers.{store_of}
use Rattle.capi_numbers.specs.declared.Store.{Store}
use Rattle.other_calls.specs.Others.{SaysBusy}

-- the job's number of every store that a call gives tells whether something is part done
unfoldable pub HostSaysBusy : Type 0
HostSaysBusy = (p : Pager) → SaysBusy (store_of p).job.kind p

-- a page, judged and placed by the store's own fields
abbrev pub host_reads : Store → List ℕ → List ℕ → List ℕ → List ℕ → ℕ → Result PageFound Refusal
host_reads s t l m g n =
    read_as (may_read (count_of s.current_header) s.job.kind s.wal.len s.storage.len t l m g)
    (place_page (count_of s.current_header) (slots s.staged.count s.staged.pages) t n)

-- is what `find_page` answers of that store
unfoldable pub HostReads : Type 0
HostReads = (p : Pager) (t l m g : List ℕ) (n : ℕ) → host_reads (store_of p) t l m g n ≡ find_page (world p t l m) g n

-- what staging is handed of it
abbrev pub host_busy : Store → Bool
host_busy s = not (eqb s.job.kind 0)

abbrev pub host_slots : Store → Staged
host_slots s = slots s.staged.count s.staged.pages

-- the store in which the staged pages' numbers were stored where they lie
abbrev pub store_with_slots : Store → Staged → Store
store_with_slots s x =
    record {
      current_header = s.current_header;
      wal = s.wal;
      recovered = s.recovered;
      storage = s.storage;
      staged = x;
      job = s.job;
      opening = s.opening;
    }

-- a page staged by the store's own fields is staged as `stage_page` stages it
pub record HostStaged (p : Pager) (g bytes : List ℕ) (n : ℕ) : Type 0 where
  pub answer : stage_answer (host_busy (store_of p)) (host_slots (store_of p)) g n bytes ≡ (stage_page p g n bytes).answer
  pub store : store_with_slots (store_of p) (staged_after (host_busy (store_of p)) (host_slots (store_of p)) g n bytes) ≡ store_of (stage_page p g n bytes).pager
  pub staging : staging_bytes (host_busy (store_of p)) (host_slots (store_of p)) g n bytes ≡ stage_after p g n bytes

unfoldable pub HostStages : Type 0
HostStages = (p : Pager) (g bytes : List ℕ) (n : ℕ) → HostStaged p g bytes n
