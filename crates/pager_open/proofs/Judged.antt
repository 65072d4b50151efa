-- The parts of an opening, judged one behind the other, are the definition. Assumes nothing.
use mathlib.Core.Path.{◌≡◌, refl, sym, ap, ◌∙◌}
use mathlib.Core.Bool.{Bool, true, false}
use mathlib.Core.List.{List}
use Prim.Native.Nat.{ℕ, ◌*◌, ◌≤◌, ◌<◌}
use native.Mathlib.Omega.{arith}
use borrow.Author.Tests.{le-leb, lt-leb, leb-true, leb-false}
use lib.Dec.{leb}
use lib.ListN.{length}
use Rattle.std.specs.Prelude.{Err, Ok, Result}
use Rattle.le.specs.Choice.{pick}
use Rattle.refusal.specs.declared.Refusal.TheVariants as refusal
use Rattle.refusal.specs.declared.Refusal.{Refusal}
use Rattle.header.specs.declared.DbHeader.{DbHeader}
use Rattle.wal.specs.Header.{decode_wal_header}
use Rattle.wal.specs.Recovery.{recovered, wal_of, opened_by, open_log}
use Rattle.wal.specs.declared.Wal.{Wal}
use Rattle.wal.specs.declared.WalHeader.{WalHeader}
use Rattle.pager_state.specs.World.{count_of}
use Rattle.pager_state.specs.Stores.{File, Disk, content}
use Rattle.pager_state.specs.Opening.{place_from, How, found_in, found_fresh, found_by, main_header_of, is_long, judged_main, judged_log, judged_zero, header_by, opening_of, opens_as, opened_store, judged, open_fine, open_pager}
use Rattle.pager_state.specs.Opened.{Opens}
use Rattle.pager_state.specs.Opened as opened
use Rattle.pager_open.specs.Judging.{kept_wal, is_clean_read_only, opened_with, judged_found, judged_behind, judged_files}
use Rattle.pager_open.proofs.Found.{found-frames, found-last, found-log, found-end}

-- ---- 6, then 10

module _ (how : How) (len : ℕ) (mh : DbHeader) (v : Wal) (h : DbHeader) where
  pub over : leb (4096 * count_of h) 4194304 ≡ false → (opened.Refused refusal.Limit) ≡ opened_with how len mh v h
  unfolding opened_with
  over e =
      let k : 1024 < count_of h = omega (arith, leb-false (4096 * count_of h) 4194304 e) in
      rw (lt-leb _ _ k)

  pub read_only : leb (4096 * count_of h) 4194304 ≡ true → is_clean_read_only how ≡ true → (opened.Refused refusal.ReadOnly) ≡ opened_with how len mh v h
  unfolding opened_with
  read_only e b =
      let k : count_of h ≤ 1024 = omega (arith, leb-true (4096 * count_of h) 4194304 e) in
      rw (le-leb _ _ k, b)

  pub opens-with : leb (4096 * count_of h) 4194304 ≡ true → is_clean_read_only how ≡ false
      → opened.Opened (opens_as h mh len v v.last_commit_offset (opening_of how)) ≡ opened_with how len mh v h
  unfolding opened_with
  opens-with e b =
      let k : count_of h ≤ 1024 = omega (arith, leb-true (4096 * count_of h) 4194304 e) in
      rw (le-leb _ _ k, b)

-- ---- 8

header-either : (mh : DbHeader) (clean : Bool) (l : List ℕ) → header_by mh (found_in false l) ≡ header_by mh (found_in clean l)
unfolding header_by
header-either mh clean l = rw (found-frames clean l, found-last clean l, found-frames false l, found-last false l)

module _ (how : How) (len : ℕ) (mh : DbHeader) (l : List ℕ) where
  -- r is the header that counts, as it was looked for in the log as it lies there
  pub found-as : {r d : (Result DbHeader Refusal)} → r ≡ header_by mh (found_in false l) → r ≡ d
      → judged_zero d (opened_with how len mh (found_in how.clean l).log) ≡ judged_found how len mh (found_in how.clean l)
  unfolding judged_found
  found-as a e = rw (sym (header-either mh how.clean l) ∙ sym a ∙ e)

  pub found-opens : {r : (Result DbHeader Refusal)} {h : DbHeader} {v w : Wal} → r ≡ header_by mh (found_in false l) → r ≡ Ok h → 32 ≤ length l
      → w ≡ wal_of (length l) (recovered l) → v ≡ kept_wal how.clean l w → opened_with how len mh v h ≡ judged_found how len mh (found_in how.clean l)
  found-opens {r} {h} {v} {w} a e n k b =
      ap (λ (x : Wal). opened_with how len mh x h) (b ∙ found-log how.clean l w n k) ∙ found-as a e

-- ---- the log's 2 to 5

-- by what opening the log answers
abbrev pub judged_open : Result Wal Refusal → Opens → Opens
judged_open (Ok w) next = next
judged_open (Err r) next = opened.Refused r

open-either : (d : Result WalHeader Refusal) (w : Wal) (next : Opens) → judged_open (opened_by d w) next ≡ judged_log d next
open-either (Ok h) w next = refl
open-either (Err r) w next = refl

pub log-judged : (l : List ℕ) (next : Opens) {r o : (Result Wal Refusal)} → length l ≤ 4210720 → r ≡ open_log l → r ≡ o
    → judged_open o next ≡ judged_log (decode_wal_header l) next
unfolding open_log
log-judged l next h a e =
    rw (← e, a, le-leb (length l) 4210720 h) (open-either (decode_wal_header l) (wal_of (length l) (recovered l)) next)

-- ---- the main file's 2 to 5, and 7

main-like : (d : Result DbHeader Refusal) (f g : DbHeader → Opens) → ((h : DbHeader) → f h ≡ g h) → judged_main d f ≡ judged_main d g
main-like (Ok h) f g e = e h
main-like (Err r) f g e = refl

zero-like : (d : Result DbHeader Refusal) (f g : DbHeader → Opens) → ((h : DbHeader) → f h ≡ g h) → judged_zero d f ≡ judged_zero d g
zero-like (Ok h) f g e = e h
zero-like (Err r) f g e = refl

module _ (how : How) (d : Disk) where
  with-as : (mh h : DbHeader) → opened_store how d mh (found_by how d.log) h ≡ opened_with how d.main.len mh (found_by how d.log).log h
  unfolding opened_store opened_with
  with-as mh h = rw (found-end how d.log)

  behind-as : (mh : DbHeader) → pick (is_long d.main mh) (judged how d mh) (opened.Refused refusal.MainShort) ≡ judged_behind how d.main.len d.log mh
  unfolding judged judged_behind judged_found
  behind-as mh = rw (zero-like (header_by mh (found_by how d.log)) _ _ (with-as mh))

  pub opening-judged : (t g : List ℕ) → open_pager how t d g ≡ pick (open_fine t d g) (judged_files how d) (opened.Refused refusal.Area)
  unfolding open_pager judged_files
  opening-judged t g = rw (main-like (main_header_of d.main) _ _ behind-as)

-- ---- each way that judging can end

module _ (how : How) (len : ℕ) (f : File) (mh : DbHeader) where
  pub main-short : leb (4096 * count_of mh) len ≡ false → (opened.Refused refusal.MainShort) ≡ judged_behind how len f mh
  unfolding judged_behind
  main-short e = rw e

  pub log-there : leb (4096 * count_of mh) len ≡ true → how.exists ≡ true
      → judged_log (decode_wal_header (content f)) (judged_found how len mh (found_in how.clean (content f))) ≡ judged_behind how len f mh
  unfolding judged_behind found_by
  log-there e x = rw (e, x)

  pub log-absent : {v : Wal} → leb (4096 * count_of mh) len ≡ true → how.exists ≡ false → v ≡ (found_fresh how).log
      → opened_with how len mh v mh ≡ judged_behind how len f mh
  unfolding judged_behind found_by judged_found header_by found_fresh place_from
  log-absent e x k = rw (e, x, k)

pub files-judged : (how : How) (d : Disk) {r m : (Result DbHeader Refusal)} → r ≡ main_header_of d.main → r ≡ m
    → judged_main m (judged_behind how d.main.len d.log) ≡ judged_files how d
unfolding judged_files
files-judged how d a e = rw (sym a ∙ e)
