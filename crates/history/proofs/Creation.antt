-- A newly created store is at rest, in areas that had any bytes. Assumes nothing.
use mathlib.Core.Path.{◌≡◌, refl, sym, ap, ◌∙◌}
use mathlib.Core.Bool.{true}
use mathlib.Core.List.{List, []}
use Prim.Native.Nat.{ℕ, ◌+◌, ◌*◌, ◌^◌, max, ◌≤◌, ◌<◌}
use native.Mathlib.Omega.{arith}
use borrow.Author.Tests.{ne_eqb}
use lib.ListN.{length, take}
use Rattle.std.specs.Prelude.{Option, None, Some, Ok}
use Rattle.le.specs.Le.{put}
use Rattle.le.proofs.Stores.{length-put, take_put, part-put}
use Rattle.page.specs.Page.{page_size, empty_table_page}
use Rattle.page.proofs.Written.{length-empty_table_page}
use Rattle.header.specs.Header.{encode_header, decode_header}
use Rattle.header.proofs.Encoding.{length-encode_header}
use Rattle.header.proofs.RoundTrip.{Plain, decode-encode}
use Rattle.mvcc.specs.Batch.{Each}
use Rattle.wal.specs.Header.{header_size, encode_wal_header}
use Rattle.wal.specs.Recovery.{last_count, batches_in, wal_area}
use Rattle.wal.specs.Write.{empty_wal, created_header}
use Rattle.wal.proofs.Encoding.{length-encode_wal_header}
use Rattle.wal.proofs.Laid.{joined}
use Rattle.wal.proofs.Writing.{created-written}
use Rattle.pager_state.specs.World.{world, main_area_size, count_of}
use Rattle.pager_state.specs.Overlay.{page_from}
use Rattle.pager_state.specs.Opening.{place_from, table_of, opens_as, first_header, log_stores, create_stores, empty_file, created_disk, created_pager, create_fine, create_table, create_log, create_main}
use Rattle.pager_state.specs.Stores.{File, Disk, stored_all, put_file, len_file}
use Rattle.history.specs.Model.{first_model}
use Rattle.history.specs.Run.{start}
use Rattle.history.proofs.Files.{lasting, put-file, len-file, page-same}
use Rattle.history.proofs.Disk.{view_of, header_over, OnDisk, log-alone}
use Rattle.history.proofs.Rest.{Resting}
use Rattle.history.proofs.Opening.{fine-sized, rests}
use Rattle.history.proofs.Reopening.{InvRun}
use Rattle.history.specs.Demand3.{Sized}

module _ (t l m g : List ℕ) (salt : ℕ) (ok : create_fine t l m g ≡ true) (small : salt < 2 ^ 32) where
  sizes : Sized (record { table = t; staging = g; log = l; main = m })
  sizes = fine-sized (record { table = t; staging = g; log = l; main = m }) 0 0 ok

  abbrev head : List ℕ
  head = encode_header first_header

  abbrev log-head : List ℕ
  log-head = encode_wal_header (created_header salt)

  abbrev main-area : List ℕ
  main-area = put (put m 0 (encode_header first_header)) page_size empty_table_page

  abbrev log-area : List ℕ
  log-area = put l 0 (encode_wal_header (created_header salt))

  abbrev x : Disk
  x = record { main = record { area = main-area; len = 8192 }; log = record { area = log-area; len = header_size } }

  two-pages : (f : File) → f.len ≡ 0 → put_file (put_file (len_file f 0) 0 head) page_size empty_table_page ≡ record { area = put (put f.area 0 head) page_size empty_table_page; len = 8192 }
  two-pages f e =
      let h : length head ≡ page_size = length-encode_header first_header in
      let n : max 0 (0 + length head) ≡ page_size = omega arith in
      let p : length empty_table_page ≡ page_size = length-empty_table_page in
      let q : max page_size (page_size + length empty_table_page) ≡ 8192 = omega arith in
      rw (len-file f 0 (omega arith), put-file (lasting f 0) 0 head (omega arith), n, put-file (record { area = put f.area 0 head; len = page_size }) page_size empty_table_page (omega arith), q)

  header-alone : (f : File) → put_file (len_file f 0) 0 log-head ≡ record { area = put f.area 0 log-head; len = header_size }
  header-alone f =
      let h : length log-head ≡ header_size = length-encode_wal_header (created_header salt) in
      let n : max 0 (0 + length log-head) ≡ header_size = omega arith in
      rw (len-file f 0 (omega arith), put-file (lasting f 0) 0 log-head (omega arith), n)

  disk-is : created_disk l m salt ≡ x
  unfolding created_disk create_stores log_stores stored_all
  disk-is = λ i. record { main = two-pages (empty_file m) refl i; log = header-alone (empty_file l) i }

  -- ---- the files

  first-long : length (put m 0 head) ≡ main_area_size
  first-long = length-put m 0 head (omega (arith, sizes.main, length-encode_header first_header)) ∙ sizes.main

  main-long : length main-area ≡ main_area_size
  main-long = length-put (put m 0 head) page_size empty_table_page (omega (arith, first-long, length-empty_table_page)) ∙ first-long

  log-long : length log-area ≡ wal_area
  log-long = length-put l 0 log-head (omega (arith, sizes.log, length-encode_wal_header (created_header salt))) ∙ sizes.log

  plain : Plain first_header
  unfolding first_header
  plain = record { count = omega arith; root = omega arith; free = omega arith; low = omega arith; high = omega arith }

  main-head : decode_header (take page_size main-area) ≡ Ok first_header
  main-head =
      let a : take page_size main-area ≡ take page_size (put m 0 head) = take_put page_size (put m 0 head) page_size empty_table_page (omega arith) (omega (arith, first-long)) in
      let b : take page_size (put m 0 head) ≡ head = part-put page_size m 0 head (length-encode_header first_header) (omega arith) in
      ap decode_header (a ∙ b) ∙ decode-encode first_header plain

  page-one : page_from (page_size * 1) main-area ≡ empty_table_page
  page-one = page-same (put m 0 head) 1 empty_table_page (omega (arith, length-empty_table_page)) (omega (arith, first-long)) length-empty_table_page

  only_one : (n : ℕ) → 1 ≤ n → n < 2 → n ≡ 1
  only_one n h k = omega arith

  count-two : count_of first_header ≡ 2
  unfolding first_header
  count-two = refl

  view-one : view_of [] first_header main-area 1 ≡ Some empty_table_page
  unfolding first_header
  view-one = ap {B = Option (List ℕ)} Some page-one

  model-one : first_model.pages 1 ≡ Some empty_table_page
  unfolding first_model
  model-one = refl

  model-above : (n : ℕ) → 2 ≤ n → first_model.pages n ≡ None
  unfolding first_model
  model-above n h = rw (ne_eqb n 1 (λ e. omega arith))

  model-header : first_model.header ≡ first_header
  unfolding first_model
  model-header = refl

  count-is : count_of first_model.header ≡ 2
  count-is = ap count_of model-header ∙ count-two

  view-is : (n : ℕ) → n ≡ 1 → view_of [] first_header main-area n ≡ first_model.pages n
  view-is n e = rw e (view-one ∙ sym model-one)

  there-is : (n : ℕ) → n ≡ 1 → (y : List ℕ) × (first_model.pages n ≡ Some y)
  there-is n e = (empty_table_page, rw e model-one)

  top-is : header_over first_header [] ≡ Ok first_model.header
  unfolding header_over place_from last_count first_model
  top-is = refl

  on : OnDisk x first_model (created_header salt) [] [] [] first_header
  unfolding batches_in first_model Each
  on =
      record {
        log = log-alone x.log (created_header salt) (created-written salt small)
            (part-put header_size l 0 log-head (length-encode_wal_header (created_header salt)) (omega arith)) log-long (omega arith);
        main = record { area = main-long; fits = omega arith; long = omega arith; has = omega (arith, count-two); head = main-head };
        model =
            record {
              top = top-is;
              plain = plain;
              least = omega (arith, count-two);
              most = omega (arith, count-two);
              pages = λ n h k. view-is n (only_one n h (omega (arith, count-two)));
              there = λ n h k. there-is n (only_one n h (omega (arith, count-two)));
              above = λ n h. model-above n (omega (arith, count-two));
              batches = refl;
              times = tt;
            };
      }

  wal-len : (empty_wal (created_header salt)).len ≡ header_size
  unfolding empty_wal
  wal-len = refl

  wal-salt : (empty_wal (created_header salt)).header.salt ≡ (created_header salt).salt
  unfolding empty_wal
  wal-salt = refl

  wal-older : (created_header salt).clock_high_water ≤ (empty_wal (created_header salt)).header.clock_high_water
  unfolding empty_wal created_header
  wal-older = omega arith

  wal-clock : (empty_wal (created_header salt)).header.clock_high_water < 2 ^ 64
  unfolding empty_wal created_header
  wal-clock = omega arith

  resting : Resting (world (created_pager salt) (table_of first_header []) log-area main-area) g first_model (created_header salt) [] [] first_header
  unfolding created_pager first_model
  resting =
      rests x first_model (created_header salt) [] first_header first_header (empty_wal (created_header salt)) header_size g on wal-len wal-salt wal-older wal-clock sizes.staging (λ n. refl) refl

  world_is : (start t l m g salt).world ≡ world (created_pager salt) (table_of first_header []) log-area main-area
  unfolding start create_table create_log create_main
  world_is =
      let a : (created_disk l m salt).log.area ≡ log-area = ap (λ (d : Disk). d.log.area) disk-is in
      let b : (created_disk l m salt).main.area ≡ main-area = ap (λ (d : Disk). d.main.area) disk-is in
      rw (ok, a, b)

  pub created-inv : InvRun (start t l m g salt)
  unfolding start created_pager opens_as joined
  created-inv = rw world_is (record { l = created_header salt; S = []; P = []; mh = first_header; it = resting; kept = refl })
