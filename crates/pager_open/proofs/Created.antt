-- What creation leaves of the areas. Assumes nothing.
use mathlib.Core.Path.{◌≡◌, refl, ◌∙◌}
use mathlib.Core.Bool.{true, false}
use mathlib.Core.List.{List, [], ◌++◌}
use Prim.Native.Nat.{ℕ, ◌≤◌}
use native.Mathlib.Omega.{arith}
use borrow.Author.Tests.{eq-eqb}
use lib.ListN.{length, take, drop, length-append, length-take, length-drop}
use lib.Seq.{drop-drop}
use Rattle.std.specs.Prelude.{Err, Ok}
use Rattle.refusal.specs.declared.Refusal.TheVariants as refusal
use Rattle.le.specs.Le.{put}
use Rattle.page.specs.Page.{empty_table_page, empty_after}
use Rattle.page.proofs.Written.{length-empty_table_page}
use Rattle.header.specs.Header.{encode_header, encode_after}
use Rattle.header.specs.declared.DbHeader.{DbHeader}
use Rattle.header.proofs.Encoding.{length-encode_header}
use Rattle.wal.specs.Header.{encode_wal_header}
use Rattle.wal.specs.Write.{created_header, with_header}
use Rattle.pager_state.specs.Stores.{File, grown, put_file, len_file, stored_all}
use Rattle.pager_state.specs.Opening.{table_of, first_header, log_stores, create_stores, empty_file, created_disk, created_pager, create_fine, create, create_table, create_log, create_main, no_pager}
use Rattle.pager_state.specs.declared.Pager.{Pager}
use Rattle.pager_state.specs.declared.Outcome.{Outcome}
use Rattle.pager_open.proofs.Opened.{grown-none, fresh-area}

-- ---- the main file

-- two pages stored at the front of an area
pages-put : (m e p : List ℕ) → length e ≡ 4096 → length p ≡ 4096
    → take 4096 (e ++ drop 4096 m) ++ (p ++ drop 4096 (drop 4096 (e ++ drop 4096 m))) ≡ put (put m 0 e) 4096 p
unfolding put
pages-put m e p n k = rw (n, k, drop-drop 4096 4096 (e ++ drop 4096 m))

pub pages-stored : (m : List ℕ) (h : DbHeader) {e p : List ℕ} → 8192 ≤ length m → e ≡ encode_after h (take 4096 m)
    → p ≡ empty_after (take 4096 (drop 4096 (e ++ drop 4096 m)))
    → take 4096 (e ++ drop 4096 m) ++ (p ++ drop 4096 (drop 4096 (e ++ drop 4096 m))) ≡ put (put m 0 (encode_header h)) 4096 empty_table_page
pages-stored m h {e} {p} n a b =
    let k : length (take 4096 m) ≡ 4096 = rw length-take (omega arith) in
    let x : e ≡ encode_header h = a ∙ rw (eq-eqb (length (take 4096 m)) 4096 k) in
    let w : length e ≡ 4096 = rw x (length-encode_header h) in
    let j : length (take 4096 (drop 4096 (e ++ drop 4096 m))) ≡ 4096 = simp (length-take, length-drop, length-append, w) (omega arith) in
    let y : p ≡ empty_table_page = b ∙ rw (eq-eqb (length (take 4096 (drop 4096 (e ++ drop 4096 m)))) 4096 j) in
    rw (x, y) (pages-put m (encode_header h) empty_table_page (length-encode_header h) length-empty_table_page)

-- ---- all of creation's stores

module _ (l m : List ℕ) (salt : ℕ) where
  created-main : (created_disk l m salt).main.area ≡ put (put m 0 (encode_header first_header)) 4096 empty_table_page
  unfolding created_disk create_stores log_stores stored_all put_file len_file
  created-main =
      let f : File = len_file (empty_file m) 0 in
      let g : File = put_file f 0 (encode_header first_header) in
      let a : grown f 0 ≡ m = grown-none f 0 (omega arith) ∙ grown-none (empty_file m) 0 (omega arith) in
      let n : 4096 ≤ g.len = rw (length-encode_header first_header) (omega arith) in
      rw (grown-none g 4096 n, a)

  created-log : (created_disk l m salt).log.area ≡ put l 0 (encode_wal_header (created_header salt))
  unfolding created_disk create_stores stored_all
  created-log = fresh-area l salt _ refl

-- ---- what creation answers and leaves

module _ (t l m g : List ℕ) (salt : ℕ) where
  abbrev pub Creates : Outcome (Unit {0}) → List ℕ → List ℕ → List ℕ → Type 0
  Creates r u v w =
      (r ≡ create t l m g salt) × ((u ≡ create_table t l m g) × ((v ≡ create_log t l m g salt) × (w ≡ create_main t l m g salt)))

  pub create-refused : {r : (Outcome (Unit {0}))} → create_fine t l m g ≡ false → r ≡ record { answer = Err refusal.Area; pager = no_pager } → Creates r t l m
  unfolding create create_table create_log create_main
  create-refused n a = (rw n a, (rw n, (rw n, rw n)))

  pub create-done : {p : Pager} {u v w : List ℕ} → create_fine t l m g ≡ true → length l ≡ 4210720 → p ≡ created_pager salt → u ≡ table_of first_header []
      → v ≡ with_header l (created_header salt) → w ≡ put (put m 0 (encode_header first_header)) 4096 empty_table_page
      → Creates (record { answer = Ok tt; pager = p }) u v w
  unfolding create create_table create_log create_main with_header
  create-done y n a b c d =
      (rw (y, a), (rw y b, (rw (y, created-log l m salt) (c ∙ rw (eq-eqb (length l) 4210720 n)), rw (y, created-main l m salt) d)))
