-- A frame stored behind the log's last: cut, uncommitted, or sealing. Assumes nothing.
use mathlib.Core.Path.{◌≡◌, sym, ◌∙◌}
use mathlib.Core.Bool.{Bool, true}
use mathlib.Core.List.{List, [], ◌∷◌, ◌++◌, append_assoc, append-nil}
use Prim.Native.Nat.{ℕ, ◌+◌, min, ◌≤◌, ◌<◌}
use native.Mathlib.Omega.{arith}
use borrow.Author.Tests.{eq-eqb, ne_eqb}
use lib.ListN.{length, take, length-take}
use Rattle.le.proofs.Stores.{length-put}
use Rattle.header.specs.declared.DbHeader.{DbHeader}
use Rattle.frame.specs.Frame.{frame_size}
use Rattle.wal.specs.Header.{header_size, encode_wal_header}
use Rattle.wal.specs.Recovery.{commit_count, good, good_front, wal_area}
use Rattle.wal.specs.declared.WalHeader.{WalHeader}
use Rattle.wal.proofs.Frames.{good-append, good-cons, committed-snoc}
use Rattle.wal.proofs.Laid.{joined, Whole, joined-append, whole_append}
use Rattle.wal.proofs.Laid as laid
use Rattle.pager_state.specs.Stores.{Disk, content, Kind, Put, stored, cut_store}
use Rattle.pager_state.specs.declared.FileKind.TheVariants as file
use Rattle.history.specs.Model.{Model}
use Rattle.history.proofs.Files.{putting, put-file, put-front, reach-behind, take_min, appended}
use Rattle.history.proofs.Disk.{ModelIs, OnDisk, DiskOk, short-stop, none-committed, log-inside, log-len}

module _ {d : Disk} {b : Model} {l : WalHeader} {S P : List (List ℕ)} {mh : DbHeader} (o : OnDisk d b l S P [] mh)
    (f : List ℕ) (long : length f ≡ frame_size) (fine : good l.salt f ≡ true) (room : d.log.len + frame_size ≤ wal_area) where
  -- the files with bytes behind the log
  abbrev pub longer : List ℕ → Disk
  longer xs = record { main = d.main; log = putting d.log d.log.len xs }

  behind : header_size ≤ d.log.len
  behind = omega (arith, log-len o)

  pub whole-store : (k : Kind) (flush : Bool) → stored (Put k file.Log d.log.len f flush) d ≡ longer f
  whole-store k flush = rw (put-file d.log d.log.len f (omega arith))

  pub cut-store : (k : Kind) (flush : Bool) (n : ℕ) → cut_store (Put k file.Log d.log.len f flush) n d ≡ longer (take n f)
  cut-store k flush n =
      rw (reach-behind d.log.len f n behind, put-front d.log d.log.len f (min n (length f)) (omega arith), take_min n f)

  content-is : (xs : List ℕ) → content (longer xs).log ≡ encode_wal_header l ++ (joined (S ++ P) ++ xs)
  content-is xs = appended d.log xs (log-inside o) ∙ rw o.log.bytes (simp (append_assoc, append-nil))

  area-is : (xs : List ℕ) → length xs ≤ frame_size → length (longer xs).log.area ≡ wal_area
  area-is xs h = length-put d.log.area d.log.len xs (omega (arith, o.log.area)) ∙ o.log.area

  fits : (xs : List ℕ) → length xs ≤ frame_size → (longer xs).log.len ≤ wal_area
  fits xs h = omega arith

  again : S ++ (P ++ (f ∷ [])) ≡ S ++ P ++ (f ∷ [])
  again = sym (append_assoc S P (f ∷ []))

  all_whole : Whole (S ++ (P ++ (f ∷ [])))
  all_whole = rw again (whole_append o.log.whole (laid.more long laid.none))

  all-good : good_front l.salt (S ++ (P ++ (f ∷ []))) ≡ S ++ (P ++ (f ∷ []))
  unfolding good_front
  all-good = rw again (good-append l.salt (S ++ P) (f ∷ []) o.log.good ∙ rw (good-cons l.salt f [] fine))

  all-content : content (longer f).log ≡ encode_wal_header l ++ (joined (S ++ (P ++ (f ∷ []))) ++ [])
  unfolding joined
  all-content = content-is f ∙ rw (again, joined-append (S ++ P) (f ∷ [])) (simp (append_assoc, append-nil))

  pub torn-on : (n : ℕ) → n < frame_size → OnDisk (longer (take n f)) b l S P (take n f) mh
  torn-on n h =
      let k : length (take n f) < frame_size = rw length-take (omega arith) in
      record {
        log =
            record {
              written = o.log.written;
              bytes = content-is (take n f);
              whole = o.log.whole;
              good = o.log.good;
              stop = short-stop (take n f) l.salt k;
              ends = o.log.ends;
              loose = o.log.loose;
              area = area-is (take n f) (omega arith);
              fits = fits (take n f) (omega arith);
            };
        main = o.main;
        model = o.model;
      }

  pub whole-on : commit_count f ≡ 0 → OnDisk (longer f) b l S (P ++ (f ∷ [])) [] mh
  whole-on e =
      record {
        log =
            record {
              written = o.log.written;
              bytes = all-content;
              whole = all_whole;
              good = all-good;
              stop = short-stop [] l.salt (omega arith);
              ends = o.log.ends;
              loose = committed-snoc P f ∙ rw (eq-eqb (commit_count f) 0 e) o.log.loose;
              area = area-is f (omega arith);
              fits = fits f (omega arith);
            };
        main = o.main;
        model = o.model;
      }

  pub committed-on : (commit_count f ≡ 0 → ⊥) → (c : Model) → ModelIs d.main.area c (S ++ (P ++ (f ∷ []))) mh
      → OnDisk (longer f) c l (S ++ (P ++ (f ∷ []))) [] [] mh
  committed-on ne c model =
      let nil : S ++ (P ++ (f ∷ [])) ++ [] ≡ S ++ (P ++ (f ∷ [])) = append-nil (S ++ (P ++ (f ∷ []))) in
      record {
        log =
            record {
              written = o.log.written;
              bytes = rw nil all-content;
              whole = rw nil all_whole;
              good = rw nil all-good;
              stop = short-stop [] l.salt (omega arith);
              ends = rw again (committed-snoc (S ++ P) f ∙ rw (ne_eqb (commit_count f) 0 ne));
              loose = none-committed;
              area = area-is f (omega arith);
              fits = fits f (omega arith);
            };
        main = o.main;
        model = model;
      }

  -- a cut store leaves the files as they should be
  pub cut_ok : (k : Kind) (flush : Bool) (n : ℕ) → n < frame_size → (z : List ℕ) → joined S ≡ z → DiskOk (cut_store (Put k file.Log d.log.len f flush) n d) b z
  cut_ok k flush n h z e = rw (cut-store k flush n) (record { l = l; S = S; P = P; t = take n f; mh = mh; on = torn-on n h; kept = e })
