-- Each way that appending a batch can end, from the tests that lead there. Assumes nothing.
use mathlib.Core.Path.{◌≡◌, refl, sym, ap, ◌∙◌}
use mathlib.Core.Bool.{true, false}
use mathlib.Core.List.{List, ◌++◌}
use Prim.Native.Nat.{ℕ, ◌+◌, ◌-◌, ◌≤◌, ◌<◌}
use native.Mathlib.Omega.{arith}
use borrow.Author.Tests.{eq-eqb, eqb-true, le-leb, leb-true, lt-leb}
use lib.Dec.{eqb, leb}
use lib.ListN.{length, take, drop, length-take, length-drop, take-append-drop}
use lib.Seq.{drop-drop}
use Rattle.std.specs.Prelude.{None, Some, Result, Ok, Err}
use Rattle.std.specs.Result.{IsErrAnd}
use Rattle.std.proofs.lemmas.Result.{err_from_is_err_and}
use Rattle.le.specs.Choice.{both}
use Rattle.le.specs.Le.{Bytes, put}
use Rattle.le.proofs.Compare.{both_true, both-assoc}
use Rattle.le.proofs.Stores.{length-put, store-put}
use Rattle.refusal.specs.declared.Refusal.{Refusal}
use Rattle.refusal.specs.declared.Refusal.TheVariants as refusal
use Rattle.refusal.proofs.Judged.{row_back}
use Rattle.frame.specs.Frame.{encode_frame, heading_after}
use Rattle.frame.proofs.Stores.{frame-written}
use Rattle.mvcc.specs.Seen.{heading_refusal, decode_refusal, canonical}
use Rattle.mvcc.proofs.Canonical.{none-decodes, canonical-length}
use Rattle.mvcc.proofs.Heading.{heading_row, decode-first}
use Rattle.mvcc_canonical.specs.Canonical.{canonical_refusal, canonicalized, canonical_bytes}
use Rattle.wal.specs.Write.{area_fine, with_frame, has_room}
use Rattle.wal.specs.declared.Wal.{Wal}
use Rattle.wal_batch.specs.Batch.{lent, batch_refusal, batch_answer, batch_after}

module _ (l : List ℕ) (w : Wal) (s : List ℕ) where
  abbrev pub Says : Result Wal Refusal → List ℕ → Type 0
  Says r m = record { value : r ≡ batch_answer l w s; log_after : m ≡ batch_after l w s }

  -- a refusal leaves the log as it was
  says-refused : (f : Refusal) {r : Result Wal Refusal} → batch_refusal l w s ≡ Some f → r ≡ Err f → Says r l
  unfolding batch_answer batch_after
  says-refused f e q = record { value = rw (q, e); log_after = rw e }

  lent-is : lent l w s ≡ both (area_fine l w) (leb (length s) 4096)
  lent-is = sym (both-assoc (eqb (length l) 4210720) (leb w.len 4210720) (leb (length s) 4096))

  pub way-area : {r : Result Wal Refusal} → (area_fine l w ≡ false) × (r ≡ Err refusal.Area) → Says r l
  unfolding batch_refusal
  way-area p = says-refused refusal.Area (rw (lent-is, p.0)) p.1

  module _ (fine : area_fine l w ≡ true) where
    pub way_long : 4096 < length s → Says (Err refusal.Area) l
    unfolding batch_refusal
    way_long n = says-refused refusal.Area (rw (lent-is, fine, lt-leb _ _ n)) refl

    module _ (ns : length s ≤ 4096) where
      pub way-heading : {q : Refusal} (r : Result Wal Refusal) → IsErrAnd r (λ y. y ≡ q) → heading_refusal s ≡ Some q → Says r l
      unfolding batch_refusal
      way-heading {q} r p h =
          let e = err_from_is_err_and r p in
          says-refused q (rw (lent-is, fine, le-leb _ _ ns, h)) (rw (e.1, e.2))

      pub way-full : {r : Result Wal Refusal} → heading_refusal s ≡ None → (has_room w ≡ false) × (r ≡ Err refusal.LogFull) → Says r l
      unfolding batch_refusal
      way-full h p = says-refused refusal.LogFull (rw (lent-is, fine, le-leb _ _ ns, h, p.0)) p.1

-- where there is room: the page behind the heading's place is lent, and comes back
module _ (l : List ℕ) (w : Wal) (s : List ℕ) (fine : area_fine l w ≡ true) (ns : length s ≤ 4096) (k : has_room w ≡ true) where
  abbrev from : ℕ
  from = w.len + 16

  abbrev page : List ℕ
  page = take (w.len + 4112 - from) (drop from l)

  abbrev back : List ℕ → List ℕ
  back p = take from l ++ (p ++ drop (w.len + 4112 - from) (drop from l))

  nl : length l ≡ 4210720
  nl = eqb-true _ _ (both_true _ _ fine).0

  room : w.len + 4112 ≤ 4210720
  room = leb-true _ _ k

  page-length : length page ≡ 4096
  page-length = simp (length-take, length-drop) (omega (arith, nl, room))

  -- the page's place with the canonical form in it
  canonical-back : length (canonical s) ≡ 4096 → back (canonical s) ≡ put l from (canonical s)
  unfolding put
  canonical-back c =
      let k : from + (w.len + 4112 - from) ≡ from + length (canonical s) = rw c (omega arith) in
      rw (drop-drop (w.len + 4112 - from) from l, k)

  -- the body is decoded, and nothing else refuses it
  judged : batch_refusal l w s ≡ decode_refusal s
  unfolding batch_refusal
  judged = rw (lent-is l w s, fine, le-leb _ _ ns, k) (sym (decode-first s))

  written : canonical_refusal s page ≡ decode_refusal s
  unfolding canonical_refusal
  written = rw (eq-eqb _ _ page-length, le-leb _ _ ns)

  told_is : {x : Result Unit Refusal} → x ≡ canonicalized s page → decode_refusal s ≡ heading_row x
  told_is e = sym (ap heading_row e ∙ row_back Err (Ok tt) heading_row refl (λ r. refl) (canonical_refusal s page) ∙ written)

  -- the body did not decode: the page is as it was
  pub way-refused : {q : Refusal} {p : List ℕ} (r : Result Wal Refusal) → IsErrAnd r (λ y. y ≡ q) → Err q ≡ canonicalized s page → p ≡ canonical_bytes s page
      → Says l w s r (back p)
  unfolding batch_answer batch_after
  way-refused {q} {p} r i e f =
      let d : decode_refusal s ≡ Some q = told_is e in
      let g : p ≡ page = f ∙ rw (written, d) in
      let b : back p ≡ l = rw (g, take-append-drop (w.len + 4112 - from) (drop from l)) (take-append-drop from l) in
      let t = err_from_is_err_and r i in
      record { value = rw (t.1, t.2, judged, d); log_after = b ∙ rw (judged, d) }

  -- it did: its canonical form lies there, and becomes a frame
  pub way-done : {p m : List ℕ} {v : Wal} → Bytes s → Ok tt ≡ canonicalized s page → p ≡ canonical_bytes s page
      → m ≡ heading_after (back p) w.len 4294967295 0 w.header.salt → v ≡ with_frame w 0 → Says l w s (Ok v) m
  unfolding batch_answer batch_after heading_after
  way-done {p} {m} {v} sb e f h i =
      let d : decode_refusal s ≡ None = told_is e in
      let c : length (canonical s) ≡ 4096 = canonical-length s sb (none-decodes s d) ns in
      let q : p ≡ canonical s = f ∙ rw (written, d) in
      let b : back p ≡ put l from (canonical s) = rw q (canonical-back c) in
      let k : from + length (canonical s) ≤ length l = rw (c, nl) (omega (arith, room)) in
      let r : w.len + 4112 ≤ length (put l from (canonical s)) = rw (length-put l from (canonical s) k, nl) room in
      let j : m ≡ put l w.len (encode_frame 4294967295 0 w.header.salt (canonical s)) =
      frame-written l w.len 4294967295 0 w.header.salt (canonical s) c (rw nl room) (sym (store-put l from (canonical s) k))
      (h ∙ rw (b, le-leb _ _ r)) in
      record { value = rw (i, judged, d); log_after = j ∙ rw (judged, d) }
