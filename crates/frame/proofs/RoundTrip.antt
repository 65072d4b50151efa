-- A stored frame reads back intact, with its fields and its body. Assumes nothing.
use mathlib.Core.Path.{◌≡◌, sym, ◌∙◌}
use mathlib.Core.Bool.{true}
use mathlib.Core.List.{List, ◌++◌, append_assoc}
use Prim.Native.Nat.{ℕ, ◌+◌, ◌^◌, ◌≤◌, ◌<◌}
use native.Mathlib.Omega.{arith}
use borrow.Author.Tests.{eq-eqb, le-leb}
use lib.ListN.{length, take, length-append}
use lib.Seq.{take_at, drop_at}
use Rattle.le.specs.Le.{le_bytes, field, whole_field, put}
use Rattle.le.proofs.Fields.{length-le_bytes, field-front, field-behind, field-whole}
use Rattle.le.proofs.Stores.{length-put, part-put}
use Rattle.checksum.proofs.Sums.{sum_from-fits}
use Rattle.frame.specs.Frame.{heading, frame_sum, encode_frame, frame_at, frame_header, body_of, checksum_of, intact, intact_at}
use Rattle.frame.proofs.Stores.{length-heading, length-encode_frame}

module _ (page count salt : ℕ) (body : List ℕ) where
  -- the frame, field behind field
  row : encode_frame page count salt body ≡ le_bytes 4 page ++ (le_bytes 4 count ++ (le_bytes 4 salt ++ (le_bytes 4 (frame_sum page count salt body) ++ body)))
  unfolding encode_frame heading
  row = simp append_assoc

  pub page-back : page < 2 ^ 32 → field 4 0 (encode_frame page count salt body) ≡ page
  page-back h = rw row (field-front 4 page _ (omega arith))

  pub count-back : count < 2 ^ 32 → field 4 4 (encode_frame page count salt body) ≡ count
  count-back h = rw (row, field-behind 4 4 0 _ _ (length-le_bytes 4 page)) (field-front 4 count _ (omega arith))

  pub salt-back : salt < 2 ^ 32 → field 4 8 (encode_frame page count salt body) ≡ salt
  salt-back h =
      rw (row, field-behind 4 4 4 _ _ (length-le_bytes 4 page), field-behind 4 4 0 _ _ (length-le_bytes 4 count)) (field-front 4 salt _ (omega arith))

  sum_back : field 4 12 (encode_frame page count salt body) ≡ frame_sum page count salt body
  unfolding frame_sum
  sum_back =
      rw (row, field-behind 4 4 8 _ _ (length-le_bytes 4 page), field-behind 4 4 4 _ _ (length-le_bytes 4 count), field-behind 4 4 0 _ _ (length-le_bytes 4 salt))
      (field-front 4 (frame_sum page count salt body) body (sum_from-fits 0 (heading page count salt ++ body) (omega arith)))

  pub body_back : body_of (encode_frame page count salt body) ≡ body
  unfolding body_of encode_frame
  body_back =
      let n : length (heading page count salt ++ le_bytes 4 (frame_sum page count salt body)) ≡ 16 = simp (length-append, length-heading, length-le_bytes) in
      rw (← append_assoc) (drop_at (heading page count salt ++ le_bytes 4 (frame_sum page count salt body)) body 16 n)

  checksum-back : checksum_of (encode_frame page count salt body) ≡ frame_sum page count salt body
  unfolding checksum_of body_of encode_frame frame_sum
  checksum-back =
      let t : take 12 (encode_frame page count salt body) ≡ heading page count salt = take_at (heading page count salt) _ 12 (length-heading page count salt) in
      rw (t, body_back)

  -- the heading is wholly there
  pub whole_back : (k : ℕ) → k + 4 ≤ 16 → whole_field 4 k (encode_frame page count salt body) ≡ field 4 k (encode_frame page count salt body)
  unfolding encode_frame
  whole_back k h =
      let n : k + 4 ≤ length (encode_frame page count salt body) = simp (length-append, length-heading, length-le_bytes) (omega arith) in
      field-whole 4 k (encode_frame page count salt body) n

  pub header-back : page < 2 ^ 32 → count < 2 ^ 32 → salt < 2 ^ 32
      → frame_header (encode_frame page count salt body)
      ≡ record { page_num = page; commit_page_count = count; salt = salt; checksum = frame_sum page count salt body }
  unfolding frame_header
  header-back p c s =
      rw (
        whole_back 0 (omega arith),
        whole_back 4 (omega arith),
        whole_back 8 (omega arith),
        whole_back 12 (omega arith),
        page-back p,
        count-back c,
        salt-back s,
        sum_back,
      )

  pub intact-back : salt < 2 ^ 32 → intact salt (encode_frame page count salt body) ≡ true
  unfolding intact
  intact-back h =
      let e : field 4 12 (encode_frame page count salt body) ≡ checksum_of (encode_frame page count salt body) = sum_back ∙ sym checksum-back in
      rw (eq-eqb _ _ (salt-back h), eq-eqb _ _ e)

  -- the same in the log
  pub frame_back : (l : List ℕ) (at : ℕ) → length body ≡ 4096 → at ≤ length l
      → frame_at at (put l at (encode_frame page count salt body)) ≡ encode_frame page count salt body
  frame_back l at n h = part-put 4112 l at (encode_frame page count salt body) (length-encode_frame page count salt body n) h

  pub intact-there : (l : List ℕ) (at : ℕ) → length body ≡ 4096 → at + 4112 ≤ length l → salt < 2 ^ 32
      → intact_at (put l at (encode_frame page count salt body)) at salt ≡ true
  unfolding intact_at
  intact-there l at n h s =
      let k : at + length (encode_frame page count salt body) ≤ length l = rw (length-encode_frame page count salt body n) h in
      rw (length-put l at (encode_frame page count salt body) k, le-leb _ _ h, frame_back l at n (omega arith)) (intact-back s)
