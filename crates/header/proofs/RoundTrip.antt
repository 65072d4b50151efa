-- Encoding and decoding undo each other. Assumes nothing.
use mathlib.Core.Path.{◌≡◌, refl, sym, ap, ◌∙◌}
use mathlib.Core.Bool.{true}
use mathlib.Core.List.{List, ◌++◌, append_assoc}
use Prim.Native.Nat.{ℕ, ◌+◌, ◌^◌, ◌≤◌, ◌<◌}
use native.Mathlib.Nat.{zero-add}
use native.Mathlib.Omega.{arith}
use borrow.Author.Tests.{eqb-true, leb-true, eq-eqb, le-leb}
use lib.Dec.{leb}
use lib.ListN.{length, take, drop, replicate}
use lib.Seq.{take-add, take_at, take-take, drop-drop}
use Rattle.std.specs.Prelude.{Err, Ok}
use Rattle.le.specs.Le.{Bytes, le_bytes, field, same_bytes}
use Rattle.le.proofs.Fields.{length-le_bytes, field-front, field-behind, field-part, le_bytes-field}
use Rattle.le.proofs.Compare.{both_true, same_refl, same-equal}
use Rattle.refusal.proofs.Headers.{read, passed}
use Rattle.header.specs.Header.{magic, header_fields, encode_header, header_in, header_tests, decode_header}
use Rattle.header.specs.declared.DbHeader.{DbHeader}
use Rattle.header.proofs.Encoding.{length-magic, length-header_fields, length-encode_header}

-- ---- what was encoded decodes to itself

-- a header as the code can hold it, of an accepted version
pub record Plain (h : DbHeader) : Type 0 where
  pub count : h.page_count < 2 ^ 32
  pub root : h.schema_root_page < 2 ^ 32
  pub free : h.freelist_head < 2 ^ 32
  pub low : 4 ≤ h.format_version
  pub high : h.format_version ≤ 6

-- the page that encoding writes, field behind field
row : (h : DbHeader) → encode_header h
    ≡ magic ++ (le_bytes 2 h.format_version ++ (le_bytes 2 4096 ++ (le_bytes 4 h.page_count
    ++ (le_bytes 4 h.schema_root_page ++ (le_bytes 4 h.freelist_head ++ replicate 4064 0)))))
unfolding encode_header header_fields
row h = simp append_assoc

-- what stands behind the page size
numbers : DbHeader → List ℕ
numbers h = le_bytes 4 h.page_count ++ (le_bytes 4 h.schema_root_page ++ (le_bytes 4 h.freelist_head ++ replicate 4064 0))

module _ (h : DbHeader) (p : Plain h) where
  version : field 2 16 (encode_header h) ≡ h.format_version
  version = rw (row h, field-behind 2 16 0 magic _ length-magic) (field-front 2 h.format_version _ (omega (arith, p.high)))

  size : field 2 18 (encode_header h) ≡ 4096
  size =
      rw (row h, field-behind 2 16 2 magic _ length-magic, field-behind 2 2 0 _ _ (length-le_bytes 2 h.format_version))
      (field-front 2 4096 _ (omega arith))

  number : (k m : ℕ) → m ≡ 20 + k → field 4 m (encode_header h) ≡ field 4 k (numbers h)
  unfolding numbers
  number k m e =
      let f : m ≡ 16 + (2 + (2 + k)) = omega arith in
      rw (
        row h,
        f,
        field-behind 4 16 (2 + (2 + k)) magic _ length-magic,
        field-behind 4 2 (2 + k) _ _ (length-le_bytes 2 h.format_version),
        field-behind 4 2 k _ _ (length-le_bytes 2 4096),
      )

  count : field 4 20 (encode_header h) ≡ h.page_count
  unfolding numbers
  count = number 0 20 refl ∙ field-front 4 h.page_count _ (omega (arith, p.count))

  root : field 4 24 (encode_header h) ≡ h.schema_root_page
  unfolding numbers
  root =
      number 4 24 refl ∙ rw (field-behind 4 4 0 _ _ (length-le_bytes 4 h.page_count))
      (field-front 4 h.schema_root_page _ (omega (arith, p.root)))

  free : field 4 28 (encode_header h) ≡ h.freelist_head
  unfolding numbers
  free =
      number 8 28 refl ∙ rw (field-behind 4 4 4 _ _ (length-le_bytes 4 h.page_count), field-behind 4 4 0 _ _ (length-le_bytes 4 h.schema_root_page))
      (field-front 4 h.freelist_head _ (omega (arith, p.free)))

  pub decode-encode : decode_header (encode_header h) ≡ Ok h
  unfolding header_in decode_header
  decode-encode =
      let m : same_bytes (take 16 (encode_header h)) magic ≡ true = rw (row h, take_at magic _ 16 length-magic) (same_refl magic) in
      let low : 4 ≤ field 2 16 (encode_header h) = rw version p.low in
      let high : field 2 16 (encode_header h) ≤ 6 = rw version p.high in
      sym (read Err (Ok (header_in (encode_header h))) (header_tests (encode_header h)) (eq-eqb _ _ (length-encode_header h)) m
      (rw (le-leb _ _ low, le-leb _ _ high)) (eq-eqb _ _ size)) ∙ rw (count, root, version, free)

-- ---- what decodes encodes to the same first 32 bytes

-- what a header that was decoded says of the bytes
pub record Read (l : List ℕ) (h : DbHeader) : Type 0 where
  pub long : length l ≡ 4096
  pub leading : take 16 l ≡ magic
  pub low : 4 ≤ field 2 16 l
  pub high : field 2 16 l ≤ 6
  pub paged : field 2 18 l ≡ 4096
  pub fields : header_in l ≡ h

pub decoded-as : (l : List ℕ) (h : DbHeader) → decode_header l ≡ Ok h → Read l h
unfolding decode_header
decoded-as l h e =
    let p = passed Err (Ok (header_in l)) (Ok h) (λ r f. let z : ◌≡◌ {A = ℕ} 0 1 = cc in absurd (omega arith)) (header_tests l) e in
    let w = both_true (leb 4 (field 2 16 l)) (leb (field 2 16 l) 6) p.version in
    let d : Ok (header_in l) ≡ Ok h = p.same in
    record {
      long = eqb-true _ _ p.long;
      leading = same-equal (take 16 l) magic p.leading;
      low = leb-true _ _ w.0;
      high = leb-true _ _ w.1;
      paged = eqb-true _ _ p.paged;
      fields = cc;
    }

-- the first 32 bytes are those of the fields that lie there
fields-there : (l : List ℕ) → Bytes l → length l ≡ 4096 → take 16 l ≡ magic → field 2 18 l ≡ 4096 → header_fields (header_in l) ≡ take 32 l
unfolding header_fields header_in
fields-there l b n m s =
    rw (
      ← m,
      ← s,
      le_bytes-field 2 16 l b (omega arith),
      le_bytes-field 2 18 l b (omega arith),
      le_bytes-field 4 20 l b (omega arith),
      le_bytes-field 4 24 l b (omega arith),
      le_bytes-field 4 28 l b (omega arith),
      take-add 16 16 l,
      take-add 2 14 (drop 16 l),
      drop-drop 2 16 l,
      take-add 2 12 (drop 18 l),
      drop-drop 2 18 l,
      take-add 4 8 (drop 20 l),
      drop-drop 4 20 l,
      take-add 4 4 (drop 24 l),
      drop-drop 4 24 l,
    )

pub encode-decode : (l : List ℕ) (h : DbHeader) → Bytes l → decode_header l ≡ Ok h → take 32 (encode_header h) ≡ take 32 l
unfolding encode_header
encode-decode l h b e =
    let r = decoded-as l h e in
    rw (take_at (header_fields h) (replicate 4064 0) 32 (length-header_fields h), ← r.fields)
    (fields-there l b r.long r.leading r.paged)

-- ---- nothing behind byte 32 is read

pub decode-front : (a b : List ℕ) → length a ≡ length b → take 32 a ≡ take 32 b → decode_header a ≡ decode_header b
unfolding decode_header header_in
decode-front a b n e =
    let inside : (w k : ℕ) → k + w ≤ 32 → field w k a ≡ field w k b =
    λ w k h. rw zero-add at (sym (field-part w k 32 0 a h) ∙ ap (λ (l : List ℕ). field w k l) e ∙ field-part w k 32 0 b h) in
    let m : take 16 a ≡ take 16 b =
    sym (take-take 16 32 a (omega arith)) ∙ ap (λ (l : List ℕ). take 16 l) e ∙ take-take 16 32 b (omega arith) in
    rw (n, m, inside 2 16 (omega arith), inside 2 18 (omega arith), inside 4 20 (omega arith), inside 4 24 (omega arith), inside 4 28 (omega arith))
