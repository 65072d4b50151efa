-- A batch as plain data, and the body that `MvccCommitBatch::encode` writes for it.
use Rattle.std.specs.Prelude.{◌≡◌, Bool, true, List, [], ◌∷◌, ◌++◌, ℕ, ◌-◌, ◌^◌, ◌<◌, length, replicate, ℤ}
use Rattle.std.proofs.Common.{of_z, SFits}
use Rattle.std.specs.Int.{w64}
use Rattle.le.specs.Choice.{pick}
use Rattle.le.specs.Le.{le_bytes}
use Rattle.text.specs.Utf8.{well_formed}

-- a value; a real and the elements of a vector are their bits
pub data Val : Type 0 where
  null : Val
  integer : ℤ → Val
  real : ℕ → Val
  text : List ℕ → Val
  bool : Bool → Val
  vector : List ℕ → Val

pub record Col : Type 0 where
  pub name : List ℕ
  pub val : Val

pub data Rec : Type 0 where
  tombstone : List ℕ → ℤ → Rec
  present : List ℕ → ℤ → List Col → Rec

-- ---- encoding

-- the bytes of things of one kind, one after the other
unfoldable pub all : {A : Type 0} → (A → List ℕ) → List A → List ℕ
all f [] = []
all f (x ∷ xs) = f x ++ all f xs

-- a text with a length of k bytes
unfoldable pub encode_text : ℕ → List ℕ → List ℕ
encode_text k t = le_bytes k (length t) ++ t

-- "0 null; 1 integer; 2 real; 3 text; 4 bool; 5 vector"
unfoldable pub encode_value : Val → List ℕ
encode_value null = 0 ∷ []
encode_value (integer z) = 1 ∷ le_bytes 8 (of_z w64 z)
encode_value (real n) = 2 ∷ le_bytes 8 n
encode_value (text t) = 3 ∷ encode_text 4 t
encode_value (bool b) = 4 ∷ (pick b 1 0 ∷ [])
encode_value (vector ws) = 5 ∷ (le_bytes 4 (length ws) ++ all (le_bytes 4) ws)

-- "a name text and a value"
unfoldable pub encode_column : Col → List ℕ
encode_column c = encode_text 2 c.name ++ encode_value c.val

-- "op (1: 0 tombstone, 1 present), table text, row id (8, signed); if present a column count (2) and columns"
unfoldable pub encode_record : Rec → List ℕ
encode_record (tombstone t row) = 0 ∷ (encode_text 2 t ++ le_bytes 8 (of_z w64 row))
encode_record (present t row cs) = 1 ∷ (encode_text 2 t ++ (le_bytes 8 (of_z w64 row) ++ (le_bytes 2 (length cs) ++ all encode_column cs)))

-- "`MVCC0001`, commit time (8), record count (2), records"
unfoldable pub encode_batch : ℕ → List Rec → List ℕ
encode_batch t rs =
    (0x4d ∷ 0x56 ∷ 0x43 ∷ 0x43 ∷ 0x30 ∷ 0x30 ∷ 0x30 ∷ 0x31 ∷ []) ++ (le_bytes 8 t ++ (le_bytes 2 (length rs) ++ all encode_record rs))

-- "a batch being built would pass 4,096 bytes"; "the 18-byte heading": leading bytes, commit time and record count
abbrev pub body_size : ℕ
body_size = 4096

abbrev pub heading_size : ℕ
heading_size = 18

-- bytes with zeros behind them, 4,096 in all: "zero on writing"
unfoldable pub padded : List ℕ → List ℕ
padded l = l ++ replicate (body_size - length l) 0

unfoldable pub encode_body : ℕ → List Rec → List ℕ
encode_body t rs = padded (encode_batch t rs)

-- ---- what a batch may hold

-- every element is such
unfoldable pub Each : {A : Type 0} → (A → Type 0) → List A → Type 0
Each P [] = Unit
Each P (x ∷ xs) = P x × Each P xs

-- UTF-8 whose length fits its k bytes
pub record GoodText (k : ℕ) (t : List ℕ) : Type 0 where
  pub small : length t < 256 ^ k
  pub utf8 : well_formed t ≡ true

pub record GoodVector (ws : List ℕ) : Type 0 where
  pub small : length ws < 256 ^ 4
  pub words : Each (λ (w : ℕ). w < 256 ^ 4) ws

unfoldable pub GoodValue : Val → Type 0
GoodValue null = Unit
GoodValue (integer z) = SFits w64 z
GoodValue (real n) = n < 256 ^ 8
GoodValue (text t) = GoodText 4 t
GoodValue (bool b) = Unit
GoodValue (vector ws) = GoodVector ws

pub record GoodColumn (c : Col) : Type 0 where
  pub named : GoodText 2 c.name
  pub valued : GoodValue c.val

pub record GoodRow (t : List ℕ) (row : ℤ) : Type 0 where
  pub table : GoodText 2 t
  pub rowid : SFits w64 row

pub record GoodColumns (cs : List Col) : Type 0 where
  pub few : length cs < 256 ^ 2
  pub each : Each GoodColumn cs

unfoldable pub GoodRecord : Rec → Type 0
GoodRecord (tombstone t row) = GoodRow t row
GoodRecord (present t row cs) = GoodRow t row × GoodColumns cs

-- the fields of a batch fit their widths, and its texts are UTF-8
pub record GoodBatch (t : ℕ) (rs : List Rec) : Type 0 where
  pub time : t < 256 ^ 8
  pub few : length rs < 256 ^ 2
  pub each : Each GoodRecord rs
