-- Well-formed UTF-8, as the Unicode Standard defines it: section 3.9, D92, with table 3-7, "Well-Formed UTF-8 Byte Sequences", row by row.
-- RFC 3629, section 4, gives the same sequences as a grammar. This is the definition; Utf8 computes it, and `agrees` shows that the two agree.
use Rattle.std.specs.Prelude.{ℕ, suc, ◌≤◌, List, [], ◌∷◌, ◌++◌}

-- the byte b is from lo to hi
pub record In (lo hi b : ℕ) : Type 0 where
  pub low : lo ≤ b
  pub high : b ≤ hi

-- the table: a sequence is the bytes of one scalar value; the comment is the row's code points
pub data Sequence : List ℕ → Type 0 where
  -- U+0000..U+007F
  row1 : {a : ℕ} → In 0x00 0x7f a → Sequence (a ∷ [])
  -- U+0080..U+07FF
  row2 : {a b : ℕ} → In 0xc2 0xdf a → In 0x80 0xbf b → Sequence (a ∷ b ∷ [])
  -- U+0800..U+0FFF
  row3 : {a b c : ℕ} → In 0xe0 0xe0 a → In 0xa0 0xbf b → In 0x80 0xbf c → Sequence (a ∷ b ∷ c ∷ [])
  -- U+1000..U+CFFF
  row4 : {a b c : ℕ} → In 0xe1 0xec a → In 0x80 0xbf b → In 0x80 0xbf c → Sequence (a ∷ b ∷ c ∷ [])
  -- U+D000..U+D7FF
  row5 : {a b c : ℕ} → In 0xed 0xed a → In 0x80 0x9f b → In 0x80 0xbf c → Sequence (a ∷ b ∷ c ∷ [])
  -- U+E000..U+FFFF
  row6 : {a b c : ℕ} → In 0xee 0xef a → In 0x80 0xbf b → In 0x80 0xbf c → Sequence (a ∷ b ∷ c ∷ [])
  -- U+10000..U+3FFFF
  row7 : {a b c d : ℕ} → In 0xf0 0xf0 a → In 0x90 0xbf b → In 0x80 0xbf c → In 0x80 0xbf d → Sequence (a ∷ b ∷ c ∷ d ∷ [])
  -- U+40000..U+FFFFF
  row8 : {a b c d : ℕ} → In 0xf1 0xf3 a → In 0x80 0xbf b → In 0x80 0xbf c → In 0x80 0xbf d → Sequence (a ∷ b ∷ c ∷ d ∷ [])
  -- U+100000..U+10FFFF
  row9 : {a b c d : ℕ} → In 0xf4 0xf4 a → In 0x80 0x8f b → In 0x80 0xbf c → In 0x80 0xbf d → Sequence (a ∷ b ∷ c ∷ d ∷ [])

-- a text of n sequences: it is well-formed, and n is "the number of Unicode scalar values" of document 02, P6
pub data Sequences : ℕ → List ℕ → Type 0 where
  none : Sequences 0 []
  more : {n : ℕ} {q s : List ℕ} → Sequence q → Sequences n s → Sequences (suc n) (q ++ s)
