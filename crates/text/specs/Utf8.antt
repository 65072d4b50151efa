-- Well-formed UTF-8 and its number of scalar values, computed, sequence by sequence; the answer that from_utf8 gives; and its number in document 01.
use Rattle.std.specs.Prelude.{ℕ, zero, suc, ◌+◌, ◌-◌, ◌*◌, List, [], ◌∷◌, Bool, true, false, ◌&&◌, ◌||◌, leb, ltb, length, get_or, Option, Some, None}
use Rattle.le.specs.Choice.{pick}

-- a byte that can stand after the first of a sequence
abbrev pub continues : ℕ → Bool
continues b = leb 0x80 b && leb b 0xbf

-- the first two bytes of a sequence as one number: the second has 64 values, so that the numbers have the order of the pairs
abbrev pub pair : ℕ → ℕ → ℕ
pair a b = 64 * a + b

-- two bytes, the first below E0: the least is C2 80
unfoldable pub two : ℕ → ℕ → Bool
two a b = leb 0xc2 a && continues b

-- three bytes, the first from E0 to EF: the least is E0 A0 80; ED A0 80 to ED BF BF, the surrogates, are left out
unfoldable pub three : ℕ → ℕ → ℕ → Bool
three a b c =
    continues b && continues c && leb (pair 0xe0 0xa0) (pair a b) && (ltb (pair a b) (pair 0xed 0xa0) || ltb (pair 0xed 0xbf) (pair a b))

-- four bytes, the first from F0: the least is F0 90 80 80, and the greatest F4 8F BF BF
unfoldable pub four : ℕ → ℕ → ℕ → ℕ → Bool
four a b c d = continues b && continues c && continues d && leb (pair 0xf0 0x90) (pair a b) && leb (pair a b) (pair 0xf4 0x8f)

abbrev pub byte : List ℕ → ℕ → ℕ
byte s i = get_or s i 0

-- n, if s has n bytes and ok holds
abbrev pub sequence_size : List ℕ → ℕ → Bool → ℕ
sequence_size s n ok = pick (leb n (length s) && ok) n 0

-- how many bytes the well-formed sequence has that s begins with; 0: s begins with none
unfoldable pub size : List ℕ → ℕ
size s =
    pick (ltb (byte s 0) 0x80) (sequence_size s 1 true)
    (pick (ltb (byte s 0) 0xe0) (sequence_size s 2 (two (byte s 0) (byte s 1)))
    (pick (ltb (byte s 0) 0xf0) (sequence_size s 3 (three (byte s 0) (byte s 1) (byte s 2)))
    (sequence_size s 4 (four (byte s 0) (byte s 1) (byte s 2) (byte s 3)))))

-- a sequence of n bytes, and f of what is left of it after its first byte
abbrev pub then_byte : ℕ → (ℕ → Bool) → Bool
then_byte zero f = false
then_byte (suc n) f = f n

-- s after its first k bytes is a run of well-formed sequences
unfoldable pub formed_behind : List ℕ → ℕ → Bool
formed_behind [] k = true
formed_behind (a ∷ s) zero = then_byte (size (a ∷ s)) (formed_behind s)
formed_behind (a ∷ s) (suc k) = formed_behind s k

unfoldable pub well_formed : List ℕ → Bool
well_formed s = formed_behind s 0

-- the number of sequences of s after its first k bytes; it is asked of well-formed texts alone
unfoldable pub chars_behind : List ℕ → ℕ → ℕ
chars_behind [] k = 0
chars_behind (a ∷ s) zero = suc (chars_behind s (size (a ∷ s) - 1))
chars_behind (a ∷ s) (suc k) = chars_behind s k

-- "The text check now also gives the number of Unicode scalar values"
unfoldable pub chars : List ℕ → ℕ
chars s = chars_behind s 0

-- a well-formed text's number; an ill-formed text has none
abbrev pub utf8_of : List ℕ → Option ℕ
utf8_of s = pick (well_formed s) (Some (chars s)) None

-- document 01's number: 0 for a result, 19 for a text that is not UTF-8
abbrev pub utf8_refusal : Option ℕ → ℕ
utf8_refusal (Some n) = 0
utf8_refusal None = 19
