-- The lines that document 01 prints of a log, as bytes: "The program `loglist` reads a log ..".
use Rattle.std.specs.Prelude.{Err, None, Ok, Option, Result, Some, List, [], ◌∷◌, ◌++◌, ℕ, zero, suc, ◌+◌, ◌/◌, ◌%◌, leb, ltb, eqb, length}
use Rattle.le.specs.Choice.{pick}
use Rattle.le.specs.Le.{field}
use Rattle.io.specs.Digits.{last_digits}
use Rattle.refusal.specs.Refusal.{number as row_number}
use Rattle.refusal.specs.declared.Refusal.{Refusal}
use Rattle.refusal.specs.declared.Refusal.TheVariants as refusal
use Rattle.frame.specs.Frame.{body_of}
use Rattle.wal.specs.Recovery.{batch_page, page_of, commit_count, Recovered, recovered, frame_count_of, commit_point, last_commit_of, open_log}
use Rattle.wal.specs.declared.WalHeader.{WalHeader}
use Rattle.wal.specs.declared.Wal.{Wal}

-- ---- pieces

-- the decimal digits of n, which has at most k of them, without zeros in front
unfoldable pub decimals : ℕ → ℕ → List ℕ
decimals zero n = []
decimals (suc k) n = pick (ltb n 10) ((48 + n) ∷ []) (decimals k (n / 10) ++ ((48 + n % 10) ∷ []))

-- a number of the log, 64 bits or fewer
unfoldable pub decimal : ℕ → List ℕ
decimal n = decimals 20 n

-- a space, and a number
unfoldable pub number_text : ℕ → List ℕ
number_text n = (32 ∷ []) ++ decimal n

-- a space, and "salt (8 hexadecimal digits)", in lower case
unfoldable pub salt_text : ℕ → List ℕ
salt_text n = (32 ∷ []) ++ last_digits 16 8 n

-- "log", " page", " batch", "end", " -", "refused"
abbrev pub word_log : List ℕ
word_log = 108 ∷ 111 ∷ 103 ∷ []

abbrev pub word_page : List ℕ
word_page = 32 ∷ 112 ∷ 97 ∷ 103 ∷ 101 ∷ []

abbrev pub word_batch : List ℕ
word_batch = 32 ∷ 98 ∷ 97 ∷ 116 ∷ 99 ∷ 104 ∷ []

abbrev pub word_end : List ℕ
word_end = 101 ∷ 110 ∷ 100 ∷ []

abbrev pub word_none : List ℕ
word_none = 32 ∷ 45 ∷ []

abbrev pub word_refused : List ℕ
word_refused = 114 ∷ 101 ∷ 102 ∷ 117 ∷ 115 ∷ 101 ∷ 100 ∷ []

abbrev pub newline : List ℕ
newline = 10 ∷ []

-- ---- lines

-- "First line: version, salt (8 hexadecimal digits), sequence, clock"
unfoldable pub log_line : WalHeader → List ℕ
log_line h =
    word_log ++ number_text h.version ++ salt_text h.salt ++ number_text h.checkpoint_seq ++ number_text h.clock_high_water ++ newline

-- "`page` and number or `batch` and record count": of a page number and the frame's bytes
unfoldable pub kind_text : ℕ → List ℕ → List ℕ
kind_text page f = pick (eqb page batch_page) (word_batch ++ number_text (field 2 16 (body_of f))) (word_page ++ number_text page)

-- "Good frames: index, `page` and number or `batch` and record count, commit count"
unfoldable pub frame_line : ℕ → List ℕ → List ℕ
frame_line i f = decimal i ++ kind_text (page_of f) f ++ number_text (commit_count f) ++ newline

-- the lines of frames of which the first has index i
unfoldable pub frame_lines : ℕ → List (List ℕ) → List ℕ
frame_lines i [] = []
frame_lines i (f ∷ fs) = frame_line i f ++ frame_lines (i + 1) fs

-- "last commit count or `-`"
unfoldable pub last_text : Option ℕ → List ℕ
last_text None = word_none
last_text (Some n) = number_text n

-- "End: frame count, commit point, last commit count or `-`"
unfoldable pub end_line : ℕ → ℕ → Option ℕ → List ℕ
end_line frames point last = word_end ++ number_text frames ++ number_text point ++ last_text last ++ newline

-- "A refused header: `refused` and the number"
unfoldable pub refused_line : Refusal → List ℕ
refused_line r = word_refused ++ number_text (row_number r) ++ newline

-- ---- the whole listing

-- of what reading found
unfoldable pub opened_text : Recovered → List ℕ
opened_text r = log_line r.header ++ frame_lines 0 r.frames ++ end_line (frame_count_of r) (commit_point r) (last_commit_of r)

-- of what opening says
abbrev pub listing_of : List ℕ → Result Wal Refusal → List ℕ
listing_of l (Ok w) = opened_text (recovered l)
listing_of l (Err r) = refused_line r

-- "reads a log of at most 61,712 bytes (15 frames) ..; a longer one prints `refused 1`"
unfoldable pub listing : List ℕ → List ℕ
listing l = pick (leb (length l) 61712) (listing_of l (open_log l)) (refused_line refusal.Area)
