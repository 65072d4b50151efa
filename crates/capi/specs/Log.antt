-- What the calls of the log and of the two headers answer, in numbers: 0 or document 01's number of the refusal, beside which all
-- else is 0. Open logs go over as `numbers_of_wal` has them and are taken as `wal_in` has them.
use Rattle.std.specs.Prelude.{Err, None, Ok, Option, Result, Some, ℕ}
use Rattle.refusal.specs.Refusal.{number}
use Rattle.refusal.specs.declared.Refusal.{Refusal}
use Rattle.wal.specs.declared.WalHeader.{WalHeader}
use Rattle.wal.specs.declared.Wal.{Wal}
use Rattle.wal.specs.declared.BatchAt.{BatchAt}
use Rattle.wal.specs.declared.FrameAt.{FrameAt}
use Rattle.pager_state.specs.Opening.{no_header}
use Rattle.capi_numbers.specs.Numbers.{numbers_of_wal}
use Rattle.capi_numbers.specs.declared.WalNumbers.{WalNumbers}
use Rattle.capi.specs.declared.log.WalAnswer.{WalAnswer}
use Rattle.capi.specs.declared.log.WalHeaderAnswer.{WalHeaderAnswer}
use Rattle.capi.specs.declared.log.FrameAnswer.{FrameAnswer}
use Rattle.capi.specs.declared.log.ListAnswer.{ListAnswer}
use Rattle.capi_answers.specs.declared.HeaderAnswer.{HeaderAnswer}
use Rattle.capi_answers.specs.declared.PageAnswer.{PageAnswer}
use Rattle.capi_answers.specs.declared.BatchPlace.{BatchPlace}

-- ---- answers that give an open log

abbrev pub no_wal_header : WalHeader
no_wal_header = record { version = 0; salt = 0; checkpoint_seq = 0; clock_high_water = 0 }

abbrev pub no_wal : WalNumbers
no_wal =
    record {
      header = no_wal_header;
      len = 0;
      good_end = 0;
      last_commit_offset = 0;
      frame_count = 0;
      committed = 0;
      last_commit_page_count = 0;
    }

abbrev pub log_refused : Refusal → WalAnswer
log_refused r = record { refusal = number r; wal = no_wal }

abbrev pub log_given : Wal → WalAnswer
log_given w = record { refusal = 0; wal = numbers_of_wal w }

abbrev pub log_as : Result Wal Refusal → WalAnswer
log_as (Ok w) = log_given w
log_as (Err r) = log_refused r

-- ---- what stands in a log

-- a frame's first byte and heading, where one stands at an index
abbrev pub frame_as : Option FrameAt → FrameAnswer
frame_as (Some f) = record { found = 1; offset = f.offset; header = f.header }
frame_as None =
    record { found = 0; offset = 0; header = record { page_num = 0; commit_page_count = 0; salt = 0; checksum = 0 } }

-- a page's first byte in the log, which is area 1; area 0 is none
abbrev pub place_as : Option ℕ → PageAnswer
place_as (Some at) = record { refusal = 0; area = 1; at = at }
place_as None = record { refusal = 0; area = 0; at = 0 }

-- a batch's index and its frame's first byte
abbrev pub batch_as : Option BatchAt → BatchPlace
batch_as (Some b) = record { refusal = 0; found = 1; index = b.index; offset = b.offset }
batch_as None = record { refusal = 0; found = 0; index = 0; offset = 0 }

-- how many bytes a listing has
abbrev pub listed_as : Result ℕ Refusal → ListAnswer
listed_as (Ok n) = record { refusal = 0; len = n }
listed_as (Err r) = record { refusal = number r; len = 0 }

-- ---- headers

abbrev pub wal_header_refused : Refusal → WalHeaderAnswer
wal_header_refused r = record { refusal = number r; header = no_wal_header }

abbrev pub wal_header_as : Result WalHeader Refusal → WalHeaderAnswer
wal_header_as (Ok h) = record { refusal = 0; header = h }
wal_header_as (Err r) = wal_header_refused r
