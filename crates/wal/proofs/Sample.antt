-- Document 01's sample log: "version 3, salt, sequence and clock 0, and the two page-1 frames above". Assumes nothing.
use Rattle.std.proofs.Common.{◌≡◌, ℕ, true, false, List, [], ◌∷◌, ◌++◌, length, replicate, refl, ap, ◌∙◌, append-nil, arith, length-append}
use Rattle.std.specs.Prelude.{Ok, Some}
use lib.ListN.{length-replicate}
use Rattle.frame.specs.Frame.{encode_frame, intact_at}
use Rattle.frame.proofs.Stores.{length-encode_frame}
use Rattle.wal.specs.Header.{encode_wal_header, wal_header_in}
use Rattle.wal.specs.Recovery.{commit_count, good, good_at, good_front, committed, last_count, recovered, wal_of, open_log}
use Rattle.wal.specs.Write.{created_header}
use Rattle.wal.proofs.Encoding.{length-encode_wal_header}
use Rattle.wal.proofs.HeaderRoundTrip.{header-back, decode-encode}
use Rattle.wal.proofs.Frames.{good-page, count-encoded, committed-snoc, last_count-snoc}
use Rattle.wal.proofs.Laid.{Whole, none, more, joined, length-joined, laid-recovered}
use Rattle.wal.proofs.Opening.{opens}
use Rattle.wal.proofs.Writing.{created-written}

-- page 1, count 0 and page 1, count 2, of zeros
unfoldable pub page-frame : ℕ → List ℕ
page-frame count = encode_frame 1 count 0 (replicate 4096 0)

unfoldable pub frames : List (List ℕ)
frames = page-frame 0 ∷ page-frame 2 ∷ []

unfoldable pub sample : List ℕ
sample = encode_wal_header (created_header 0) ++ (joined frames ++ [])

whole : (count : ℕ) → length (page-frame count) ≡ 4112
unfolding page-frame
whole count = length-encode_frame 1 count 0 (replicate 4096 0) (length-replicate {A = ℕ} 4096 0)

frames-whole : Whole frames
unfolding frames
frames-whole = more (whole 0) (more (whole 2) none)

salt-zero : wal_header_in (encode_wal_header (created_header 0)) ≡ created_header 0
salt-zero = rw append-nil at (header-back (created_header 0) [] (created-written 0 (omega arith)))

frame-good : (count : ℕ) → good 0 (page-frame count) ≡ true
unfolding page-frame
frame-good count = good-page 1 count 0 (replicate 4096 0) (omega arith) (omega arith) (λ e. omega arith)

frames-good : good_front 0 frames ≡ frames
unfolding frames good_front
frames-good = rw (frame-good 0, frame-good 2)

-- two good frames, and no rest
pub sample-read : recovered sample ≡ record { header = created_header 0; frames = frames; stopped = false }
unfolding sample created_header good_at intact_at
sample-read =
    let g : good_front (wal_header_in (encode_wal_header (created_header 0))).salt frames ≡ frames = rw salt-zero frames-good in
    laid-recovered (encode_wal_header (created_header 0)) frames [] (length-encode_wal_header (created_header 0)) frames-whole g refl ∙ rw salt-zero

-- the second commits both
count-two : commit_count (page-frame 2) ≡ 2
unfolding page-frame
count-two = count-encoded 1 2 0 (replicate 4096 0) (omega arith)

committed-both : committed frames ≡ frames
unfolding frames
committed-both = committed-snoc (page-frame 0 ∷ []) (page-frame 2) ∙ rw count-two

last-two : last_count frames ≡ Some 2
unfolding frames
last-two = last_count-snoc (page-frame 0 ∷ []) (page-frame 2) ∙ ap Some count-two

length-sample : length sample ≡ 8256
unfolding sample frames
length-sample = simp (length-append, length-encode_wal_header, length-joined frames-whole)

-- "end 2 8256 2"
pub sample-opens : open_log sample
    ≡ Ok (record {
      header = created_header 0;
      len = 8256;
      good_end = 8256;
      last_commit_offset = 8256;
      last_commit_page_count = Some 2;
      frame_count = 2;
    })
unfolding sample wal_of frames
sample-opens =
    opens sample (created_header 0) (rw length-sample (omega arith)) (decode-encode (created_header 0) (joined frames ++ []) (created-written 0 (omega arith)))
    ∙ rw (length-sample, sample-read, committed-both, last-two)
