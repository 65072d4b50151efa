-- What the files hold between any two stored bytes, and what is read of such files. Assumes nothing.
use mathlib.Core.Path.{◌≡◌, refl, sym, ap, ◌∙◌}
use mathlib.Core.Bool.{false}
use mathlib.Core.List.{List, [], ◌∷◌, ◌++◌, append_assoc, append-nil}
use Prim.Native.Nat.{ℕ, ◌+◌, ◌*◌, ◌^◌, ◌≤◌, ◌<◌}
use native.Mathlib.Omega.{arith}
use borrow.Author.Tests.{lt-leb}
use lib.Dec.{eqb}
use lib.ListN.{length, take, drop, length-append, take-append-drop}
use lib.Seq.{take_at, drop_at}
use Rattle.std.specs.Prelude.{Option, None, Some, Ok, Result}
use Rattle.refusal.specs.declared.Refusal.{Refusal}
use Rattle.le.specs.Choice.{pick}
use Rattle.page.specs.Page.{page_size}
use Rattle.header.specs.Header.{decode_header}
use Rattle.header.specs.declared.DbHeader.{DbHeader}
use Rattle.header.proofs.RoundTrip.{Plain}
use Rattle.frame.specs.Frame.{frame_size, body_of, intact_at}
use Rattle.mvcc.specs.Batch.{Each}
use Rattle.wal.specs.Header.{header_size, encode_wal_header, wal_header_in}
use Rattle.wal.specs.Recovery.{chunk_at, good_at, good_front, committed, last_count, page_in, recovered, committed_frames, wal_area}
use Rattle.wal.specs.declared.WalHeader.{WalHeader}
use Rattle.wal.proofs.Encoding.{length-encode_wal_header}
use Rattle.wal.proofs.HeaderRoundTrip.{Written, header-back}
use Rattle.wal.proofs.Frames.{committed-open}
use Rattle.wal.proofs.Laid.{joined, Whole, joined-append, length-joined, laid-recovered}
use Rattle.wal.proofs.Laid as laid
use Rattle.pager_state.specs.World.{main_area_size, page_limit, count_of}
use Rattle.pager_state.specs.Overlay.{page_from}
use Rattle.pager_state.specs.Opening.{place_from, has_page, recounted}
use Rattle.pager_state.specs.Stores.{File, Disk, content}
use Rattle.history.specs.Model.{Batch, Model, or_else}
use Rattle.history.specs.Run.{Left}
use Rattle.history.specs.Demand3.{Kept}
use Rattle.history.proofs.Files.{length-content}
use Rattle.history.proofs.Frames.{last_in, batches_of}

-- ---- the two files together

-- the main file's page, where its header says that it has it
abbrev pub main_page : DbHeader → List ℕ → ℕ → Option (List ℕ)
main_page mh m n = pick (has_page mh n) (Some (page_from (page_size * n) m)) None

-- the log's page, else the main file's
abbrev pub view_of : List (List ℕ) → DbHeader → List ℕ → ℕ → Option (List ℕ)
view_of S mh m n = or_else (last_in n S) (main_page mh m n)

-- the header that counts
unfoldable pub header_over : DbHeader → List (List ℕ) → Result DbHeader Refusal
header_over mh S = pick (eqb (place_from 0 0 S) 0) (Ok (recounted mh (last_count S))) (decode_header (body_of (page_in 0 S)))

-- the log: l is its header, S the committed frames, P good frames that aren't committed, t a rest with no good frame at its front
pub record LogIs (f : File) (l : WalHeader) (S P : List (List ℕ)) (t : List ℕ) : Type 0 where
  pub written : Written l
  pub bytes : content f ≡ encode_wal_header l ++ (joined (S ++ P) ++ t)
  pub whole : Whole (S ++ P)
  pub good : good_front l.salt (S ++ P) ≡ S ++ P
  pub stop : good_at t 0 l.salt ≡ false
  pub ends : committed S ≡ S
  pub loose : committed P ≡ []
  pub area : length f.area ≡ wal_area
  pub fits : f.len ≤ wal_area

-- the main file, with its own header mh
pub record MainIs (f : File) (mh : DbHeader) : Type 0 where
  pub area : length f.area ≡ main_area_size
  pub fits : f.len ≤ main_area_size
  pub long : page_size ≤ f.len
  pub has : page_size * count_of mh ≤ f.len
  pub head : decode_header (take page_size f.area) ≡ Ok mh

-- commit times of 64 bits
abbrev pub Timed : List Batch → Type 0
Timed bs = Each (λ (x : Batch). x.time < 2 ^ 64) bs

-- committed frames over a main file are what the model has. Every committed or waiting time has 64 bits, since the body of an append is bytes;
-- so the clock that a clean opening takes has, too.
pub record ModelIs (m : List ℕ) (b : Model) (S : List (List ℕ)) (mh : DbHeader) : Type 0 where
  pub top : header_over mh S ≡ Ok b.header
  pub plain : Plain b.header
  pub least : 1 ≤ count_of b.header
  pub most : count_of b.header ≤ page_limit
  pub pages : (n : ℕ) → 1 ≤ n → n < count_of b.header → view_of S mh m n ≡ b.pages n
  pub there : (n : ℕ) → 1 ≤ n → n < count_of b.header → (x : List ℕ) × (b.pages n ≡ Some x)
  pub above : (n : ℕ) → count_of b.header ≤ n → b.pages n ≡ None
  pub batches : batches_of S ≡ b.committed
  pub times : Timed (b.committed ++ b.waiting)

pub record OnDisk (d : Disk) (b : Model) (l : WalHeader) (S P : List (List ℕ)) (t : List ℕ) (mh : DbHeader) : Type 0 where
  pub log : LogIs d.log l S P t
  pub main : MainIs d.main mh
  pub model : ModelIs d.main.area b S mh

-- z: the committed frames' bytes
pub record DiskOk (d : Disk) (b : Model) (z : List ℕ) : Type 0 where
  pub l : WalHeader
  pub S : List (List ℕ)
  pub P : List (List ℕ)
  pub t : List ℕ
  pub mh : DbHeader
  pub on : OnDisk d b l S P t mh
  pub kept : joined S ≡ z

abbrev pub LeftOk : Left → Type 0
LeftOk x = DiskOk x.disk x.model x.kept

-- ---- a rest shorter than a frame

pub short-stop : (t : List ℕ) (salt : ℕ) → length t < frame_size → good_at t 0 salt ≡ false
unfolding good_at intact_at
short-stop t salt h = rw (lt-leb frame_size (length t) h)

-- a log of its header alone
pub none-committed : committed [] ≡ []
unfolding committed
none-committed = refl

pub log-alone : (f : File) (h : WalHeader) → Written h → content f ≡ encode_wal_header h → length f.area ≡ wal_area → f.len ≤ wal_area → LogIs f h [] [] []
unfolding good_front joined
log-alone f h w e a n =
    record {
      written = w;
      bytes = e ∙ sym (append-nil (encode_wal_header h));
      whole = laid.none;
      good = refl;
      stop = short-stop [] h.salt (omega arith);
      ends = none-committed;
      loose = none-committed;
      area = a;
      fits = n;
    }

-- ---- lists of whole frames, taken apart

pub whole-left : (fs gs : List (List ℕ)) → Whole (fs ++ gs) → Whole fs
whole-left [] gs w = laid.none
whole-left (f ∷ fs) gs (laid.more h w) = laid.more h (whole-left fs gs w)

module _ {d : Disk} {b : Model} {l : WalHeader} {S P : List (List ℕ)} {t : List ℕ} {mh : DbHeader} (o : OnDisk d b l S P t mh) where
  pub log-inside : d.log.len ≤ length d.log.area
  log-inside = rw o.log.area o.log.fits

  -- the log's length, counted
  pub log-len : d.log.len ≡ header_size + (frame_size * length (S ++ P) + length t)
  log-len =
      sym (length-content d.log log-inside) ∙ ap length o.log.bytes ∙ length-append (encode_wal_header l) (joined (S ++ P) ++ t)
      ∙ omega (arith, length-encode_wal_header l, length-append (joined (S ++ P)) t, length-joined o.log.whole)

  -- header and committed frames come first
  pub split : content d.log ≡ encode_wal_header l ++ joined S ++ (joined P ++ t)
  split = o.log.bytes ∙ rw (joined-append S P) (simp append_assoc)

  pub committed-len : header_size + frame_size * length S ≤ d.log.len
  committed-len = omega (arith, log-len, length-append S P)

  pub front_long : length (encode_wal_header l ++ joined S) ≡ header_size + frame_size * length S
  front_long = length-append (encode_wal_header l) (joined S) ∙ omega (arith, length-encode_wal_header l, length-joined (whole-left S P o.log.whole))

  pub front-is : take (chunk_at (length S)) (content d.log) ≡ encode_wal_header l ++ joined S
  front-is = rw split (take_at (encode_wal_header l ++ joined S) (joined P ++ t) (header_size + frame_size * length S) front_long)

  pub header_is : wal_header_in (encode_wal_header l) ≡ l
  header_is = rw append-nil at (header-back l [] o.log.written)

  -- what reading the log finds
  pub recovered-is : recovered (content d.log) ≡ record { header = l; frames = S ++ P; stopped = intact_at t 0 l.salt }
  recovered-is =
      let e = header_is in
      let r = laid-recovered (encode_wal_header l) (S ++ P) t (length-encode_wal_header l) o.log.whole (rw e o.log.good) (rw e o.log.stop) in
      rw o.log.bytes (rw e at r)

  pub committed-is : committed_frames (recovered (content d.log)) ≡ S
  committed-is = rw recovered-is (committed-open S P o.log.loose ∙ o.log.ends)

  -- the log's area behind its header
  pub all_lie : drop header_size d.log.area ≡ joined (S ++ P) ++ (t ++ drop d.log.len d.log.area)
  all_lie =
      let Z : List ℕ = drop d.log.len d.log.area in
      ap (drop header_size) (sym (take-append-drop d.log.len d.log.area) ∙ ap (λ (c : List ℕ). c ++ Z) o.log.bytes
      ∙ append_assoc (encode_wal_header l) (joined (S ++ P) ++ t) Z)
      ∙ drop_at (encode_wal_header l) (joined (S ++ P) ++ t ++ Z) header_size (length-encode_wal_header l) ∙ append_assoc (joined (S ++ P)) t Z

-- the committed bytes lie there
pub disk-kept : (x : Left) → LeftOk x → Kept x
disk-kept x k =
    let o = k.on in
    let fs : List ℕ = joined k.S in
    let R : List ℕ = joined k.P ++ k.t in
    let n : length (encode_wal_header k.l ++ fs) ≡ header_size + length fs = length-append (encode_wal_header k.l) fs ∙ omega (arith, length-encode_wal_header k.l) in
    let e : drop header_size (take (header_size + length fs) (content x.disk.log)) ≡ fs =
    ap (λ (c : List ℕ). drop header_size (take (header_size + length fs) c)) (split o)
    ∙ ap (drop header_size) (take_at (encode_wal_header k.l ++ fs) R (header_size + length fs) n)
    ∙ drop_at (encode_wal_header k.l) fs header_size (length-encode_wal_header k.l) in
    rw k.kept at e
