-- Creation and opening make a store as the laws of steps ask: the frames that its table names lie inside the log. Assumes nothing.
use mathlib.Core.Path.{◌≡◌, refl, ap, subst, ◌∙◌}
use mathlib.Core.Bool.{Bool, true, false}
use mathlib.Core.List.{List, [], ◌∷◌}
use mathlib.Core.Logic.{◌⊎◌, inl, inr}
use Prim.Native.Nat.{ℕ, zero, suc, ◌+◌, ◌-◌, ◌/◌, ◌≤◌, ◌<◌}
use native.Mathlib.Omega.{arith}
use borrow.Author.Tests.{eqb-false, not-true}
use lib.Dec.{leb, eqb}
use lib.ListN.{length, get_or}
use Rattle.std.specs.Prelude.{Err, Ok, Result}
use Rattle.refusal.specs.declared.Refusal.TheVariants as refusal
use Rattle.refusal.specs.declared.Refusal.{Refusal}
use Rattle.le.specs.Choice.{pick, both}
use Rattle.header.specs.Header.{header_in}
use Rattle.header.specs.declared.DbHeader.{DbHeader}
use Rattle.wal.specs.Header.{decode_wal_header}
use Rattle.wal.specs.Recovery.{chunk_at, page_of, Recovered, recovered, wal_of}
use Rattle.wal.specs.Write.{empty_wal, created_header, with_clock}
use Rattle.wal.specs.declared.Wal.{Wal}
use Rattle.wal.proofs.Frames.{committed-most}
use Rattle.wal.proofs.Opening.{frame_count_of-most}
use Rattle.wal.specs.declared.WalHeader.{WalHeader}
use Rattle.pager_state.specs.World.{world, page_limit, count_of}
use Rattle.pager_state.specs.Overlay.{frame_of, in_log, entry}
use Rattle.pager_state.specs.Opening.{tabulate, place_from, has_page, table_of, empty_staged, opens_as, first_header, created_pager, How, Found, kept_of, found_in, found_fresh, found_by, writes, main_header_of, judged_main, is_long, judged_log, judged_zero, header_by, opening_of, opened_store, judged, open_fine, open_pager, open_table}
use Rattle.pager_state.specs.Stores.{File, Disk, content}
use Rattle.pager_state.specs.Queries.{clock_of}
use Rattle.pager_state.specs.declared.Job.TheVariants as job
use Rattle.pager_state.specs.declared.Opening.{Opening}
use Rattle.pager_state.specs.declared.Opening.TheVariants as opening
use Rattle.pager_state.specs.declared.Pager.{Pager}
use Rattle.pager_state.specs.Opened.{Opens}
use Rattle.pager_state.specs.Opened as opened
use Rattle.pager_state.proofs.Sizes.{empty-len}
use Rattle.pager_state.proofs.Entries.{flag_small, Below}
use Rattle.pager_state.proofs.Made.{Made, every}

-- ---- the table of an opening

get-tabulate : (g : ℕ → ℕ) (i k n : ℕ) → n < k → get_or (tabulate g i k) n 0 ≡ g (i + n)
unfolding tabulate
get-tabulate g i zero n h = absurd (omega arith)
get-tabulate g i (suc k) zero h =
    let e : i ≡ i + 0 = omega arith in
    ap g e
get-tabulate g i (suc k) (suc n) h =
    let e : suc i + n ≡ i + suc n = omega arith in
    get-tabulate g (suc i) k n (omega arith) ∙ ap g e

-- a page's frame, the first having index i, lies before the place behind the last
module _ (n : ℕ) where
  place-pick : (i k x : ℕ) (b : Bool) → (x ≡ 0) ⊎ (x + 4112 ≤ chunk_at (suc i + k)) → (pick b (chunk_at i) x ≡ 0) ⊎ (pick b (chunk_at i) x + 4112 ≤ chunk_at (i + suc k))
  place-pick i k x true h = inr (omega arith)
  place-pick i k x false (inl e) = inl e
  place-pick i k x false (inr l) = inr (omega arith)

  place_inside : (i : ℕ) (fs : List (List ℕ)) → (place_from n i fs ≡ 0) ⊎ (place_from n i fs + 4112 ≤ chunk_at (i + length fs))
  unfolding place_from
  place_inside i [] = inl refl
  place_inside i (f ∷ fs) =
      place-pick i (length fs) (place_from n (suc i) fs) (both (eqb (place_from n (suc i) fs) 0) (eqb (page_of f) n)) (place_inside (suc i) fs)

pub table-frame : (h : DbHeader) (fs : List (List ℕ)) (n : ℕ) → n < page_limit → frame_of (table_of h fs) n ≡ place_from n 0 fs
unfolding frame_of table_of
table-frame h fs n l =
    let z : 0 + n ≡ n = omega arith in
    let e = get-tabulate (λ (i : ℕ). entry (place_from i 0 fs) (has_page h i)) 0 page_limit n l in
    rw (e, z) (omega (arith, flag_small (has_page h n)))

in-log : (t : List ℕ) (n : ℕ) → in_log t n ≡ true → frame_of t n ≡ 0 → ⊥
unfolding in_log
in-log t n e = eqb-false (frame_of t n) 0 (not-true (eqb (frame_of t n) 0) e)

-- a log of at bytes has room for the frames
pub table_below : (h : DbHeader) (fs : List (List ℕ)) (at : ℕ) → length fs ≤ (at - 32) / 4112 → Below every (table_of h fs) at
table_below h fs at l n b o i = by (place_inside n 0 fs)
  where
    by : (place_from n 0 fs ≡ 0) ⊎ (place_from n 0 fs + 4112 ≤ chunk_at (0 + length fs)) → frame_of (table_of h fs) n + 4112 ≤ at
    by (inl e) = absurd (in-log (table_of h fs) n i (table-frame h fs n b ∙ e))
    by (inr x) =
        let e = table-frame h fs n b in
        let z = in-log (table_of h fs) n i in
        omega arith

-- ---- creation and opening

wal-len : (n : ℕ) (r : Recovered) → (wal_of n r).len ≡ n
unfolding wal_of
wal-len n r = refl

-- a store opened on these frames
opens-made : (h mh o : DbHeader) (len end : ℕ) (v : Wal) (how : Opening) (fs : List (List ℕ)) (l m : List ℕ) → length fs ≤ (v.len - 32) / 4112
    → Made (world (opens_as h o len v end how) (table_of mh fs) l m)
unfolding opens_as empty_staged
opens-made h mh o len end v how fs l m k = record { slots = refl; asked = table_below mh fs v.len k }

pub created-made : (salt : ℕ) (l m : List ℕ) → Made (world (created_pager salt) (table_of first_header []) l m)
unfolding created_pager
created-made salt l m =
    opens-made first_header first_header first_header 8192 32 (empty_wal (created_header salt)) opening.Clean [] l m (omega (arith, empty-len (created_header salt)))

-- the frames found lie inside the log found
found-in : (clean : Bool) (l : List ℕ) → length (found_in clean l).frames ≤ ((found_in clean l).log.len - 32) / 4112
unfolding found_in with_clock
found-in clean l =
    omega (
      arith,
      wal-len (length (kept_of clean l)) (recovered (kept_of clean l)),
      committed-most (recovered (kept_of clean l)).frames,
      frame_count_of-most (kept_of clean l),
    )

found-fresh : (how : How) → length (found_fresh how).frames ≤ ((found_fresh how).log.len - 32) / 4112
unfolding found_fresh
found-fresh how = omega arith

found-pick : (b : Bool) (x y : Found) → length x.frames ≤ (x.log.len - 32) / 4112 → length y.frames ≤ (y.log.len - 32) / 4112
    → length (pick b x y).frames ≤ ((pick b x y).log.len - 32) / 4112
found-pick true x y h k = h
found-pick false x y h k = k

pub found-by : (how : How) (f : File) → length (found_by how f).frames ≤ ((found_by how f).log.len - 32) / 4112
unfolding found_by
found-by how f =
    found-pick how.exists (found_in how.clean (content f)) (found_fresh how) (found-in how.clean (content f)) (found-fresh how)

-- whatever an opening answers, P holds of the store that it gives
module _ (P : Pager → Type 0) where
  abbrev IfOpened : Opens → Type 0
  IfOpened (opened.Opened p) = P p
  IfOpened (opened.Refused r) = Unit {0}

  if-main : (d : Result DbHeader Refusal) (next : DbHeader → Opens) → ((h : DbHeader) → IfOpened (next h)) → IfOpened (judged_main d next)
  if-main (Ok h) next k = k h
  if-main (Err r) next k = tt

  if-zero : (d : Result DbHeader Refusal) (next : DbHeader → Opens) → ((h : DbHeader) → IfOpened (next h)) → IfOpened (judged_zero d next)
  if-zero (Ok h) next k = k h
  if-zero (Err r) next k = tt

  if-log : (d : Result WalHeader Refusal) (next : Opens) → IfOpened next → IfOpened (judged_log d next)
  if-log (Ok h) next k = k
  if-log (Err r) next k = tt

  if-pick : (b : Bool) (x y : Opens) → IfOpened x → IfOpened y → IfOpened (pick b x y)
  if-pick true x y k l = k
  if-pick false x y k l = l

  if-opened : (a : Opens) (p : Pager) → a ≡ opened.Opened p → IfOpened a → P p
  if-opened a p e k = subst IfOpened e k

  if-judged : (how : How) (d : Disk) (mh : DbHeader)
      → ((h : DbHeader) → P (opens_as h mh d.main.len (found_by how d.log).log (chunk_at (length (found_by how d.log).frames)) (opening_of how)))
      → IfOpened (judged how d mh)
  unfolding judged opened_store
  if-judged how d mh k =
      let n : IfOpened (judged_zero (header_by mh (found_by how d.log)) (opened_store how d mh (found_by how d.log))) =
      if-zero (header_by mh (found_by how d.log)) (opened_store how d mh (found_by how d.log))
      (λ h. if-pick (leb (count_of h) page_limit) _ (opened.Refused refusal.Limit)
      (if-pick (both how.clean (pick (writes how.access) false true)) (opened.Refused refusal.ReadOnly)
      (opened.Opened (opens_as h mh d.main.len (found_by how d.log).log (chunk_at (length (found_by how d.log).frames)) (opening_of how))) tt (k h)) tt) in
      if-pick how.exists _ _ (if-log (decode_wal_header (content d.log)) _ n) n

if-open : (P : Pager → Type 0) (how : How) (t : List ℕ) (d : Disk) (g : List ℕ)
    → ((h mh : DbHeader) → P (opens_as h mh d.main.len (found_by how d.log).log (chunk_at (length (found_by how d.log).frames)) (opening_of how)))
    → IfOpened P (open_pager how t d g)
unfolding open_pager
if-open P how t d g k =
    if-pick P (open_fine t d g) (judged_main (main_header_of d.main) (λ (mh : DbHeader). pick (is_long d.main mh) (judged how d mh) (opened.Refused refusal.MainShort))) (opened.Refused refusal.Area)
    (if-main P (main_header_of d.main) (λ (mh : DbHeader). pick (is_long d.main mh) (judged how d mh) (opened.Refused refusal.MainShort))
    (λ mh. if-pick P (is_long d.main mh) (judged how d mh) (opened.Refused refusal.MainShort) (if-judged P how d mh (λ h. k h mh)) tt)) tt

-- an opening that is not refused
abbrev OnFound : How → Disk → List ℕ → List ℕ → Pager → Type 0
OnFound how d l m p = Made (world p (table_of (header_in d.main.area) (found_by how d.log).frames) l m)

found-made : (how : How) (t : List ℕ) (d : Disk) (g l m : List ℕ) → IfOpened (OnFound how d l m) (open_pager how t d g)
found-made how t d g l m =
    if-open (OnFound how d l m) how t d g
    (λ h mh. opens-made h (header_in d.main.area) mh d.main.len (chunk_at (length (found_by how d.log).frames)) (found_by how d.log).log (opening_of how)
    (found_by how d.log).frames l m (found-by how d.log))

pub open_made : (how : How) (t : List ℕ) (d : Disk) (g : List ℕ) (p : Pager) → open_pager how t d g ≡ opened.Opened p → (l m : List ℕ)
    → Made (world p (open_table how t d g) l m)
unfolding open_table
open_made how t d g p e l m = rw e (if-opened (OnFound how d l m) (open_pager how t d g) p e (found-made how t d g l m))

-- its clock is that of the log that was found
abbrev Clocked : How → Disk → Pager → Type 0
Clocked how d p = clock_of p ≡ (found_by how d.log).log.header.clock_high_water

pub open-clock : (how : How) (t : List ℕ) (d : Disk) (g : List ℕ) (p : Pager) → open_pager how t d g ≡ opened.Opened p
    → clock_of p ≡ (found_by how d.log).log.header.clock_high_water
unfolding opens_as
open-clock how t d g p e = if-opened (Clocked how d) (open_pager how t d g) p e (if-open (Clocked how d) how t d g (λ h mh. refl))

-- nothing is under way in it
abbrev Rests : Pager → Type 0
Rests p = p.job ≡ job.Idle

pub open-idle : (how : How) (t : List ℕ) (d : Disk) (g : List ℕ) (p : Pager) → open_pager how t d g ≡ opened.Opened p → p.job ≡ job.Idle
unfolding opens_as
open-idle how t d g p e = if-opened Rests (open_pager how t d g) p e (if-open Rests how t d g (λ h mh. refl))
