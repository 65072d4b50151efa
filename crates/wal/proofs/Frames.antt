-- Laws on lists of frames: the good front, the committed front, pages and batches. Assumes nothing.
use Rattle.std.proofs.Common.{◌≡◌, ℕ, zero, suc, ◌+◌, ◌^◌, ◌<◌, ◌≤◌, Bool, true, false, eqb, List, [], ◌∷◌, ◌++◌, length, get_or, take, sym, refl, ap, ◌∙◌, arith, ne_eqb}
use Rattle.std.specs.Prelude.{None, Some}
use mathlib.Core.List.{foldl-append}
use lib.Seq.{take-length, take-append-le}
use Rattle.le.specs.Choice.{pick, both}
use Rattle.le.proofs.Compare.{no_test}
use Rattle.frame.specs.Frame.{encode_frame, frame_header, intact}
use Rattle.frame.proofs.RoundTrip.{whole_back, page-back, count-back, body_back, intact-back}
use Rattle.mvcc.specs.Seen.{decodes}
use Rattle.wal.specs.Recovery.{page_of, commit_count, is_commit_frame, is_batch, readable, good, good_front, undecodable, committed_from, committed, last_count, page_in, batches_in}

-- ---- the good front

pub good-cons : (salt : ℕ) (f : List ℕ) (fs : List (List ℕ)) → good salt f ≡ true → good_front salt (f ∷ fs) ≡ f ∷ good_front salt fs
unfolding good_front
good-cons salt f fs g = rw g

pub good_none : (salt : ℕ) (f : List ℕ) (fs : List (List ℕ)) → good salt f ≡ false → good_front salt (f ∷ fs) ≡ []
unfolding good_front
good_none salt f fs g = rw g

pub undecodable-cons : (salt : ℕ) (f : List ℕ) (fs : List (List ℕ)) → good salt f ≡ true → undecodable salt (f ∷ fs) ≡ undecodable salt fs
unfolding undecodable
undecodable-cons salt f fs g = rw g

pub undecodable-here : (salt : ℕ) (f : List ℕ) (fs : List (List ℕ)) → good salt f ≡ false → undecodable salt (f ∷ fs) ≡ intact salt f
unfolding undecodable
undecodable-here salt f fs g = rw g

-- all are good: each is, and so are those behind
all_cons : (b : Bool) (f : List ℕ) (r fs : List (List ℕ)) → pick b (f ∷ r) [] ≡ f ∷ fs → (b ≡ true) × (r ≡ fs)
all_cons true f r fs e = let h : r ≡ fs = cc in (refl, h)
all_cons false f r fs e = let z : ◌≡◌ {A = ℕ} 0 1 = cc in absurd (omega arith)

pub all-good-cons : (salt : ℕ) (f : List ℕ) (fs : List (List ℕ)) → good_front salt (f ∷ fs) ≡ f ∷ fs → (good salt f ≡ true) × (good_front salt fs ≡ fs)
unfolding good_front
all-good-cons salt f fs e = all_cons (good salt f) f (good_front salt fs) fs e

-- behind good frames reading goes on
pub good-append : (salt : ℕ) (fs gs : List (List ℕ)) → good_front salt fs ≡ fs → good_front salt (fs ++ gs) ≡ fs ++ good_front salt gs
good-append salt [] gs e = refl
good-append salt (f ∷ fs) gs e =
    let p = all-good-cons salt f fs e in
    good-cons salt f (fs ++ gs) p.0 ∙ rw (good-append salt fs gs p.1)

pub undecodable-append : (salt : ℕ) (fs gs : List (List ℕ)) → good_front salt fs ≡ fs → undecodable salt (fs ++ gs) ≡ undecodable salt gs
undecodable-append salt [] gs e = refl
undecodable-append salt (f ∷ fs) gs e =
    let p = all-good-cons salt f fs e in
    undecodable-cons salt f (fs ++ gs) p.0 ∙ undecodable-append salt fs gs p.1

pub undecodable-none : (salt : ℕ) (fs : List (List ℕ)) → good_front salt fs ≡ fs → undecodable salt fs ≡ false
unfolding undecodable
undecodable-none salt [] e = refl
undecodable-none salt (f ∷ fs) e =
    let p = all-good-cons salt f fs e in
    undecodable-cons salt f fs p.0 ∙ undecodable-none salt fs p.1

-- behind a frame that isn't good nothing is read
bad-cons : (salt : ℕ) (f : List ℕ) (fs gs : List (List ℕ)) (b : Bool) → good salt f ≡ b → length (good_front salt (f ∷ fs)) < suc (length fs)
    → (length (good_front salt fs) < length fs → (good_front salt (fs ++ gs) ≡ good_front salt fs) × (undecodable salt (fs ++ gs) ≡ undecodable salt fs))
    → (good_front salt (f ∷ (fs ++ gs)) ≡ good_front salt (f ∷ fs)) × (undecodable salt (f ∷ (fs ++ gs)) ≡ undecodable salt (f ∷ fs))
bad-cons salt f fs gs true g h more =
    let k : length (good_front salt fs) < length fs = omega (arith, ap length (good-cons salt f fs g)) in
    let p = more k in
    (good-cons salt f (fs ++ gs) g ∙ rw (p.0, good-cons salt f fs g), undecodable-cons salt f (fs ++ gs) g ∙ rw (p.1, undecodable-cons salt f fs g))
bad-cons salt f fs gs false g h more =
    (good_none salt f (fs ++ gs) g ∙ sym (good_none salt f fs g), undecodable-here salt f (fs ++ gs) g ∙ sym (undecodable-here salt f fs g))

bad-append : (salt : ℕ) (fs gs : List (List ℕ)) → length (good_front salt fs) < length fs
    → (good_front salt (fs ++ gs) ≡ good_front salt fs) × (undecodable salt (fs ++ gs) ≡ undecodable salt fs)
bad-append salt [] gs h = absurd (omega arith)
bad-append salt (f ∷ fs) gs h = bad-cons salt f fs gs (good salt f) refl h (bad-append salt fs gs)

pub bad-front : (salt : ℕ) (fs gs : List (List ℕ)) → length (good_front salt fs) < length fs → good_front salt (fs ++ gs) ≡ good_front salt fs
bad-front salt fs gs h = (bad-append salt fs gs h).0

pub bad-undecodable : (salt : ℕ) (fs gs : List (List ℕ)) → length (good_front salt fs) < length fs → undecodable salt (fs ++ gs) ≡ undecodable salt fs
bad-undecodable salt fs gs h = (bad-append salt fs gs h).1

-- the good front is a front, and each of its own fronts is good
front-cons : (b : Bool) (f : List ℕ) (r fs : List (List ℕ)) → r ≡ take (length r) fs → pick b (f ∷ r) [] ≡ take (length (pick b (f ∷ r) [])) (f ∷ fs)
front-cons true f r fs e = ap (λ (x : List (List ℕ)). f ∷ x) e
front-cons false f r fs e = refl

pub good-front : (salt : ℕ) (fs : List (List ℕ)) → good_front salt fs ≡ take (length (good_front salt fs)) fs
unfolding good_front
good-front salt [] = refl
good-front salt (f ∷ fs) = front-cons (good salt f) f (good_front salt fs) fs (good-front salt fs)

-- each is good, and the one where an undecodable batch stopped the reading is not readable
each-cons : (salt : ℕ) (f : List ℕ) (r : List (List ℕ)) (b : Bool) → good salt f ≡ b → ((i : ℕ) → i < length r → good salt (get_or r i []) ≡ true)
    → (i : ℕ) → i < length (pick b (f ∷ r) []) → good salt (get_or (pick b (f ∷ r) []) i []) ≡ true
each-cons salt f r true g more zero h = g
each-cons salt f r true g more (suc i) h = more i (omega arith)
each-cons salt f r false g more i h = absurd (omega arith)

pub good-each : (salt : ℕ) (fs : List (List ℕ)) (i : ℕ) → i < length (good_front salt fs) → good salt (get_or (good_front salt fs) i []) ≡ true
unfolding good_front
good-each salt [] i h = absurd (omega arith)
good-each salt (f ∷ fs) i h = each-cons salt f (good_front salt fs) (good salt f) refl (good-each salt fs) i h

unreadable : (i r : Bool) → both i r ≡ false → i ≡ true → r ≡ false
unreadable true r g e = g
unreadable false r g e = no_test e

stop-cons : (salt : ℕ) (f : List ℕ) (fs : List (List ℕ)) (b : Bool) → good salt f ≡ b
    → (undecodable salt fs ≡ true → readable (get_or fs (length (good_front salt fs)) []) ≡ false)
    → pick b (undecodable salt fs) (intact salt f) ≡ true → readable (get_or (f ∷ fs) (length (pick b (f ∷ good_front salt fs) [])) []) ≡ false
unfolding good
stop-cons salt f fs true g more e = more e
stop-cons salt f fs false g more e = unreadable (intact salt f) (readable f) g e

pub undecodable-stop : (salt : ℕ) (fs : List (List ℕ)) → undecodable salt fs ≡ true → readable (get_or fs (length (good_front salt fs)) []) ≡ false
unfolding good_front undecodable
undecodable-stop salt [] e = no_test e
undecodable-stop salt (f ∷ fs) e = stop-cons salt f fs (good salt f) refl (undecodable-stop salt fs) e

-- how many frames are counted
most-cons : (b i t : Bool) (f : List ℕ) (r fs : List (List ℕ)) → length r + pick t 1 0 ≤ length fs
    → length (pick b (f ∷ r) []) + pick (pick b t i) 1 0 ≤ suc (length fs)
most-cons true i t f r fs h = omega arith
most-cons false true t f r fs h = omega arith
most-cons false false t f r fs h = omega arith

pub count_most : (salt : ℕ) (fs : List (List ℕ)) → length (good_front salt fs) + pick (undecodable salt fs) 1 0 ≤ length fs
unfolding good_front undecodable
count_most salt [] = omega arith
count_most salt (f ∷ fs) = most-cons (good salt f) (intact salt f) (undecodable salt fs) f (good_front salt fs) fs (count_most salt fs)

again-cons : (salt : ℕ) (f : List ℕ) (r : List (List ℕ)) (b : Bool) → good salt f ≡ b → ((k : ℕ) → good_front salt (take k r) ≡ take k r) → (k : ℕ)
    → good_front salt (take k (pick b (f ∷ r) [])) ≡ take k (pick b (f ∷ r) [])
unfolding good_front
again-cons salt f r b g more zero = refl
again-cons salt f r true g more (suc k) = good-cons salt f (take k r) g ∙ rw (more k)
again-cons salt f r false g more (suc k) = refl

-- a front of the good frames is good
pub good-again : (salt : ℕ) (fs : List (List ℕ)) (k : ℕ) → good_front salt (take k (good_front salt fs)) ≡ take k (good_front salt fs)
unfolding good_front
good-again salt [] zero = refl
good-again salt [] (suc k) = refl
good-again salt (f ∷ fs) k = again-cons salt f (good_front salt fs) (good salt f) refl (good-again salt fs) k

-- ---- the committed front

from-snoc : (g : List ℕ) (fs : List (List ℕ)) (f : List ℕ) → committed_from g (fs ++ (f ∷ [])) ≡ g ∷ (fs ++ (f ∷ []))
from-snoc g [] f = refl
from-snoc g (h ∷ fs) f = refl

from-pick : (b : Bool) (g : List ℕ) (fs s : List (List ℕ)) (f : List ℕ)
    → committed_from g (pick b (fs ++ (f ∷ [])) s) ≡ pick b (g ∷ (fs ++ (f ∷ []))) (committed_from g s)
from-pick true g fs s f = from-snoc g fs f
from-pick false g fs s f = refl

-- one frame more: all are committed if it commits, else what was
pub committed-snoc : (fs : List (List ℕ)) (f : List ℕ) → committed (fs ++ (f ∷ [])) ≡ pick (is_commit_frame f) (fs ++ (f ∷ [])) (committed fs)
unfolding committed
committed-snoc [] f = refl
committed-snoc (g ∷ fs) f = rw (committed-snoc fs f) (from-pick (is_commit_frame f) g fs (committed fs) f)

from_front : (f : List ℕ) (s fs : List (List ℕ)) → s ≡ take (length s) fs → committed_from f s ≡ take (length (committed_from f s)) (f ∷ fs)
from_front f [] fs e = alone (is_commit_frame f)
  where
    alone : (b : Bool) → pick b (f ∷ []) [] ≡ take (length (pick b (f ∷ []) [])) (f ∷ fs)
    alone true = refl
    alone false = refl
from_front f (g ∷ s) fs e = ap (λ (x : List (List ℕ)). f ∷ x) e

-- the committed frames are a front
pub committed-front : (fs : List (List ℕ)) → committed fs ≡ take (length (committed fs)) fs
unfolding committed
committed-front [] = refl
committed-front (f ∷ fs) = from_front f (committed fs) fs (committed-front fs)

from-most : (f : List ℕ) (s : List (List ℕ)) (n : ℕ) → length s ≤ n → length (committed_from f s) ≤ suc n
from-most f [] n h = alone (is_commit_frame f)
  where
    alone : (b : Bool) → length (pick b (f ∷ []) []) ≤ suc n
    alone true = omega arith
    alone false = omega arith
from-most f (g ∷ s) n h = omega arith

pub committed-most : (fs : List (List ℕ)) → length (committed fs) ≤ length fs
unfolding committed
committed-most [] = omega arith
committed-most (f ∷ fs) = from-most f (committed fs) (length fs) (committed-most fs)

committed-from : (f : List ℕ) (s : List (List ℕ)) → committed s ≡ s → (b : Bool) → is_commit_frame f ≡ b → committed (committed_from f s) ≡ committed_from f s
unfolding committed
committed-from f [] e true t = rw (t, t)
committed-from f [] e false t = rw t
committed-from f (g ∷ s) e b t = rw e

-- of the committed frames all are committed
pub committed-again : (fs : List (List ℕ)) → committed (committed fs) ≡ committed fs
unfolding committed
committed-again [] = refl
committed-again (f ∷ fs) = committed-from f (committed fs) (committed-again fs) (is_commit_frame f) refl

-- frames that nothing commits change nothing
pub committed-open : (fs gs : List (List ℕ)) → committed gs ≡ [] → committed (fs ++ gs) ≡ committed fs
unfolding committed
committed-open [] gs e = e
committed-open (f ∷ fs) gs e = rw (committed-open fs gs e)

from_more : (f : List ℕ) (fs : List (List ℕ)) (h : List ℕ) (hs : List (List ℕ)) → committed_from f (fs ++ (h ∷ hs)) ≡ f ∷ (fs ++ (h ∷ hs))
from_more f [] h hs = refl
from_more f (g ∷ fs) h hs = refl

-- a commit frame behind some frames commits them all
pub committed-behind : (fs gs : List (List ℕ)) (h : List ℕ) (hs : List (List ℕ)) → committed gs ≡ h ∷ hs → committed (fs ++ gs) ≡ fs ++ committed gs
unfolding committed
committed-behind [] gs h hs e = refl
committed-behind (f ∷ fs) gs h hs e = rw (committed-behind fs gs h hs e, e) (from_more f fs h hs)

-- what was committed stays committed, in front, whatever comes behind
committed-through : (fs gs s : List (List ℕ)) → committed gs ≡ s → committed fs ≡ take (length (committed fs)) (committed (fs ++ gs))
committed-through fs gs [] e = rw (committed-open fs gs e) (sym (take-length (committed fs)))
committed-through fs gs (h ∷ hs) e =
    let t : take (length (committed fs)) (fs ++ committed gs) ≡ take (length (committed fs)) fs = take-append-le (length (committed fs)) fs (committed gs) (committed-most fs) in
    rw (committed-behind fs gs h hs e, t) (committed-front fs)

pub committed-more : (fs gs : List (List ℕ)) → committed fs ≡ take (length (committed fs)) (committed (fs ++ gs))
committed-more fs gs = committed-through fs gs (committed gs) refl

-- ---- what is looked up in them

pub last_count-snoc : (fs : List (List ℕ)) (f : List ℕ) → last_count (fs ++ (f ∷ [])) ≡ Some (commit_count f)
unfolding last_count
last_count-snoc fs f = foldl-append _ None fs (f ∷ [])

pub page_in-snoc : (p : ℕ) (fs : List (List ℕ)) (f : List ℕ) → page_in p (fs ++ (f ∷ [])) ≡ pick (eqb (page_of f) p) f (page_in p fs)
unfolding page_in
page_in-snoc p fs f = foldl-append _ [] fs (f ∷ [])

batches-pick : (b : Bool) (f : List ℕ) (r s : List (List ℕ)) → pick b (f ∷ (r ++ s)) (r ++ s) ≡ pick b (f ∷ r) r ++ s
batches-pick true f r s = refl
batches-pick false f r s = refl

pub batches_in-append : (fs gs : List (List ℕ)) → batches_in (fs ++ gs) ≡ batches_in fs ++ batches_in gs
unfolding batches_in
batches_in-append [] gs = refl
batches_in-append (f ∷ fs) gs = rw (batches_in-append fs gs) (batches-pick (is_batch f) f (batches_in fs) (batches_in gs))

-- ---- a frame as it is written

module _ (page count salt : ℕ) (body : List ℕ) where
  pub page-encoded : page < 2 ^ 32 → page_of (encode_frame page count salt body) ≡ page
  unfolding frame_header
  page-encoded h = whole_back page count salt body 0 (omega arith) ∙ page-back page count salt body h

  pub count-encoded : count < 2 ^ 32 → commit_count (encode_frame page count salt body) ≡ count
  unfolding frame_header
  count-encoded h = whole_back page count salt body 4 (omega arith) ∙ count-back page count salt body h

  -- "for page 4294967295 (a batch), the body decodes"
  pub good-encoded : page < 2 ^ 32 → salt < 2 ^ 32 → good salt (encode_frame page count salt body) ≡ pick (eqb page 4294967295) (decodes body) true
  unfolding good
  good-encoded hp hs = rw (intact-back page count salt body hs, page-encoded hp, body_back page count salt body)

  -- a page's frame is good
  pub good-page : page < 2 ^ 32 → salt < 2 ^ 32 → (page ≡ 4294967295 → ⊥) → good salt (encode_frame page count salt body) ≡ true
  good-page hp hs n = rw (good-encoded hp hs, ne_eqb page 4294967295 n)

-- a batch's frame is good where its body decodes
pub good-batch : (count salt : ℕ) (body : List ℕ) → salt < 2 ^ 32 → good salt (encode_frame 4294967295 count salt body) ≡ decodes body
good-batch count salt body hs = good-encoded 4294967295 count salt body (omega arith) hs
