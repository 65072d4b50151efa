-- Names and texts of batches carry their numbers of scalar values, of any body and in any history. Assumes nothing.
use mathlib.Core.Path.{◌≡◌, refl, sym, ap, ◌∙◌}
use mathlib.Core.Bool.{true}
use mathlib.Core.List.{List, [], ◌∷◌, ◌++◌, map}
use Prim.Native.Nat.{ℕ, zero, suc, ◌+◌, ◌*◌, ◌^◌, ◌<◌}
use lib.Dec.{eqb}
use lib.ListN.{take, drop}
use lib.Ieee.{binary64, nan_bits}
use Rattle.std.specs.Prelude.{Err, None, Ok, Option, Result, Some}
use Rattle.refusal.specs.declared.Refusal.{Refusal}
use Rattle.le.specs.Le.{field}
use Rattle.text.specs.Table.{Sequences}
use Rattle.text.specs.Utf8.{well_formed, chars}
use Rattle.text.proofs.Agrees.{agrees}
use Rattle.mvcc.specs.Answer.{Answer, taken, refused, then, many, items}
use Rattle.mvcc.specs.Batch.{heading_size, all, encode_batch, Each}
use Rattle.mvcc.specs.Decode.{fits_in, num_at, place_of, text_of, text_at, real_of, integer_at, real_at, bool_at, text_value_at, vector_at, tagged_at, value_at, column_at, present_at, judged_at, record_at, records_at}
use Rattle.mvcc.specs.Seen.{bytes_of, seen, seen_column, seen_row, seen_record, records, canonical}
use Rattle.mvcc.specs.declared.TextPlace.{TextPlace}
use Rattle.mvcc.specs.declared.Value.{Value}
use Rattle.mvcc.specs.declared.Column.{Column}
use Rattle.mvcc.specs.declared.MvccLogRecord.{MvccLogRecord}
use Rattle.mvcc.proofs.Sound.{When, then-when, pick-test}
use Rattle.mvcc.proofs.Canonical.{records-encode, canonical-records}
use Rattle.wal.specs.declared.BatchAt.{BatchAt}
use Rattle.batch_chars.specs.BatchChars.{value_chars, column_chars, record_chars, batch_chars, carried_by_value, carried_by_column, carried_by_record, carried, carried_at, carried_from, Carries, BatchChars}
use Rattle.mvcc_build.proofs.Built.{start-built, built-records}
use Rattle.mvcc_build.proofs.Run.{run-built}
use Rattle.pager_state.specs.World.{World}
use Rattle.pager_state.specs.Overlay.{page_from}
use Rattle.pager_state.specs.Batches.{next_recovered}
use Rattle.pager_state.specs.Opening.{create_fine}
use Rattle.pager_state.specs.declared.AccessMode.TheVariants as mode
use Rattle.history.specs.Model.{Batch, batch_in}
use Rattle.history.specs.Calls.{Lent, Call, Open}
use Rattle.history.specs.Run.{Run, whole, Attempt, Event, Cut, next, start}
use Rattle.history.specs.Demand3.{walked_at, walked, Returns, Sized, TypedEvent, AllTyped}
use Rattle.history.specs.Guards.{after}
use Rattle.history.proofs.Demand3Holds.{demand3}
use Rattle.history.proofs.GuardReached.{Reached, reached-after, opening-returns, cut-returns}

-- ---- lists of things that were read

module _ {A : Type 0} (P : A → Type 0) where
  abbrev Holds : A → ℕ → Type 0
  Holds a next = P a

  abbrev HoldsEach : List A → ℕ → Type 0
  HoldsEach l end = Each P l

  each_read : (f : ℕ → Answer A) → ((at : ℕ) → When Holds (f at)) → (k at : ℕ) → When HoldsEach (many f k at)
  unfolding many Each
  each_read f h zero at = tt
  each_read f h (suc k) at =
      then-when Holds HoldsEach (f at) (λ a next. then (many f k next) (λ rest end. taken (a ∷ rest) end)) (h at)
      (λ a next e p.
      then-when HoldsEach HoldsEach (many f k next) (λ rest end. taken (a ∷ rest) end) (each_read f h k next) (λ rest end g q. (p, q)))

  each_item : (x : Answer (List A)) → When HoldsEach x → Each P (items x)
  unfolding Each
  each_item (taken l end) h = h
  each_item (refused k) h = tt

module _ {A B : Type 0} (f : A → List ℕ) (g : B → List ℕ) (see : A → B) where
  all_same : (l : List A) → Each (λ (a : A). f a ≡ g (see a)) l → all f l ≡ all g (map see l)
  unfolding all Each
  all_same [] h = refl
  all_same (a ∷ l) h = rw (h.0, all_same l h.1)

-- what is read behind a thing, whatever that is
behind : {A B : Type 0} (Q : B → ℕ → Type 0) (x : Answer A) (f : A → ℕ → Answer B) → ((a : A) (next : ℕ) → When Q (f a next)) → When Q (then x f)
behind Q (taken a next) f h = h a next
behind Q (refused k) f h = tt

-- ---- a body's texts

module _ (s : List ℕ) where
  -- a text that is read has well-formed bytes
  text-read : (P : TextPlace → Type 0) → ((at n : ℕ) → well_formed (take n (drop at s)) ≡ true → P (place_of s at n))
      → (k at : ℕ) → When (Holds P) (text_at k s at)
  unfolding text_at text_of
  text-read P h k at =
      behind (Holds P) (num_at k s at) (λ n next. text_of s next n)
      (λ n next.
      pick-test (When (Holds P)) (fits_in s next n)
      (λ r. pick-test (When (Holds P)) (well_formed (take n (drop next s))) (λ w. h next n w) (λ w. tt))
      (λ r. tt))

  abbrev Split : TextPlace → Type 0
  Split p = Sequences p.chars (bytes_of s p)

  split-read : (k at : ℕ) → When (Holds Split) (text_at k s at)
  split-read k at = text-read Split (λ at n w. (agrees (take n (drop at s))).sound w) k at

  abbrev Text : TextPlace → Type 0
  Text p = p.chars ≡ chars (bytes_of s p)

  named : (k at : ℕ) → When (Holds Text) (text_at k s at)
  named k at = text-read Text (λ at n w. refl) k at

  abbrev Valued : Value → Type 0
  Valued v = carried_by_value v ≡ value_chars (seen s v)

  abbrev W : Answer Value → Type 0
  W = When (Holds Valued)

  tagged : (tag at : ℕ) → W (tagged_at s tag at)
  unfolding tagged_at integer_at real_at real_of bool_at vector_at text_value_at seen
  tagged tag at =
      pick-test W (eqb tag 0) (λ e. refl) (λ e.
      pick-test W (eqb tag 1) (λ e. behind (Holds Valued) (num_at 8 s at) _ (λ n end. refl)) (λ e.
      pick-test W (eqb tag 2)
      (λ e. behind (Holds Valued) (num_at 8 s at) _ (λ n end. pick-test Valued (nan_bits binary64 n) (λ e. refl) (λ e. refl))) (λ e.
      pick-test W (eqb tag 3)
      (λ e. then-when (Holds Text) (Holds Valued) (text_at 4 s at) _ (named 4 at) (λ p end e h. rw h)) (λ e.
      pick-test W (eqb tag 4) (λ e. behind (Holds Valued) (num_at 1 s at) _ (λ n end. refl)) (λ e.
      pick-test W (eqb tag 5)
      (λ e. behind (Holds Valued) (num_at 4 s at) _ (λ n start. pick-test W (fits_in s start (n * 4)) (λ r. refl) (λ r. tt))) (λ e. tt))))))

  valued : (at : ℕ) → W (value_at s at)
  unfolding value_at
  valued at = behind (Holds Valued) (num_at 1 s at) _ (λ tag next. tagged tag next)

  abbrev Columned : Column → Type 0
  Columned c = carried_by_column c ≡ column_chars (seen_column s c)

  columned : (at : ℕ) → When (Holds Columned) (column_at s at)
  unfolding column_at seen_column
  columned at =
      then-when (Holds Text) (Holds Columned) (text_at 2 s at) _ (named 2 at) (λ n next e h.
      then-when (Holds Valued) (Holds Columned) (value_at s next) _ (valued next) (λ v end g i. rw (h, i)))

  columns-same : (count first : ℕ)
      → let l = items (many (column_at s) count first) in all carried_by_column l ≡ all column_chars (map (seen_column s) l)
  columns-same count first =
      all_same carried_by_column column_chars (seen_column s) (items (many (column_at s) count first))
      (each_item Columned (many (column_at s) count first) (each_read Columned (column_at s) columned count first))

  abbrev Recorded : MvccLogRecord → Type 0
  Recorded r = carried_by_record s r ≡ record_chars (seen_record s r)

  recorded : (at : ℕ) → When (Holds Recorded) (record_at s at)
  unfolding record_at judged_at present_at seen_record seen_row
  recorded at =
      behind (Holds Recorded) (num_at 1 s at) _ (λ op second.
      then-when (Holds Text) (Holds Recorded) (text_at 2 s second) _ (named 2 second) (λ t next e h.
      behind (Holds Recorded) (num_at 8 s next) _ (λ n rest.
      pick-test (When (Holds Recorded)) (eqb op 0) (λ o. rw h) (λ o.
      pick-test (When (Holds Recorded)) (eqb op 1)
      (λ p.
      behind (Holds Recorded) (num_at 2 s rest) _ (λ count first.
      behind (Holds Recorded) (many (column_at s) count first) _ (λ columns end. rw (h, columns-same count first))))
      (λ p. tt)))))

  carried_same : carried s ≡ batch_chars (records s)
  unfolding carried records records_at
  carried_same =
      all_same (carried_by_record s) record_chars (seen_record s) (items (records_at s))
      (each_item Recorded (records_at s) (each_read Recorded (record_at s) recorded (field 2 16 s) heading_size))

taken-so : {A : Type 0} (P : A → ℕ → Type 0) {x : Answer A} {a : A} {next : ℕ} → x ≡ taken a next → When P x → P a next
taken-so P e h = rw e at h

-- ---- batches of an open store

abbrev row_chars : Batch → List ℕ
row_chars b = batch_chars b.rows

found-same : (f : Result (Option BatchAt) Refusal) (l : List ℕ) (numbers : ℕ → List (List ℕ)) (rest : ℕ → List Batch) → ((i : ℕ) → numbers i ≡ map row_chars (rest i))
    → carried_at f l numbers ≡ map row_chars (walked_at f l rest)
unfolding batch_in
found-same (Ok (Some b)) l numbers rest h = rw (carried_same (page_from (b.offset + 16) l), h (b.index + 1))
found-same (Ok None) l numbers rest h = refl
found-same (Err r) l numbers rest h = refl

walked_same : (k : ℕ) (w : World) (i : ℕ) → carried_from k w i ≡ map row_chars (walked k w i)
unfolding carried_from walked
walked_same zero w i = refl
walked_same (suc k) w i = found-same (next_recovered w.pager w.log i) w.log (carried_from k w) (walked k w) (walked_same k w)

carries : (r : Run) → Returns r → Carries r
carries r h = walked_same 1025 r.world 0 ∙ ap (map row_chars) h

-- ---- in any history

module _ (t l m g : List ℕ) (salt : ℕ) (f : create_fine t l m g ≡ true) (small : salt < 2 ^ 32) (es : List Event) (typed : AllTyped es) where
  abbrev r : Run
  r = after es (start t l m g salt)

  here : Reached (start t l m g salt) r
  here = reached-after (start t l m g salt) es typed

  opened-so : (lent : Lent) → Sized lent → Carries (whole (Open mode.ReadWrite lent) r)
  opened-so lent z = carries (whole (Open mode.ReadWrite lent) r) (opening-returns demand3 t l m g salt f small here lent z)

  reopened-so : (c : Call) (j k : ℕ) (attempts : List Attempt) (lent : Lent) → TypedEvent (Cut c j k attempts lent) → Carries (next (Cut c j k attempts lent) r)
  reopened-so c j k attempts lent z =
      carries (next (Cut c j k attempts lent) r) (cut-returns demand3 t l m g salt f small here c j k attempts lent z)

pub batch-chars : BatchChars
batch-chars =
    record {
      splits = λ k s at p end e. taken-so (Holds (Split s)) e (split-read s k at);
      bodies = carried_same;
      encoded = λ t rs pad g. carried_same (encode_batch t rs ++ pad) ∙ ap batch_chars (records-encode t rs pad g);
      built = λ ks t body n h g. carried_same _ ∙ ap batch_chars (built-records (run-built ks (start-built t body n h) g));
      rewritten = λ s sb d. carried_same (canonical s) ∙ ap batch_chars (canonical-records s sb d) ∙ sym (carried_same s);
      opened = opened-so;
      reopened = reopened-so;
    }
