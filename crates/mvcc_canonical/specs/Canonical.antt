-- What writing a body's canonical form answers and leaves, and the walk that sets its bools.
use Rattle.std.specs.Prelude.{Option, ◌≡◌, List, [], ◌∷◌, ℕ, zero, suc, ◌+◌, ◌-◌, ◌≤◌, ◌<◌, leb, ltb, eqb, length, get_or, Result, Ok, Err}
use Rattle.mvcc.specs.Batch.{body_size}
use Rattle.le.specs.Choice.{pick}
use Rattle.le.specs.Le.{store}
use Rattle.refusal.specs.Refusal.{unless, accepts, answered}
use Rattle.refusal.specs.declared.Refusal.{Refusal}
use Rattle.refusal.specs.declared.Refusal.TheVariants as refusal
use Rattle.mvcc.specs.Answer.{Answer, taken, refused, many}
use Rattle.mvcc.specs.Decode.{column_at, record_at}
use Rattle.mvcc.specs.Seen.{refusal_in, decode_refusal, canonical}
use Rattle.mvcc.specs.declared.Value.{Value}
use Rattle.mvcc.specs.declared.Value.TheVariants as value
use Rattle.mvcc.specs.declared.Column.{Column}
use Rattle.mvcc.specs.declared.VersionPayload.{VersionPayload}
use Rattle.mvcc.specs.declared.VersionPayload.TheVariants as payload
use Rattle.mvcc.specs.declared.MvccLogRecord.{MvccLogRecord}
use Rattle.mvcc.specs.declared.MvccCommitBatch.{MvccCommitBatch}

-- what an answer of decoding comes to
abbrev pub canonical_answer : Result MvccCommitBatch Refusal → Result Unit Refusal
canonical_answer d = answered Err (Ok tt) (refusal_in d)

-- the body s, into out: a wrong length, then decoding's refusals
unfoldable pub canonical_refusal : List ℕ → List ℕ → Option Refusal
canonical_refusal s out =
    unless (eqb (length out) body_size) refusal.Area
    (unless (leb (length s) body_size) refusal.Area (decode_refusal s))

abbrev pub canonicalized : List ℕ → List ℕ → Result Unit Refusal
canonicalized s out = answered Err (Ok tt) (canonical_refusal s out)

-- the later bytes of out: a refusal leaves them as they were
abbrev pub canonical_bytes : List ℕ → List ℕ → List ℕ
canonical_bytes s out = pick (accepts (canonical_refusal s out)) (canonical s) out

-- ---- the walk

-- where reading ended; 0 where it was refused
abbrev pub answer_end : {A : Type 0} → Answer A → ℕ
answer_end (taken a end) = end
answer_end (refused k) = 0

abbrev pub fix_next : {A : Type 0} → Answer A → (A → ℕ → List ℕ → List ℕ) → (ℕ → List ℕ → List ℕ) → List ℕ → List ℕ
fix_next (taken a next) step rest out = rest next (step a next out)
fix_next (refused k) step rest out = out

-- k things, one after the other: each, with the cursor past it, does its step on out
unfoldable pub fix_all : {A : Type 0} → (ℕ → Answer A) → (A → ℕ → List ℕ → List ℕ) → ℕ → ℕ → List ℕ → List ℕ
fix_all f step zero at out = out
fix_all f step (suc k) at out = fix_next (f at) step (fix_all f step k) out

-- a bool that ends at `end` becomes 0 or 1
unfoldable pub fix_value : Value → ℕ → List ℕ → List ℕ
fix_value value.Null end out = out
fix_value (value.Integer z) end out = out
fix_value (value.Real x) end out = out
fix_value (value.Nan n) end out = out
fix_value (value.Text p) end out = out
fix_value (value.Bool b) end out = pick (ltb 0 end) (store out (end - 1) (pick b 1 0 ∷ [])) out
fix_value (value.Vector start n) end out = out

unfoldable pub column_step : Column → ℕ → List ℕ → List ℕ
column_step c end out = fix_value c.value end out

unfoldable pub fix_payload : List ℕ → VersionPayload → List ℕ → List ℕ
fix_payload s payload.Tombstone out = out
fix_payload s (payload.Present count first) out = fix_all (column_at s) column_step count first out

unfoldable pub record_step : List ℕ → MvccLogRecord → ℕ → List ℕ → List ℕ
record_step s r end out = fix_payload s r.payload out

unfoldable pub fix_record : List ℕ → ℕ → List ℕ → List ℕ
fix_record s at out = fix_next (record_at s at) (record_step s) (λ next l. l) out

-- a record stands at `at` in a body of at most 4,096 bytes
pub record Stands (s : List ℕ) (at : ℕ) : Type 0 where
  pub small : length s ≤ body_size
  pub item : MvccLogRecord
  pub next : ℕ
  pub is : record_at s at ≡ taken item next

-- n columns stand from `at` on
pub record Columns (s : List ℕ) (n at : ℕ) : Type 0 where
  pub list : List Column
  pub end : ℕ
  pub is : many (column_at s) n at ≡ taken list end

-- n records stand from `at` on
pub record Walk (s : List ℕ) (n at : ℕ) : Type 0 where
  pub small : length s ≤ body_size
  pub list : List MvccLogRecord
  pub end : ℕ
  pub is : many (record_at s) n at ≡ taken list end

-- a byte before `end` that stands right behind a byte 4, the tag of a bool, is at most `top`
abbrev pub BoolsTo : List ℕ → ℕ → ℕ → Type 0
BoolsTo s end top = (i : ℕ) → i + 1 < end → get_or s i 0 ≡ 4 → get_or s (i + 1) 0 ≤ top
