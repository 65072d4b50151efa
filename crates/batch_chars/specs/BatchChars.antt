-- Document 02, P6: "The text check now also gives the number of Unicode scalar values; batch names and texts carry it along."
-- `batch-chars` of proofs/BatchChars.antt proves it. What the text check answers is `agrees` of text.
use Rattle.std.specs.Prelude.{Err, None, Ok, Option, Result, Some, ◌≡◌, true, List, [], ◌∷◌, ◌++◌, map, ℕ, zero, suc, ◌+◌, ◌^◌, ◌<◌, length}
use Rattle.refusal.specs.declared.Refusal.{Refusal}
use Rattle.le.specs.Le.{Bytes}
use Rattle.text.specs.Table.{Sequences}
use Rattle.text.specs.Utf8.{chars}
use Rattle.mvcc.specs.Answer.{taken, many, items}
use Rattle.mvcc.specs.Batch.{body_size, Val, null, integer, real, text, bool, vector, Col, Rec, tombstone, present, all, encode_batch, Each, GoodBatch}
use Rattle.mvcc.specs.Decode.{text_at, column_at, records_at}
use Rattle.mvcc.specs.Seen.{bytes_of, decodes, records, canonical}
use Rattle.mvcc.specs.declared.TextPlace.{TextPlace}
use Rattle.mvcc.specs.declared.Value.{Value}
use Rattle.mvcc.specs.declared.Value.TheVariants as value
use Rattle.mvcc.specs.declared.Column.{Column}
use Rattle.mvcc.specs.declared.VersionPayload.{VersionPayload}
use Rattle.mvcc.specs.declared.VersionPayload.TheVariants as payload
use Rattle.mvcc.specs.declared.MvccLogRecord.{MvccLogRecord}
use Rattle.wal.specs.declared.BatchAt.{BatchAt}
use Rattle.mvcc_build.specs.Build.{started_bytes}
use Rattle.mvcc_build.specs.Built.{builder_of}
use Rattle.mvcc_build.specs.Run.{Addition, HeldCall, run_body, run_records}
use Rattle.pager_state.specs.World.{World}
use Rattle.pager_state.specs.Overlay.{page_from}
use Rattle.pager_state.specs.Batches.{next_recovered}
use Rattle.pager_state.specs.declared.AccessMode.TheVariants as mode
use Rattle.history.specs.Model.{Batch}
use Rattle.history.specs.Calls.{Lent, Call, Open}
use Rattle.history.specs.Run.{Run, whole, Attempt, Cut, next}
use Rattle.history.specs.Demand3.{Sized, TypedEvent}
use Rattle.history.specs.Guards.{Always}

-- ---- the numbers of a batch's texts, in their order: of each record the table's, then of each column the name's and, if its value is a text, that text's

abbrev pub value_chars : Val → List ℕ
value_chars null = []
value_chars (integer z) = []
value_chars (real n) = []
value_chars (text t) = chars t ∷ []
value_chars (bool b) = []
value_chars (vector ws) = []

abbrev pub column_chars : Col → List ℕ
column_chars c = chars c.name ∷ value_chars c.val

abbrev pub record_chars : Rec → List ℕ
record_chars (tombstone t row) = chars t ∷ []
record_chars (present t row cs) = chars t ∷ all column_chars cs

abbrev pub batch_chars : List Rec → List ℕ
batch_chars rs = all record_chars rs

-- ---- those that the places carry which decoding a body gives, in the same order

abbrev pub carried_by_value : Value → List ℕ
carried_by_value value.Null = []
carried_by_value (value.Integer z) = []
carried_by_value (value.Real x) = []
carried_by_value (value.Nan n) = []
carried_by_value (value.Text p) = p.chars ∷ []
carried_by_value (value.Bool b) = []
carried_by_value (value.Vector start n) = []

abbrev pub carried_by_column : Column → List ℕ
carried_by_column c = c.name.chars ∷ carried_by_value c.value

abbrev pub carried_by_payload : List ℕ → VersionPayload → List ℕ
carried_by_payload s payload.Tombstone = []
carried_by_payload s (payload.Present count first) = all carried_by_column (items (many (column_at s) count first))

abbrev pub carried_by_record : List ℕ → MvccLogRecord → List ℕ
carried_by_record s r = r.row.table.chars ∷ carried_by_payload s r.payload

unfoldable pub carried : List ℕ → List ℕ
carried s = all (carried_by_record s) (items (records_at s))

-- ---- those of an open store's batches, walked from a frame's index on; no log has more than 1,024 frames

abbrev pub carried_at : Result (Option BatchAt) Refusal → List ℕ → (ℕ → List (List ℕ)) → List (List ℕ)
carried_at (Ok (Some b)) l rest = carried (page_from (b.offset + 16) l) ∷ rest (b.index + 1)
carried_at (Ok None) l rest = []
carried_at (Err r) l rest = []

unfoldable pub carried_from : ℕ → World → ℕ → List (List ℕ)
carried_from zero w i = []
carried_from (suc k) w i = carried_at (next_recovered w.pager w.log i) w.log (carried_from k w)

-- they are those of the sealed batches of the model (document 01's plain book)
abbrev pub Carries : Run → Type 0
Carries r = carried_from 1025 r.world 0 ≡ map (λ (b : Batch). batch_chars b.rows) r.model.committed

pub record BatchChars : Type 0 where
  -- "the number of Unicode scalar values": a text that is read in a body, any bytes, has as many as table 3-7 splits its bytes into
  pub splits : (k : ℕ) (s : List ℕ) (at : ℕ) (p : TextPlace) (end : ℕ) → text_at k s at ≡ taken p end → Sequences p.chars (bytes_of s p)
  -- "batch names and texts carry it along": each of them, of any body
  pub bodies : (s : List ℕ) → carried s ≡ batch_chars (records s)
  -- the round trip keeps it, whatever lies behind the batch ..
  pub encoded : (t : ℕ) (rs : List Rec) (pad : List ℕ) → GoodBatch t rs → carried (encode_batch t rs ++ pad) ≡ batch_chars rs
  -- .. and so does building, by any calls, refused ones included ..
  pub built : (ks : List Addition) (t : ℕ) (body : List ℕ) → length body ≡ body_size → t < 256 ^ 8 → Each HeldCall ks
      → carried (run_body ks (builder_of t []) (started_bytes t body)) ≡ batch_chars (run_records t ks [])
  -- .. and the canonical form
  pub rewritten : (s : List ℕ) → Bytes s → decodes s ≡ true → carried (canonical s) ≡ carried s
  -- in any history, cuts and refused calls included: a clean opening ..
  pub opened : Always (λ (r : Run). (lent : Lent) → Sized lent → Carries (whole (Open mode.ReadWrite lent) r))
  -- .. and the one behind a cut and other openings that were cut, of any call, after any stored byte
  pub reopened : Always (λ (r : Run).
      (c : Call) (j k : ℕ) (attempts : List Attempt) (lent : Lent) → TypedEvent (Cut c j k attempts lent) → Carries (next (Cut c j k attempts lent) r))
