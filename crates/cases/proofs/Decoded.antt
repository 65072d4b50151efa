-- Document 01's cases of bodies that are decoded: a bool byte that is neither 0 nor 1, and an unknown op. Assumes nothing.
use mathlib.Core.Path.{◌≡◌, refl}
use mathlib.Core.Bool.{true}
use mathlib.Core.List.{[], ◌∷◌}
use lib.ListN.{get_or, replicate}
use lib.IntN.{pos}
use Rattle.std.specs.Prelude.{Some}
use Rattle.le.specs.Le.{le_of, le_bytes}
use Rattle.refusal.specs.declared.Refusal.TheVariants as refusal
use Rattle.text.specs.Utf8.{well_formed, formed_behind}
use Rattle.mvcc.specs.Answer.{many}
use Rattle.mvcc.specs.Decode.{num_at, text_of, text_at, signed, bool_at, tagged_at, value_at, column_at, present_at, judged_at, record_at, records_at, batch_magic, heading_refusal, batch_of}
use Rattle.mvcc.specs.Batch.{present, bool, all, encode_text, encode_value, encode_column, encode_record, encode_batch, encode_body, padded}
use Rattle.mvcc.specs.Seen.{seen, seen_column, seen_row, seen_record, decode_refusal, decodes, records, canonical}
use Rattle.cases.specs.Cases.{bool_two, op_nine}

-- ---- a bool byte

pub bool-two-decodes : decodes bool_two ≡ true
unfolding decodes decode_refusal batch_of heading_refusal batch_magic le_of records_at many record_at judged_at present_at column_at value_at tagged_at bool_at text_at text_of num_at well_formed formed_behind
bool-two-decodes = refl

-- it is true
pub bool-two-true : records bool_two ≡ present [] (pos 0) (record { name = []; val = bool true } ∷ []) ∷ []
unfolding records seen_record seen_row seen_column seen le_of records_at many record_at judged_at present_at column_at value_at tagged_at bool_at text_at text_of num_at well_formed formed_behind signed
bool-two-true = refl

-- and is written back as 1
pub bool-two-one : get_or (canonical bool_two) 34 0 ≡ 1
unfolding canonical encode_body padded encode_batch all encode_record encode_column encode_value encode_text le_bytes le_of
bool-two-one = rw bool-two-true

-- ---- an unknown op

pub op-nine-cut : decode_refusal (op_nine (5 ∷ 0 ∷ 0x61 ∷ [])) ≡ Some refusal.Truncated
unfolding decode_refusal batch_of heading_refusal batch_magic le_of records_at many record_at text_at text_of num_at
op-nine-cut = refl

pub op-nine-whole : decode_refusal (op_nine (replicate 10 0)) ≡ Some refusal.Tag
unfolding decode_refusal batch_of heading_refusal batch_magic le_of records_at many record_at judged_at text_at text_of num_at well_formed formed_behind
op-nine-whole = refl
