-- Document 01's starred cases hold. Assumes nothing.
use mathlib.Core.Path.{refl}
use Rattle.le.specs.Le.{le_bytes}
use Rattle.text.specs.Utf8.{two, three, four, size, formed_behind, well_formed}
use Rattle.checksum.specs.Checksum.{sum_from}
use Rattle.frame.specs.Frame.{heading, frame_sum}
use Rattle.wal.proofs.Lengths.{none-32, none-4143, one-4144, one-8255, two-8256}
use Rattle.cases.specs.Cases.{Cases}
use Rattle.cases.proofs.Built as built
use Rattle.cases.proofs.Decoded.{bool-two-decodes, bool-two-true, bool-two-one, op-nine-cut, op-nine-whole}

pub cases : Cases
unfolding frame_sum heading le_bytes sum_from well_formed formed_behind size two three four
cases =
    record {
      length-32 = none-32;
      length-4143 = none-4143;
      length-4144 = one-4144;
      length-8255 = one-8255;
      length-8256 = two-8256;
      sum-page-0-count-0 = refl;
      sum-page-1-count-0 = refl;
      sum-page-1-count-2 = refl;
      tombstones-370 = built.tombstones-370;
      tombstones-371 = built.tombstones-371;
      tombstones-built = built.tombstones-built;
      tombstone-370th = built.tombstone-370th;
      tombstone-371st = built.tombstone-371st;
      nulls-1355 = built.nulls-1355;
      nulls-1356 = built.nulls-1356;
      nulls-built = built.nulls-built;
      null-1355th = built.null-1355th;
      null-1355th-end = built.null-1355th-end;
      null-1356th = built.null-1356th;
      items-1356 = built.items-1356;
      items-1356-built = λ t row body k f l. built.items-1356-built t row k f body l;
      text-c3-a9 = refl;
      text-f4-8f-bf-bf = refl;
      text-c0-80 = refl;
      text-ed-a0-80 = refl;
      text-f4-90-80-80 = refl;
      bool-2-is-there = refl;
      bool-2-decodes = bool-two-decodes;
      bool-2-is-true = bool-two-true;
      bool-2-written-1 = bool-two-one;
      op-9-cut = op-nine-cut;
      op-9-whole = op-nine-whole;
    }
