use Rattle.std.proofs.Common.{◌≡◌, ◌-◌, ◌/◌, ◌≤◌, length, take}
use Rattle.wal.specs.Recovery.{chunks}
use Rattle.wal.specs.Read.{page_place_from}
use Rattle.wal.proofs.last_place.Given as goal

abbrev pub invariant-loop-i : goal.invariant-loop-i
invariant-loop-i l = (l.i ≤ (length l.file - 32) / 4112) × (page_place_from l.page_num 0 (take l.i (chunks l.file)) ≡ page_place_from l.page_num 0 (chunks l.file))
