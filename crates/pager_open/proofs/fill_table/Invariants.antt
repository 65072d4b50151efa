use Rattle.std.proofs.Common.{◌≡◌, [], take}
use Rattle.header.specs.declared.DbHeader.{DbHeader}
use Rattle.wal.specs.Recovery.{chunks}
use Rattle.pager_state.specs.Opening.{table_of}
use Rattle.pager_open.proofs.fill_table.Given as goal

abbrev pub invariant-loop-index : goal.invariant-loop-index
invariant-loop-index l = (h : DbHeader) → l.initial.table ≡ table_of h [] → l.table ≡ table_of h (take l.index (chunks l.file))
