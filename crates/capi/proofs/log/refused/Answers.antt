use Rattle.capi.proofs.log.refused.Goals as goal

pub returns : goal.returns
returns c = rw (c.number.ensures, c.no_wal_header.ensures)
