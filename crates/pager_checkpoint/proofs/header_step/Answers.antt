use mathlib.Core.Path.{◌∙◌}
use Rattle.header.proofs.Encoding.{length-encode_header}
use Rattle.pager_checkpoint.proofs.header_step.Goals as goal

pub returns : goal.returns
returns c = record { answer_value = rw (length-encode_header c.args.pager.current_header); pager_value = c.with_main-next.ensures ∙ rw c.store_header-len.ensures.0; main_after = c.store_header-len.ensures.1 }
