use Rattle.std.proofs.Common.{rules, tests}
use Rattle.std.specs.Bool.{⊤}
use Rattle.std.proofs.lemmas.Iterator.{IsFirst-from_position, YieldsList-from_slice}
use Rattle.pager_checkpoint.proofs.Blocks.{Low, low-front}
use Rattle.pager_checkpoint.proofs.blocks_without.Goals as goal

pub returns : goal.returns
returns c =
    let bs = c.as_chunks.result.0.now in
    let found = IsFirst-from_position _ _ c.position.result (λ b. ⊤) Low c.position.ensures.ran (YieldsList-from_slice bs cc) (λ x q h. tt) (λ x q h. search (rules, tests)) in
    low-front c.args.entries.now bs c.position.result c.as_chunks.ensures.front c.as_chunks.ensures.front_len found c.unwrap_or.ensures
