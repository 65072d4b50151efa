use mathlib.Core.Path.{refl}
use Prim.Native.Nat.{ℕ}
use lib.ListN.{replicate}
use Rattle.header.specs.Header.{magic}
use Rattle.header.proofs.Encoding.{fields-written}
use Rattle.header.proofs.encode_fields.Goals as goal

pub returns : goal.returns
unfolding magic
returns c =
    fields-written c.args.h (replicate {A = ℕ} 32 0) refl c.write_bytes.ensures.1 c.write_u16.ensures.1
    c.write_u16-2.ensures.1 c.write_u32.ensures.1 c.write_u32-2.ensures.1 c.write_u32-3.ensures.1
