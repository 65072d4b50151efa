use Rattle.std.proofs.Common.{◌≡◌, ◌+◌, ◌*◌, ◌<◌, length, take, length-take, sym, arith}
use Rattle.le.proofs.Stores.{put-none}
use Rattle.replay.proofs.Bytes.{length-bytes, byte_at, lay-more, laid}
use Rattle.replay.specs.Cases.{hex_bytes}
use Rattle.replay.proofs.decode.Goals as goal

pub loop-i-init : goal.loop-i-init
loop-i-init c = sym (put-none c.args.out.now 0)

pub loop-i-preserved : goal.loop-i-preserved
loop-i-preserved c =
    let line = c.args.line.now in
    let i = c.loop-i.i in
    let h : 2 * i + 1 < length line = omega arith in
    let k : i < length (hex_bytes line) = rw length-bytes (omega arith) in
    rw (c.loop-i.invariant, c.digit_of.ensures.0, c.digit_of-in-loop-i.ensures.0)
    (lay-more c.args.out.now (hex_bytes line) i _ (omega arith) k (sym (byte_at line i h)))

pub returns : goal.returns
returns c =
    let n = c.min-n.result in
    let out = c.args.out.now in
    let e : n ≡ length (take (length out) (hex_bytes c.args.line.now)) = simp (length-take, length-bytes) (omega arith) in
    let k : c.loop-i.i ≡ n = omega arith in
    laid out (hex_bytes c.args.line.now) n e (rw k at c.loop-i.invariant)
