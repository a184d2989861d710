-- `bytes::carry` meets its contract: the copies one after the other. Assumes nothing.
use Rattle.std.proofs.Common.{◌≡◌, ◌+◌, ◌*◌, length, drop, ap, ◌∙◌, arith, length-drop, rules}
use lib.Seq.{length-paste}
use Rattle.batch.proofs.bytes.carry.Goals as goal

pub copy-requires : goal.copy-requires
copy-requires c = let a = c.args in
    let eight : length a.frame ≡ 8 = search rules in
    let all : length a.bytes.now ≡ 7136 = search rules in
    let pre = c.requires in
    let long =
    ap length c.store.ensures
    ∙ length-paste a.bytes.now (a.g * 223 + a.d.at) (drop a.d.from a.frame) a.d.count (omega (arith, all, pre.0, pre.1)) (simp length-drop (omega (arith, eight, pre.2)))
    ∙ all in
    (pre.4, omega (arith, long, pre.0, pre.3))
