-- With parts none the test of four parts is that of three. Assumes nothing.
use mathlib.Core.Path.{◌≡◌}
use Rattle.base.proofs.Bools.{and_true}
use Rattle.session.specs.Rules.{Key, keys_equal, three_equal}

pub old_key : (a b : Key) → a.part ≡ 0 → b.part ≡ 0 → keys_equal a b ≡ three_equal a b
unfolding keys_equal three_equal
old_key a b ea eb = rw (ea, eb) (and_true (three_equal a b))
