-- The cases of the search, as the code meets them. Assumes nothing.
use Prim.Native.Nat.{ℕ, ◌<◌}
use mathlib.Core.Path.{◌≡◌, refl}
use mathlib.Core.Bool.{Bool, true, false, not, ◌&&◌, ◌||◌}
use lib.Dec.{eqb}
use borrow.Author.Tests.{lt-ltb}
use Rattle.base.specs.Pick.{pick}
use Rattle.session.specs.declared.Head.{Head}
use Rattle.session.specs.declared.Heard.{Heard}
use Rattle.session.specs.declared.Found.{Found}
use Rattle.session.specs.declared.Mode.{Mode}
use Rattle.session.specs.declared.Mode.TheVariants.{AsOriginal}
use Rattle.session.specs.declared.PoolKind.{PoolKind}
use Rattle.session.specs.Rules.{pool_limit, silent_by, rules_by, base}
use Rattle.session.specs.Heads.{impossible_head, has_key, is_silent, is_free, is_free_of_source, has_live_key}
use Rattle.session.specs.inner.Search.{looked, first_of}

pub either_yes : (b : Bool) (x y : ℕ) → b ≡ true → x ≡ pick b x y
unfolding pick
either_yes b x y e = rw e

pub either_no : (b : Bool) (x y : ℕ) → b ≡ false → y ≡ pick b x y
unfolding pick
either_no b x y e = rw e

pub first_here : (a b : ℕ) → a < pool_limit → a ≡ first_of a b
unfolding first_of pick
first_here a b l = rw (lt-ltb a pool_limit l)

-- ---- one head: what each of the calls gave, put together
pub look_is : (d : PoolKind) (m : Mode) (f : Heard) (h : Head) (s : Found) (i : ℕ) (silent keyed bad : Bool) (key live own free : ℕ)
    → silent ≡ silent_by m f.now_ms h.last_seen_ms
    → keyed ≡ has_key base f h
    → bad ≡ impossible_head (rules_by d AsOriginal) h
    → key ≡ pick keyed i s.key
    → live ≡ pick (keyed && not silent) i s.live
    → own ≡ pick ((not h.in_progress || silent) && eqb h.source_address f.source_address) i s.own
    → free ≡ pick (not h.in_progress || silent) i s.free
    → record { bad = bad || s.bad; key = key; live = live; own = own; free = free } ≡ looked (rules_by d m) f i h s
unfolding looked impossible_head is_free is_free_of_source has_live_key has_key is_silent base rules_by
look_is d m f h s i silent keyed bad key live own free es ek eb e1 e2 e3 e4 = rw (e1, e2, e3, e4, es, ek, eb)

-- ---- the limit is the same in every kind and mode
pub same_limit : (kind : PoolKind) (mode : Mode) → (rules_by kind mode).limit ≡ pool_limit
unfolding rules_by
same_limit kind mode = refl
