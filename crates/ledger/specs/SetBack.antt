-- Document 02, No. 10: "After a boat's time is set back, an old half message is silent for 0 ms and can live for hours." What becomes of it in each mode.
-- No contract cites this file.
use Rattle.std.specs.Prelude.{Some, true, false, List, [], ◌∷◌, ◌≢◌, ◌≡◌, ℕ, ◌+◌, ◌≤◌, ◌<◌, length, get_or}
use Rattle.session.specs.declared.Head.{Head}
use Rattle.session.specs.declared.Kind.TheVariants.{FragmentConsumed}
use Rattle.session.specs.declared.Counter.TheVariants.{Expired}
use Rattle.session.specs.declared.Mode.TheVariants.{AsOriginal, SetBackIsSilence}
use Rattle.session.specs.Rules.{keys_equal}
use Rattle.session.specs.Frames.{key_of}
use Rattle.session.specs.Heads.{fresh_head, head_key, has_key, opened_head}
use Rattle.session.specs.Counting.{raised}
use Rattle.assembler.specs.declared.Pool.{Pool}
use Rattle.assembler.specs.Call.{Call}
use Rattle.assembler.specs.Slots.{impossible}
use Rattle.assembler.specs.View.{slots_of}
use Rattle.assembler.specs.Promises.{rules_of}
use Rattle.ledger.specs.Ledger.{briefly}
use Rattle.ledger.specs.Demand3.{is_opener, has_room}
use Rattle.ledger.specs.Runs.{State, Ran}

abbrev pub head_in : Pool → ℕ → Head
head_in p i = get_or p.heads i fresh_head

-- place i of the pool, within its size, holds a half message with this head
pub record Half (p : Pool) (i : ℕ) (h : Head) : Type 0 where
  pub within : i < p.size
  pub there : i < length p.heads
  pub here : head_in p i ≡ h
  pub busy : h.in_progress ≡ true

-- a call of another key, at most 500 ms after the half message's last time: so are all readings before that time
pub record PassesBy (h : Head) (c : Call) : Type 0 where
  pub other : keys_equal (head_key h) (key_of c.heard) ≡ false
  pub reading : c.heard.now_ms ≤ h.last_seen_ms + 500

pub data AllPassBy (h : Head) : List Call → Type 0 where
  none : AllPassBy h []
  more : {c : Call} {cs : List Call} → PassesBy h c → AllPassBy h cs → AllPassBy h (c ∷ cs)

-- a first frame comes to place i: it has the place's key, which no place before it has; or no other place has room for it, as in a pool of one slot
pub data ComesTo (p : Pool) (i : ℕ) (c : Call) : Type 0 where
  its_key : has_key (rules_of p) c.heard (head_in p i) ≡ true → ((j : ℕ) → j < i → has_key (rules_of p) c.heard (head_in p j) ≡ false) → ComesTo p i c
  only_room : ((j : ℕ) → j < p.size → j ≢ i → has_room (rules_of p) c (head_in p j) ≡ false) → ComesTo p i c

-- a listed first frame announcing 7 to 223 bytes, not cut short, at a reading before the half message's last time, comes to its place
pub record BeginsBefore (p : Pool) (i : ℕ) (h : Head) (c : Call) : Type 0 where
  pub opens : is_opener c ≡ true
  pub earlier : c.heard.now_ms < h.last_seen_ms
  pub place : ComesTo p i c

-- from z to y the message of place i is reclaimed by the call c: it is told FragmentConsumed, opens there, and of the counters expired_sessions goes up
pub record Reclaims (c : Call) (i : ℕ) (z y : State) : Type 0 where
  pub answer : y.said ≡ briefly FragmentConsumed ∷ z.said
  pub opened : head_in y.pool i ≡ opened_head c.heard
  pub counted : y.counters ≡ raised (Some Expired) z.counters

pub record SetBack : Type 0 where
  -- as the original: however many calls pass by, the half message is held
  pub held : {z y : State} {cs : List Call} {i : ℕ} {h : Head} → z.pool.mode ≡ AsOriginal → Half z.pool i h → Ran z cs y → AllPassBy h cs → Half y.pool i h
  -- a clock set back is silence: the next first frame that comes to it, at any reading before its last time and by whichever public call, reclaims it
  pub reclaimed : {z y : State} {c : Call} {i : ℕ} {h : Head} → z.pool.mode ≡ SetBackIsSilence → impossible (rules_of z.pool) (slots_of z.pool) ≡ false → Half z.pool i h
      → BeginsBefore z.pool i h c → Ran z (c ∷ []) y → Reclaims c i z y
