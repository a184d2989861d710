-- The pool of the code as slots, and back: slot k is heads[k] with the 223 bytes from 223 * k on. What the receive call answers.
use Rattle.std.specs.Prelude.{List, [], ◌∷◌, ◌++◌, map, ℕ, take, drop, replicate, eqb}
use Rattle.base.specs.Pick.{pick}
use Rattle.base.specs.Answer.{gives, refuses}
use Rattle.fast_packet.specs.FastPacket.{max_payload}
use Rattle.session.specs.declared.Head.{Head}
use Rattle.session.specs.declared.Heard.{Heard}
use Rattle.session.specs.declared.Counters.{Counters}
use Rattle.session.specs.declared.Kind.{Kind}
use Rattle.session.specs.declared.Kind.TheVariants.{ImpossiblePool, TooWide, NotListed, Rejected, PoolFull, Lost, FragmentConsumed, MessageComplete}
use Rattle.session.specs.declared.Mode.{Mode}
use Rattle.session.specs.declared.PoolKind.{PoolKind}
use Rattle.session.specs.Rules.{Rules}
use Rattle.assembler.specs.declared.Pool.{Pool}
use Rattle.assembler.specs.declared.Received.{Received}
use Rattle.assembler.specs.Slots.{Slot, Slots}
use Rattle.assembler.specs.Step.{Why, unlisted, bad_frame, no_slot, lost, ignored, consumed, complete, Reply, Outcome, step}

-- ---- the pool as slots

unfoldable pub slots_from : List Head → List ℕ → List Slot
slots_from [] bytes = []
slots_from (h ∷ hs) bytes = record { head = h; buffer = take max_payload bytes } ∷ slots_from hs (drop max_payload bytes)

unfoldable pub slots_of : Pool → Slots
slots_of p = record { slots = slots_from p.heads p.bytes; size = p.size }

-- ---- and back

unfoldable pub head_of : Slot → Head
head_of s = s.head

unfoldable pub flat : List Slot → List ℕ
flat [] = []
flat (s ∷ ss) = s.buffer ++ flat ss

-- of the kind and in the mode that the pool was made with
unfoldable pub pool_of : PoolKind → Mode → Slots → Pool
pool_of kind mode p = record { kind = kind; mode = mode; size = p.size; heads = map head_of p.slots; bytes = flat p.slots }

-- ---- 01's answers as kind, payload and length: "other answers carry 223 zeros and length 0"

unfoldable pub zeros : List ℕ
zeros = replicate max_payload 0

-- the names of document 02, No. 2
unfoldable pub why_kind : Why → Kind
why_kind unlisted = NotListed
why_kind bad_frame = Rejected
why_kind no_slot = PoolFull
why_kind lost = Lost

-- the refusals of a receive call are 1, and 8 where it is handed an identifier
unfoldable pub reply_kind : Reply → Kind
reply_kind (refuses n carried) = pick (eqb n 8) TooWide ImpossiblePool
reply_kind (gives (ignored why)) = why_kind why
reply_kind (gives consumed) = FragmentConsumed
reply_kind (gives (complete bytes n)) = MessageComplete

unfoldable pub reply_payload : Reply → List ℕ
reply_payload (refuses n carried) = zeros
reply_payload (gives (ignored why)) = zeros
reply_payload (gives consumed) = zeros
reply_payload (gives (complete bytes n)) = bytes

unfoldable pub reply_length : Reply → ℕ
reply_length (refuses n carried) = 0
reply_length (gives (ignored why)) = 0
reply_length (gives consumed) = 0
reply_length (gives (complete bytes n)) = n

unfoldable pub shown : PoolKind → Mode → Outcome → Received
shown kind mode o = record { kind = reply_kind o.reply; payload = reply_payload o.reply; length = reply_length o.reply; pool = pool_of kind mode o.pool; counters = o.counters }

-- 01's number and values of each kind of answer, with the payload and length beside it
unfoldable pub reply_by : Kind → List ℕ → ℕ → Reply
reply_by ImpossiblePool payload length = refuses 1 []
reply_by TooWide payload length = refuses 8 []
reply_by NotListed payload length = gives (ignored unlisted)
reply_by Rejected payload length = gives (ignored bad_frame)
reply_by PoolFull payload length = gives (ignored no_slot)
reply_by Lost payload length = gives (ignored lost)
reply_by FragmentConsumed payload length = gives consumed
reply_by MessageComplete payload length = gives (complete payload length)

unfoldable pub reply_of : Received → Reply
reply_of r = reply_by r.kind r.payload r.length

-- ---- the call

-- one call of a frame as the steps hear it; the pool keeps its kind and mode
unfoldable pub receive_of : Rules → List ℕ → Heard → Pool → Counters → Received
receive_of R pgns f p k = shown p.kind p.mode (step R (slots_of p) k (record { pgns = pgns; heard = f }))
