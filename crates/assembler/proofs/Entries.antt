-- What comes by an entry: a frame, or refusal 8 or 1; and a frame that comes by the entry of a pool's own kind has a part that its PGN allows. Assumes nothing.
use Prim.Native.Nat.{ℕ, zero, suc, ◌+◌, ◌<◌, min}
use mathlib.Core.Path.{◌≡◌, refl, sym, ap, ◌∙◌}
use mathlib.Core.Bool.{Bool, true, false, not, ◌&&◌, true≢false}
use mathlib.Core.List.{List, [], ◌∷◌}
use Rattle.std.proofs.Common.{Some, None}
use lib.ListN.{length, get_or, take}
use lib.Dec.{eqb, ltb, leb}
use native.Mathlib.Omega.{arith}
use borrow.Author.Tests.{not-true, not-false, le-leb}
use Rattle.base.specs.Answer.{Answer, gives, refuses}
use Rattle.base.specs.Pick.{pick}
use Rattle.base.specs.Lists.{fill}
use Rattle.base.proofs.Fills.{length_fill}
use Rattle.fast_packet.specs.FastPacket.{filled_from}
use Rattle.can_id.specs.Layout.{pgn_pf, reserved_of, data_page_of, pf_of, ps_of, pgn_from, pgn_of, destination_of}
use Rattle.can_id.specs.Read.{parts_of, read_of}
use Rattle.session.specs.declared.Counters.{Counters}
use Rattle.session.specs.declared.Heard.{Heard}
use Rattle.session.specs.declared.Kind.{Kind}
use Rattle.session.specs.declared.Kind.TheVariants.{ImpossiblePool}
use denote.Enum.Bare.{sameb}
use Rattle.session.specs.contracts.PoolKind.{the_type}
use Rattle.session.specs.declared.PoolKind.{PoolKind}
use Rattle.session.specs.declared.PoolKind.TheVariants.{Original, Addressed}
use Rattle.session.specs.Rules.{part_allowed, rules_by}
use Rattle.assembler.specs.Call.{EightBytes, CallOk}
use Rattle.assembler.specs.declared.ArrivalById.{ArrivalById}
use Rattle.assembler.specs.Arrivals.{ArrivalByIdWithLength}
use Rattle.assembler.specs.declared.Pool.{Pool}
use Rattle.assembler.specs.declared.Received.{Received}
use Rattle.assembler.specs.inner.Forms.{refused_as}
use Rattle.assembler.specs.Arrivals.{cut_to, part_of, heard_from, heard_by_id, all_cut_to, heard_by_id_with_length}
use Rattle.assembler.specs.View.{zeros, reply_kind, reply_payload, reply_length, shown, reply_by, reply_of, receive_of}
use Rattle.assembler.specs.Promises.{rules_of, same_kind, entered, at_original, at_addressed, result_of, result_on, answer_to}
use Rattle.assembler.specs.Possible.{FrameOk, hears, refused}
use Rattle.assembler.proofs.Replies.{replied}

-- ---- the refusals at an entry are 8 and 1

pub data Known : Answer Heard → Type 0 where
  frame : (f : Heard) → Known (gives f)
  wide : Known (refuses 8 [])
  other : Known (refuses 1 [])

pub known_entered : (entry : PoolKind) (p : Pool) {a : Answer Heard} → Known a → Known (entered entry p a)
unfolding entered pick
known_entered entry p (frame f) = go (same_kind entry p.kind)
  where
    go : (b : Bool) → Known (pick b (gives f) (refuses 1 []))
    go true = frame f
    go false = other
known_entered entry p wide = wide
known_entered entry p other = other

pub known_by_id : (a : ArrivalById) → Known (heard_by_id a)
unfolding heard_by_id heard_from read_of pick
known_by_id a = go (leb 0x2000_0000 a.id.0)
  where
    go : (b : Bool) → Known (heard_from a (pick b (refuses 8 []) (gives (parts_of a.id.0))))
    go true = wide
    go false = frame _

-- ---- the answer to each

module _ (pgns : List ℕ) (p : Pool) (k : Counters) where
  pub answer_steps : (f : Heard) → answer_to pgns (gives f) p k ≡ receive_of (rules_of p) pgns f p k
  unfolding answer_to result_on result_of receive_of shown
  answer_steps f = refl

  pub answer_refused : (n : ℕ) (carried : List ℕ) → answer_to pgns (refuses n carried) p k ≡ record { kind = reply_kind (refuses n carried); payload = zeros; length = 0; pool = p; counters = k }
  unfolding answer_to result_on reply_payload reply_length
  answer_refused n carried = refl

  -- read back by 01's numbers it is the result's reply
  pub answer_back : {a : Answer Heard} → Known a → reply_of (answer_to pgns a p k) ≡ (result_on pgns a p k).reply
  unfolding result_on result_of
  answer_back (frame f) = ap reply_of (answer_steps f) ∙ replied (rules_of p) pgns f p k
  answer_back wide = unfold answer_to reply_of result_on reply_by reply_kind pick in refl
  answer_back other = unfold answer_to reply_of result_on reply_by reply_kind pick in refl

-- ---- a frame cut short is a frame of eight bytes too

filled_byte : (len : ℕ) (bytes : List ℕ) → length bytes ≡ 8 → get_or bytes 0 0 < 256 → get_or (filled_from len bytes) 0 0 < 256
unfolding filled_from fill
filled_byte len [] e h = absurd (omega arith)
filled_byte zero (b ∷ bytes) e h = omega arith
filled_byte (suc len) (b ∷ bytes) e h = let s : min (suc len) 8 ≡ suc (min len 7) = omega arith in rw s h

pub filled_ok : (len : ℕ) (bytes : List ℕ) → EightBytes bytes → EightBytes (filled_from len bytes)
filled_ok len bytes ok =
    record {
      eight = unfold filled_from in length_fill 8 (take (min len 8) bytes);
      byte = filled_byte len bytes ok.eight ok.byte;
    }

-- ---- a frame that comes by the entry of the pool's own kind has a part that its PGN allows

own_kind : (entry kind : PoolKind) → same_kind entry kind ≡ true → kind ≡ entry
unfolding same_kind
own_kind Original Original e = refl
own_kind Original Addressed e = absurd (true≢false (sym e))
own_kind Addressed Original e = absurd (true≢false (sym e))
own_kind Addressed Addressed e = refl

module _ (entry : PoolKind) (p : Pool) (pgns : List ℕ) where
  -- a frame that is allowed in a pool of the entry's kind
  ok_entered : (f : Heard) → CallOk (record { pgns = pgns; heard = f }) → part_allowed entry f.pgn f.part ≡ true → FrameOk (rules_of p) pgns (entered entry p (gives f))
  unfolding entered pick
  ok_entered f ok fits = go (same_kind entry p.kind) refl
    where
      go : (b : Bool) → same_kind entry p.kind ≡ b → FrameOk (rules_of p) pgns (pick b (gives f) (refuses 1 []))
      go true e = hears {f = f} ok (unfold rules_of rules_by in rw (own_kind entry p.kind e) fits)
      go false e = refused

pub ok_original : (p : Pool) (pgns : List ℕ) (f : Heard) → CallOk (record { pgns = pgns; heard = f }) → f.part ≡ 0 → FrameOk (rules_of p) pgns (at_original p f)
ok_original p pgns f ok none = ok_entered Original p pgns f ok (unfold part_allowed in rw none)

-- the PF of an identifier's PGN is the identifier's, and the part is the destination's
pf_of_lem : (id : ℕ) → pgn_pf (pgn_of id) ≡ pf_of id
unfolding pgn_of
pf_of_lem id = go (pick (ltb (pf_of id) 240) 0 (ps_of id)) (low (ltb (pf_of id) 240))
  where
    low : (b : Bool) → pick b 0 (ps_of id) < 256
    low true = unfold pick in omega arith
    low false = unfold pick in omega arith

    go : (n : ℕ) → n < 256 → pgn_pf (pgn_from (reserved_of id) (data_page_of id) (pf_of id) n) ≡ pf_of id
    go n few = omega (arith, few)

part_fits_lem : (id : ℕ) → part_allowed Addressed (pgn_of id) (part_of (destination_of id)) ≡ true
unfolding part_allowed
part_fits_lem id = rw (pf_of_lem id) (unfold destination_of in go (ltb (pf_of id) 240))
  where
    go : (b : Bool) → pick b (leb 1 (part_of (pick b (Some (ps_of id)) None)) && leb (part_of (pick b (Some (ps_of id)) None)) 256) (eqb (part_of (pick b (Some (ps_of id)) None)) 0) ≡ true
    go true = unfold pick part_of in rw (le-leb 1 (ps_of id + 1) (omega arith), le-leb (ps_of id + 1) 256 (omega arith))
    go false = unfold pick part_of in refl

pub ok_by_id : (p : Pool) (pgns : List ℕ) (a : ArrivalById) → EightBytes a.«data» → FrameOk (rules_of p) pgns (at_addressed p (heard_by_id a))
unfolding heard_by_id read_of heard_from pick
ok_by_id p pgns a ok = go (leb 0x2000_0000 a.id.0)
  where
    go : (b : Bool) → FrameOk (rules_of p) pgns (at_addressed p (heard_from a (pick b (refuses 8 []) (gives (parts_of a.id.0)))))
    go true = unfold entered in refused
    go false = ok_entered Addressed p pgns _ ok (part_fits_lem a.id.0)

pub ok_by_id_with_length : (p : Pool) (pgns : List ℕ) (x : ArrivalByIdWithLength) → EightBytes x.arrival.«data» → FrameOk (rules_of p) pgns (at_addressed p (heard_by_id_with_length x))
unfolding heard_by_id_with_length heard_by_id read_of heard_from all_cut_to cut_to pick
ok_by_id_with_length p pgns x ok = go (leb 0x2000_0000 x.arrival.id.0)
  where
    go : (b : Bool) → FrameOk (rules_of p) pgns (at_addressed p (all_cut_to x.length (heard_from x.arrival (pick b (refuses 8 []) (gives (parts_of x.arrival.id.0))))))
    go true = unfold entered in refused
    go false = ok_entered Addressed p pgns _ (filled_ok x.length x.arrival.«data» ok) (part_fits_lem x.arrival.id.0)

-- ---- a refusal, as the code tells it

pub told_refused : {kind told : Kind} {payload : List ℕ} {length : ℕ} {p : Pool} {k : Counters} → (told ≡ kind) × (payload ≡ zeros) × (length ≡ 0)
    → ◌≡◌ {A = Received} (record { kind = told; payload = payload; length = length; pool = p; counters = k }) (refused_as kind p k)
told_refused e = rw (e.0, e.1, e.2)

-- ---- the entry of a kind, as the code tests it

-- the derived test of kinds is the definition's
pub equal_kinds : (a b : PoolKind) → sameb the_type a b ≡ same_kind a b
unfolding same_kind
equal_kinds Original Original = refl
equal_kinds Original Addressed = refl
equal_kinds Addressed Original = refl
equal_kinds Addressed Addressed = refl

module _ (pgns : List ℕ) (entry : PoolKind) (p : Pool) (k : Counters) (f : Heard) (t : Bool) (et : t ≡ not (sameb the_type entry p.kind)) (r : Received) where
  kinds_differ : t ≡ true → same_kind entry p.kind ≡ false
  kinds_differ y = sym (equal_kinds entry p.kind) ∙ not-true _ (sym et ∙ y)

  kinds_agree : t ≡ false → same_kind entry p.kind ≡ true
  kinds_agree y = sym (equal_kinds entry p.kind) ∙ not-false _ (sym et ∙ y)

  pub at_other : t ≡ true → r ≡ refused_as ImpossiblePool p k → r ≡ answer_to pgns (entered entry p (gives f)) p k
  unfolding entered pick
  at_other y e = e ∙ rw (kinds_differ y) (sym (unfold reply_kind pick in answer_refused pgns p k 1 []))

  pub at_own : t ≡ false → r ≡ receive_of (rules_of p) pgns f p k → r ≡ answer_to pgns (entered entry p (gives f)) p k
  unfolding entered pick
  at_own y e = e ∙ rw (kinds_agree y) (sym (answer_steps pgns p k f))
