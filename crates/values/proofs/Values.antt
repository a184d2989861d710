-- The cases marked P hold: each is computed from the definitions. Assumes nothing.
use mathlib.Core.Path.{refl}
use Rattle.base.specs.Pick.{pick}
use Rattle.base.specs.Lists.{next_place, here, or_else, first_at, any, fill}
use Rattle.fast_packet.specs.FastPacket.{listed_in}
use Rattle.can_id.specs.Build.{build_of}
use Rattle.builder.specs.Next.{next_of, framed_step}
use Rattle.session.specs.Rules.{silence, silent_by, three_equal, keys_equal, part_allowed, rules_by}
use Rattle.session.specs.Frames.{sequence_of, index_of, size_of, first_bytes, next_bytes, bad_size, key_of, is_empty, cut_first, bad_first}
use Rattle.session.specs.Heads.{fresh_head, head_key, impossible_head, has_key, is_silent, is_free, is_free_of_source, has_live_key, is_expired, in_turn, cut_next, is_next, opened_head, reset_head, wanted, copied_head, all_there}
use Rattle.session.specs.Counting.{fresh_counters, most, raise, raised, expired_mark}
use Rattle.assembler.specs.Slots.{fresh_slot, impossible, chosen, live, opened_slot, reset_slot, copied_slot}
use Rattle.assembler.specs.Step.{opens_at, continues_at, event_of, slots_after, mark_of, padded, message, said_of, outcome, step_if, step}
use Rattle.assembler.specs.Making.{fresh_pool_in, fresh_pool}
use Rattle.assembler.specs.View.{slots_from, head_of, flat, slots_of, pool_of, zeros, why_kind, reply_kind, reply_payload, reply_length, shown, receive_of}
use Rattle.assembler.specs.Promises.{rules_of}
use Rattle.values.specs.Values.{Values}

pub values : Values
unfolding pick next_place here or_else first_at any fill listed_in build_of next_of framed_step silence silent_by three_equal keys_equal part_allowed rules_by rules_of sequence_of index_of size_of first_bytes next_bytes bad_size key_of is_empty cut_first bad_first fresh_head head_key impossible_head has_key is_silent is_free is_free_of_source has_live_key is_expired in_turn cut_next is_next opened_head reset_head wanted copied_head all_there fresh_counters most raise raised expired_mark fresh_slot impossible chosen live opened_slot reset_slot copied_slot opens_at continues_at event_of slots_after mark_of padded message said_of outcome step_if step slots_from head_of flat slots_of pool_of zeros why_kind reply_kind reply_payload reply_length shown receive_of fresh_pool_in fresh_pool
values =
    record {
      p1 = refl;
      p2 = refl;
      p3 = refl;
      p4 = refl;
      p5 = refl;
      p6 = refl;
      p7 = refl;
      p8 = refl;
      p9_nothing = refl;
      p9_too_much = refl;
      p10_first = refl;
      p10_then = refl;
      p10_length = refl;
      p10_bytes = refl;
      p11_taken = refl;
      p11_stray = refl;
      p11_held = refl;
      p12_taken = refl;
      p12_held = refl;
      p12_time = refl;
      p12_counted = refl;
      p12_set_back = refl;
      p12_set_back_held = refl;
      p12_set_back_time = refl;
    }
