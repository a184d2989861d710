-- No public call gives number 3: each by the definitions that its promise cites. Assumes nothing.
use Prim.Native.Nat.{ℕ}
use mathlib.Core.List.{List}
use mathlib.Core.Path.{◌≡◌, subst, sym, ap}
use native.Mathlib.Omega.{arith}
use lib.ListN.{length, get_or}
use Rattle.base.specs.Answer.{Answer, code_of}
use Rattle.builder.specs.Next.{Step}
use Rattle.builder.specs.Frames.{Turn}
use Rattle.session.specs.declared.Kind.{Kind}
use Rattle.session.specs.declared.Kind.TheVariants.{ImpossiblePool, TooWide, NotListed, Rejected, PoolFull, Lost, FragmentConsumed, MessageComplete}
use Rattle.assembler.specs.Promises.{rules_of}
use Rattle.assembler.specs.View.{reply_by}
use Rattle.numbers.specs.Frames.{next_code, builder_from}
use Rattle.ffi.specs.Ids.{builder_of_parts, set_of, both_of}
use Rattle.ffi.specs.Frames.{next_with, turn_with}
use Rattle.ffi.specs.Batches.{batch_in}
use Rattle.no_three.specs.NoThree.{NotThree, NoneIsThree, NoThree}
use Rattle.no_three.proofs.Sending.{Other, OtherStep, wide_other, error_other, read_other, read_case_other, heard_case_other, build_other, next_other, built_case_other, next_case_other}
use Rattle.no_three.proofs.Receiving.{size_other, made_other, kind_other, batch_other}
use Rattle.no_three.proofs.Bench.{counted_other, split_other, delivered_other, check_other, split_case_other, reassembled_case_other, checked_case_other}

-- what is equal to another number is another
by : {m n : ℕ} → m ≡ n → NotThree n → NotThree m
by e h = subst NotThree (sym e) h

-- an answer that is equal to one by another number
by_answer : {A : Type 0} {a b : Answer A} → a ≡ b → Other b → Other a
by_answer e h = by (ap code_of e) h

-- a step of a builder
by_step : {s t : Step} → s ≡ t → OtherStep t → OtherStep s
by_step e h = by (ap (λ (s : Step). next_code s.kind) e) h

-- an answer of the receive call, by its kind
reply_other : (kind : Kind) (payload : List ℕ) (n : ℕ) → Other (reply_by kind payload n)
unfolding reply_by
reply_other ImpossiblePool payload n = omega arith
reply_other TooWide payload n = omega arith
reply_other NotListed payload n = omega arith
reply_other Rejected payload n = omega arith
reply_other PoolFull payload n = omega arith
reply_other Lost payload n = omega arith
reply_other FragmentConsumed payload n = omega arith
reply_other MessageComplete payload n = omega arith

-- a row of kinds that is equal to one without it, up to an equal count
by_row : {m n : ℕ} {row row' : List ℕ} → m ≡ n → row ≡ row' → NoneIsThree n row' → NoneIsThree m row
by_row e f h i low = by (ap (λ (l : List ℕ). get_or l i 0) f) (h i (omega (arith, e, low)))

pub no_three : NoThree
unfolding next_with turn_with batch_in
no_three =
    record {
      can_id_read = λ id r h. read_case_other r;
      can_id_builder_build = λ b r h. by_answer h (build_other b);
      can_id_read_error_number = λ e r h. by h (wide_other e);
      can_id_build_error_number = λ e r h. by h (error_other e);
      arrive_heard = λ a r h. heard_case_other r;
      fast_packet_builder_next_frame = λ b index sent payload r h. by_step h (next_other b index sent payload);
      frame_iterator_next = λ t payload r h. by_step (ap (λ (x : Turn). x.answer) h) (next_other t.builder t.frame_index t.bytes_sent payload);
      pool_new = λ wanted r h. by_answer h.answer (size_other wanted);
      pool_with_mode = λ mode wanted r h. by_answer h.answer (size_other wanted);
      pool_with_kind = λ kind mode wanted r h. by_answer h.answer (size_other wanted);
      decide = λ mode bad listed found h heard r e. kind_other r.kind;
      receive = λ pgns entry a p k r h. reply_other r.kind _ _;
      process_frame = λ pgns entry a p before after r h. reply_other r.kind _ _;
      process_frames = λ list times pgns sources bytes kinds lengths arena p k r kinds' lengths' arena' h. (
        by_answer h.leaves_these.answer (batch_other (rules_of p) list _ p k kinds lengths arena).0,
        by_row h.leaves_these.taken h.leaves_these.told (batch_other (rules_of p) list _ p k kinds lengths arena).1,
      );
      fast_packet_frames = λ id sequence payload row row' r h. by_answer h.answer (counted_other _ (split_other id sequence payload (length row)));
      fast_packet_rows = λ id sequence payload ids bytes lens ids' bytes' lens' r h. by_answer h.answer (counted_other _ (split_other id sequence payload _));
      reassemble = λ frames source pgn list arena list' arena' r h. by_answer h.answer (delivered_other list arena frames source pgn);
      reassemble_row = λ frames source pgn list arena list' arena' r h. by_answer h.answer (delivered_other list arena frames source pgn);
      check_tx_row = λ frames source expected hours r h. by_answer h (check_other frames source expected hours);
      check_tx = λ frames source expected hours r h. by_answer h (check_other frames source expected hours);
      hf_can_id_read = λ id code before after h. by h.told (read_other id);
      hf_can_id_build = λ priority pgn source destination code value h. by h.told (build_other (builder_of_parts priority pgn source destination));
      hf_can_id_build_with = λ pgn source priority destination code value h. by h.told (build_other (set_of pgn source priority destination));
      hf_can_id_build_to = λ pgn source priority destination code value h. by h.told (build_other (both_of pgn source priority destination));
      hf_raw_next_frame = λ builder payload index sent code after h. by h.asked.told (next_other (builder_from builder) index sent payload);
      hf_raw_frame_iterator_next = λ builder payload place code after h. by h.asked.told (next_other _ _ _ payload);
      hf_raw_pool_new = λ wanted code before after h. by h.told (size_other wanted);
      hf_raw_pool_with_mode = λ wanted asked code before after h. by h.told (size_other _);
      hf_raw_pool_with_kind = λ wanted asked kind code before after h. by h.told (size_other _);
      hf_raw_pool_default = λ code before after h. by h.told (omega arith);
      hf_raw_process_frame = λ size mode kind code pgns a before after h. by h.told (kind_other _);
      hf_raw_receive = λ size mode kind code pgns a before after h. by h.told (kind_other _);
      hf_raw_process_frame_with_length = λ size mode kind code pgns x before after h. by h.told (kind_other _);
      hf_raw_process_frame_by_id = λ size mode kind code pgns a before after h. by h.told (kind_other _);
      hf_raw_receive_by_id = λ size mode kind code pgns a before after h. by h.told (kind_other _);
      hf_raw_process_frame_by_id_with_length = λ size mode kind code pgns x before after h. by h.told (kind_other _);
      hf_raw_process_frames = λ size mode kind code pgns rows before after h.
          (by h.told (batch_other _ pgns rows _ _ _ _ _).0, by_row (ap (λ (l : List ℕ). get_or l 0 0) h.taken) h.answered (batch_other _ pgns rows _ _ _ _ _).1);
      hf_reassemble = λ ids bytes lens list arena list' arena' values source pgn code h. by h.answer.told (delivered_other list arena _ source pgn);
      hf_fast_packet_frames = λ id sequence code frames payload ids bytes lens ids' bytes' lens' h. by h.told (counted_other _ (split_other id sequence payload _));
      hf_check_tx = λ ids bytes lens values source expected hours code h. by h.told (check_other _ source expected hours);
      told_read = λ r code before after h. by h.told (read_case_other r);
      answered = λ b code value h. by h.told (built_case_other b);
      tell_next = λ next code bytes numbers h. by h.told (next_case_other next.answer);
      told_reassembled = λ r code values h. by h.told (reassembled_case_other r);
      split_number = λ s code h. by h (split_case_other s);
      told_checked = λ c code values h. by h.told (checked_case_other c);
      pool_asked = λ wanted mode kind r h. by_answer h.answer (size_other _);
      leave = λ r before after code h. by h.told (kind_other r.kind);
      leave_made = λ made before after code h. by h.told (made_other made);
      kind_number = λ kind n h. by h (kind_other kind);
    }
