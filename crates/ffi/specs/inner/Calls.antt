-- What the calls of a frame leave, at any form of the call. Only private contracts cite it: each entry's own says it of its form.
use Rattle.std.specs.Prelude.{List, ℕ}
use Rattle.base.specs.Answer.{Answer}
use Rattle.session.specs.declared.Heard.{Heard}
use Rattle.session.specs.declared.PoolKind.{PoolKind}
use Rattle.assembler.specs.Promises.{entered}
use Rattle.numbers.specs.Pool.{CallMemory, CallLeft}
use Rattle.ffi.specs.Calls.{received_in, pool_in}

-- by the entry of this kind, where this was heard
abbrev pub HeardLeft : ℕ → ℕ → ℕ → List ℕ → PoolKind → Answer Heard → CallMemory → ℕ → CallMemory → Type 0
HeardLeft size mode kind pgns entry a before code after =
    CallLeft (received_in (pool_in size mode kind before) pgns (entered entry (pool_in size mode kind before) a) before) before code after
