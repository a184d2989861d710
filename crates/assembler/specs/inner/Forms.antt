-- The answer of the call by value, and of the call with lent counters, from one to the other; and that of a call which is refused at its entry.
use Rattle.session.specs.declared.Counters.{Counters}
use Rattle.session.specs.declared.Kind.{Kind}
use Rattle.assembler.specs.declared.Pool.{Pool}
use Rattle.assembler.specs.declared.Processed.{Processed}
use Rattle.assembler.specs.declared.Received.{Received}
use Rattle.assembler.specs.View.{zeros}

-- an answer without the counters, where the caller lends them
abbrev pub processed_of : Received → Processed
processed_of r = record { kind = r.kind; payload = r.payload; length = r.length; pool = r.pool }

abbrev pub received_of : Processed → Counters → Received
received_of a k = record { kind = a.kind; payload = a.payload; length = a.length; pool = a.pool; counters = k }

-- pool and counters as they were
abbrev pub refused_as : Kind → Pool → Counters → Received
refused_as kind p k = record { kind = kind; payload = zeros; length = 0; pool = p; counters = k }
