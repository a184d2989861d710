-- `batching::is_unheard` meets its contract: by its kind, or because it is impossible, which a walk that looks for any frame sees. Assumes nothing.
use Rattle.std.proofs.Common.{◌≡◌, Bool, ◌||◌}
use Rattle.session.specs.declared.Heard.{Heard}
use Rattle.session.specs.Rules.{rules_by}
use Rattle.session.specs.inner.Search.{found_in}
use Rattle.session.proofs.SearchLaws.{same_limit}
use denote.Enum.Bare.{sameb}
use Rattle.session.specs.contracts.PoolKind.{the_type}
use Rattle.session.specs.declared.PoolKind.{PoolKind}
use Rattle.assembler.specs.declared.Pool.{Pool}
use Rattle.assembler.specs.Slots.{impossible}
use Rattle.assembler.specs.View.{slots_of}
use Rattle.assembler.specs.Promises.{rules_of, same_kind}
use Rattle.assembler.proofs.Crowded.{looked_at}
use Rattle.session.specs.declared.PoolKind.TheVariants.{Original, Addressed}
use mathlib.Core.Bool.{not}
use Rattle.batch.proofs.batching.is_unheard.Goals as goal

seen : {o t s : Bool} (p : Pool) (f : Heard) → o ≡ t → s ≡ impossible (rules_of p) (slots_of p) → (o || s) ≡ (t || (found_in (rules_by p.kind p.mode) f p.size p.heads).bad)
unfolding rules_of
seen p f eo es = rw (eo, es, looked_at (rules_by p.kind p.mode) f p (same_limit p.kind p.mode))

-- the derived test of kinds is the definition's
differs : {t : Bool} (kind : PoolKind) → t ≡ not (sameb the_type kind Original) → t ≡ not (same_kind Original kind)
unfolding same_kind
differs Original e = e
differs Addressed e = e

pub returns : goal.returns
returns c = seen _ _ (differs c.args.pool.now.kind c.ne.ensures) c.is_impossible.ensures
