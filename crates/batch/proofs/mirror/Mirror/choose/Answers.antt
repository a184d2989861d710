-- `Mirror::choose` meets its contract: where each part of the walk stopped is the law of that case. Assumes nothing.
use Rattle.batch.proofs.WalkLaws.{chosen_key, chosen_none, chosen_later_key, chosen_free, chosen_own, own_low}
use Rattle.batch.proofs.mirror.Mirror.choose.Goals as goal

pub returns-in-Keyed : goal.returns-in-Keyed
returns-in-Keyed c = let stop = c.in-Keyed.ensures in
    (chosen_key _ _ _ _ _ _ _ _ c.args.self.now.small _ stop, stop.0)

pub returns-in-Nowhere : goal.returns-in-Nowhere
returns-in-Nowhere c = (chosen_none _ _ _ _ _ _ _ _ c.args.self.now.small (c.in-Nowhere.ensures), tt)

pub returns-in-Keyed-own_stop : goal.returns-in-Keyed-own_stop
returns-in-Keyed-own_stop c = let stop = c.in-Keyed-own_stop.ensures in
    (chosen_later_key _ _ _ _ _ _ _ _ c.args.self.now.small _ (c.in-Other.ensures) _ stop, stop.0)

pub returns-in-Nowhere-own_stop : goal.returns-in-Nowhere-own_stop
returns-in-Nowhere-own_stop c = let free = c.in-Other.ensures in
    (chosen_free _ _ _ _ _ _ _ _ c.args.self.now.small _ free (c.in-Nowhere-own_stop.ensures), free.0)

pub returns : goal.returns
returns c = let own = c.in-Other-own_stop.ensures in
    let next = c.next_key.ensures in
    rw c.unwrap_or.ensures (chosen_own _ _ _ _ _ _ _ _ c.args.self.now.small _ (c.in-Other.ensures) _ own _ next.0 next.1, own_low _ _ _ own.0 next.1)
