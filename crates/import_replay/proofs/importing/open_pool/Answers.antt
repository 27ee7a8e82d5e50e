use Rattle.std.proofs.Common.{refl, arith}
use Rattle.import_replay.proofs.MountedPools.{group-within, import-within}
use Rattle.import_replay.proofs.importing.open_pool.Goals as goal

pub invariant_of-result-clause-tree_placed : goal.invariant_of-result-clause-tree_placed
invariant_of-result-clause-tree_placed g c = c.requires.next.placed

pub invariant_of-result-clause-log_placed : goal.invariant_of-result-clause-log_placed
invariant_of-result-clause-log_placed g c = ∣ c.requires.next.log_placed ∣₁

pub invariant_of-result-clause-group_fits : goal.invariant_of-result-clause-group_fits
invariant_of-result-clause-group_fits g c =
    let within = group-within c.args.found.now.uberblock.group.0 c.args.found.now.uberblock.import_number c.requires.within in
    (omega arith, omega (arith, within))

pub invariant_of-result-clause-import_fits : goal.invariant_of-result-clause-import_fits
invariant_of-result-clause-import_fits g c = import-within c.args.found.now.uberblock.group.0 c.args.found.now.uberblock.import_number c.requires.within

pub returns-clause-mounted : goal.returns-clause-mounted
returns-clause-mounted g c = record { geometry = refl; guid = refl; group = refl; import_number = refl; within = c.requires.within; parts = refl; limit = refl }
