use Rattle.std.proofs.Common.{◌∙◌, ap}
use Rattle.space.specs.FreeSets.{FreeSpace}
use Rattle.pool_tables.specs.Shows.{pool_shown}
use Rattle.pool_tables.proofs.syncs.SameSyncs.{none_running}
use Rattle.pool_tables.proofs.pool.PoolTables.give_freed.Goals as goal

pub invariant_of-self : goal.invariant_of-self
invariant_of-self c =
    let pool = c.args.self.now in
    record {
      sized = pool.sized;
      free_counted = record {
        sized = ap (λ (s : FreeSpace). s.blocks) c.give_all.ensures ∙ pool.free_counted.sized;
        taken = ap (λ (s : FreeSpace). s.taken) c.give_all.ensures ∙ pool.free_counted.taken;
        reserved = ap (λ (s : FreeSpace). s.reserved) c.give_all.ensures ∙ pool.free_counted.reserved;
      };
      import_fits = pool.import_fits;
      next_ordinal_fits = pool.next_ordinal_fits;
      accounted = pool.accounted;
      running = λ x e. absurd (none_running pool.sync x c.requires.none e);
      sync_lengths = λ x e. absurd (none_running pool.sync x c.requires.none e);
      sync_header = λ x e. absurd (none_running pool.sync x c.requires.none e);
      log_placed = pool.log_placed;
      sync_line = pool.sync_line;
      tree_placed = pool.tree_placed;
      unsynced_kept = pool.unsynced_kept;
      logged = pool.logged;
    }

pub returns-clause-shown : goal.returns-clause-shown
returns-clause-shown c =
    let s = pool_shown c.args.self.now in
    λ k. record s { free = ap (λ (f : FreeSpace). f.free) c.give_all.ensures k }
