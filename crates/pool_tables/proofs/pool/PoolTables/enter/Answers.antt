use Rattle.std.proofs.Common.{◌≡◌, ◌∙◌, ◌==◌, ℕ, Bool, not, List, ap, refl, sym, subst, arith}
use Rattle.std.specs.Prelude.{◌≤◌}
use Rattle.std.proofs.lemmas.Bool.{false≢true}
use Rattle.std.proofs.lemmas.List.Elements.{All-filter, All-push}
use Rattle.base.specs.formats.Geometry.{AreBlocksOf, block_count}
use Rattle.base.specs.steps.Exact.{log_addresses}
use Rattle.base.specs.steps.Groups.{Admission, Line}
use Rattle.base.specs.steps.Logs.{Log}
use Rattle.intent_log.specs.Kept.{header_fields, log_shown}
use Rattle.intent_log.specs.RunLogs.{IsLogOf, KeepsHeader}
use Rattle.intent_log.proofs.RunLogs.{entered_log, header_entered}
use Rattle.unsynced_extents.specs.Unsynced.{laid_all, name_over}
use Rattle.extents.specs.Patches.{Patches}
use Rattle.extents.specs.Synced.{HaveLengthsAfter}
use Rattle.groups.specs.CountedLines.{CountedLine, after_release}
use Rattle.groups.specs.Laws.{AreHoldsExact}
use Rattle.throttle.proofs.OpenCharges.{stay_charged}
use Rattle.throttle.specs.Blocks.{AreSumsOn}
use Rattle.records.specs.declared.record.Record.{Record}
use Rattle.pool_tables.specs.Entries.{shown_after_entry}
use Rattle.labels.specs.declared.stage.Stage.TheVariants.{Even}
use Rattle.sync.specs.GroupLabels.{stages_for}
use Rattle.pool_tables.specs.Shows.{pool_shown, synced_of}
use Rattle.pool_tables.proofs.HeldGroups.{counted_release, exact_end, has_hold, line-after_release, may_release}
use Rattle.pool_tables.proofs.Opens.{HasAllowedPlan, IsSmall}
use Rattle.pool_tables.proofs.PendingChanges.{changes_entered, entered_behind, kept_oldest, names_entered, same_plan}
use Rattle.pool_tables.proofs.pool.PoolTables.enter.Goals as goal

pub unreachable-requires : goal.unreachable-requires
unreachable-requires c =
    let pool = c.args.self.now in
    let may = c.requires.may in
    let held = has_hold pool.transactions.transactions pool.groups c.args.tx.0 may.admission c.args.group.0 pool.accounted.holds_exact c.end.ensures.apart may.found may.group_is in
    false≢true (sym (may_release pool.groups c.args.group.0 held) ∙ c.in_default.ensures.refused.0 refl)

pub invariant_of-self : goal.invariant_of-self
invariant_of-self c =
    let pool = c.args.self.now in
    let may = c.requires.may in
    let group = c.args.group.0 in
    let ops : List _ = c.args.ops in
    let hold = has_hold pool.transactions.transactions pool.groups c.args.tx.0 may.admission group pool.accounted.holds_exact c.end.ensures.apart may.found may.group_is in
    let behind = entered_behind pool group hold in
    let line : c.release.new.self.line ≡ pool.groups.line = ap (λ (l : CountedLine). l.line) c.in-Ok.ensures.released ∙ line-after_release pool.groups pool.accounted.counted group in
    let p : Admission → Bool = λ (a : Admission). not (a.tx == c.args.tx.0) in
    let log = c.enter.ensures.shown in
    record {
      sized = pool.sized;
      free_counted = pool.free_counted;
      import_fits = pool.import_fits;
      next_ordinal_fits = omega (arith, c.requires.named);
      accounted = record {
        counted = rw c.in-Ok.ensures.released (counted_release pool.groups pool.accounted.counted group);
        holds_exact = subst (AreHoldsExact c.end.new.self.transactions) (sym c.in-Ok.ensures.released)
            (subst (λ (ts : List Admission). AreHoldsExact ts (after_release group pool.groups)) (sym c.end.ensures.others)
            (exact_end pool.transactions.transactions pool.groups c.args.tx.0 may.admission group pool.accounted.holds_exact c.end.ensures.apart may.found may.group_is));
        charged = subst (λ l. AreSumsOn l pool.dirty) (sym line) pool.accounted.charged;
        open_charged = rw c.end.ensures.others ((stay_charged pool.transactions.transactions pool.dirty pool.accounted.open_charged).ended c.args.tx.0);
        plans_allowed = rw c.end.ensures.others (All-filter p HasAllowedPlan pool.transactions.transactions pool.accounted.plans_allowed);
        plans_small = rw c.end.ensures.others (All-filter p IsSmall pool.transactions.transactions pool.accounted.plans_small);
      };
      running = λ r is. let was = pool.running r is in record {
        geometry = was.geometry;
        stages = was.stages ∙ ap (stages_for pool.guid r.group.0 pool.geometry Even) (sym (kept_oldest pool group hold c.args.place c.apply.new.self c.requires.place r is c.apply.ensures.others).1);
        left = was.left;
        uberblock = was.uberblock;
        placed = was.placed;
      };
      sync_line = pool.sync_line ∙ ap (λ l. l.syncing) (sym line);
      tree_placed = pool.tree_placed;
      log_placed = subst (λ (l : Log). AreBlocksOf (block_count pool.geometry) (log_addresses l)) (sym log) pool.log_placed;
      sync_lengths = λ r is. subst (λ (p : Patches). HaveLengthsAfter p r.entries pool.synced.tree) (sym (kept_oldest pool group hold c.args.place c.apply.new.self c.requires.place r is c.apply.ensures.others).0) (pool.sync_lengths r is);
      sync_header = λ r is. subst (λ (l : Log). KeepsHeader r.group.0 (header_fields r.header) l) (sym log) (header_entered r.group.0 (header_fields r.header) _ (log_shown pool.log) (pool.sync_header r is));
      unsynced_kept = record {
        open_or_before = rw (line, c.enter.ensures.records) (All-push (λ (x : Record). x.group.0 ≤ pool.groups.line.open_group) pool.log.records _ pool.unsynced_kept.open_or_before behind.open_or_before);
        within = pool.unsynced_kept.within;
        changed = rw (line, c.enter.ensures.records)
            (changes_entered pool.groups.line.synced c.args.place pool.log.records _ pool.changes c.apply.new.self c.requires.place pool.unsynced_kept.changed
            (rw c.as_slice.ensures at c.apply.ensures.applied) c.apply.ensures.others);
        named = rw (line, c.enter.ensures.records)
            (names_entered pool.groups.line.synced c.args.place pool.log.records _ pool.changes c.apply.new.self c.requires.place pool.unsynced_kept.named
            (rw c.as_slice.ensures at c.apply.ensures.applied) c.apply.ensures.others);
      };
      logged = subst (λ (g : ℕ). IsLogOf g (log_shown c.enter.new.self)) (sym (ap (λ (l : Line). l.synced) line))
          (subst (IsLogOf pool.groups.line.synced) (sym log) (entered_log pool.groups.line.synced _ (log_shown pool.log) behind.above pool.logged));
    }

pub enter-requires-clause-allowed : goal.enter-requires-clause-allowed
enter-requires-clause-allowed c =
    let pool = c.args.self.now in
    let may = c.requires.may in
    let group = c.args.group.0 in
    let hold = has_hold pool.transactions.transactions pool.groups c.args.tx.0 may.admission group pool.accounted.holds_exact c.end.ensures.apart may.found may.group_is in
    let behind = entered_behind pool group hold in
    record {
      group = let last = pool.accounted.counted.line.last in let low = behind.open_or_before in omega (arith, last, low);
      ordinal = c.requires.named;
      shapes = c.requires.fits.shapes;
      contents = c.requires.bytes;
      size = c.requires.fits.size;
    }

pub returns-clause-shown : goal.returns-clause-shown
returns-clause-shown c =
    let pool = c.args.self.now in
    let s = pool_shown pool in
    let may = c.requires.may in
    let group = c.args.group.0 in
    let hold = has_hold pool.transactions.transactions pool.groups c.args.tx.0 may.admission group pool.accounted.holds_exact c.end.ensures.apart may.found may.group_is in
    let same = same_plan pool c.apply.new.self (λ r is. kept_oldest pool group hold c.args.place c.apply.new.self c.requires.place r is c.apply.ensures.others) in
    rw (c.end.ensures.others, c.end.ensures.next, c.in-Ok.ensures.released, line-after_release pool.groups pool.accounted.counted group, c.enter.ensures.shown)
    (λ k. record (shown_after_entry c.args.tx.0 group c.args.ops (record { name = name_over c.apply.new.self pool.synced.name; objects = laid_all c.apply.new.self (synced_of pool).objects }) s) { sync = same k })
