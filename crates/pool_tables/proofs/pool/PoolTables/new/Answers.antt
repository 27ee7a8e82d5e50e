use Rattle.std.proofs.Common.{◌≡◌, ◌∙◌, ◌≤◌, ℕ, [], ap, arith, true, refl, subst, sym}
use Rattle.std.proofs.Math.Logic.{∥∥₁_elim}
use mathlib.Core.Bool.{Bool-set}
use Rattle.std.proofs.lemmas.List.Elements.{All-cons, All-nil}
use Rattle.base.specs.formats.Geometry.{AreBlocksOf, block_count, is_block_of}
use Rattle.base.specs.steps.Exact.{log_addresses}
use Rattle.base.specs.steps.Logs.{Log}
use Rattle.groups.specs.CountedLines.{counted_behind}
use Rattle.records.specs.declared.record.Record.{Record}
use Rattle.intent_log.proofs.RunLogs.{first_log}
use Rattle.throttle.specs.Blocks.{blocks_in}
use Rattle.throttle.proofs.BlockSums.{blocks_of-empty}
use Rattle.throttle.proofs.ShownSums.{new_sums_are_on_lines}
use Rattle.contents.specs.ContentsShown.{contents_of}
use Rattle.base.proofs.formats.BlockTests.{block_passes}
use Rattle.pool_tables.proofs.Charges.{total-behind}
use Rattle.pool_tables.proofs.HeldGroups.{counted_new, exact_new}
use Rattle.pool_tables.proofs.Opens.{HasAllowedPlan, IsSmall}
use Rattle.pool_tables.proofs.UnsyncedChanges.{first_changes, first_name, first_names, first_objects}
use Rattle.pool_tables.proofs.pool.PoolTables.new.Goals as goal

pub invariant_of-result-clause-accounted : goal.invariant_of-result-clause-accounted
invariant_of-result-clause-accounted c =
    let group = c.args.mounted.group.0 in
    rw (c.new-2.ensures, c.new-3.ensures.none, c.new-4.ensures) (record {
      counted = counted_new group c.args.mounted.group_fits.0 c.args.mounted.group_fits.1;
      holds_exact = exact_new group;
      charged = new_sums_are_on_lines (counted_behind group).line c.args.mounted.dirty_max;
      open_charged = λ other. omega arith;
      plans_allowed = All-nil HasAllowedPlan;
      plans_small = All-nil IsSmall;
    })

pub invariant_of-result-clause-free_counted : goal.invariant_of-result-clause-free_counted
invariant_of-result-clause-free_counted c =
    let idle = c.args.mounted.free_idle in
    record {
      sized = c.args.mounted.free_sized;
      taken = idle.taken;
      reserved = rw c.new-4.ensures (idle.reserved ∙ sym (ap blocks_in (total-behind c.args.mounted.dirty_max c.args.mounted.group.0)));
    }

pub invariant_of-result-clause-unsynced_kept : goal.invariant_of-result-clause-unsynced_kept
invariant_of-result-clause-unsynced_kept c = rw (c.new-2.ensures, c.new-6.ensures.records) (record {
  open_or_before = All-nil (λ (x : Record). x.group.0 ≤ (counted_behind c.args.mounted.group.0).line.open_group);
  within = c.requires;
  changed = first_changes c.new-5.result c.new-5.ensures.patches c.args.mounted.group.0;
  named = first_names c.new-5.result c.new-5.ensures.names c.args.mounted.group.0;
})

pub invariant_of-result-clause-logged : goal.invariant_of-result-clause-logged
invariant_of-result-clause-logged c = rw (c.new-2.ensures, c.new-6.ensures.shown) (first_log c.args.mounted.group.0 (record { address = c.args.mounted.log_address; number = 0 }))

pub invariant_of-result-clause-log_placed : goal.invariant_of-result-clause-log_placed
invariant_of-result-clause-log_placed c =
    let blocks = block_count c.args.mounted.geometry in
    let address = c.args.mounted.log_address in
    let is : is_block_of blocks address ≡ true = ∥∥₁_elim c.args.mounted.log_placed (Bool-set _ _) (block_passes blocks address) in
    subst (λ (l : Log). AreBlocksOf blocks (log_addresses l)) (sym c.new-6.ensures.shown) (All-cons (λ (a : ℕ). is_block_of blocks a ≡ true) address [] is (All-nil (λ (a : ℕ). is_block_of blocks a ≡ true)))

pub returns-clause-shown : goal.returns-clause-shown
returns-clause-shown c =
    let objects = first_objects c.new-5.result c.new-5.ensures.patches (contents_of c.args.mounted.contents).objects c.requires in
    let name = first_name c.new-5.result c.new-5.ensures.names c.args.mounted.contents.name in
    rw (c.new.ensures.none, c.new.ensures.next, c.new-2.ensures, c.new-3.ensures.none, c.new-3.ensures.first, c.new-4.ensures, c.new-6.ensures.shown, blocks_of-empty, objects, name) refl
