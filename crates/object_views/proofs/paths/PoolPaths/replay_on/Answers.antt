use Rattle.std.proofs.Common.{refl, ◌∙◌}
use Rattle.import_replay.proofs.Reasons.{passed_on}
use Rattle.log_replay.specs.AddedRecords.{AreChangesOf}
use Rattle.log_replay.specs.Replays.{IsReplayRefusal}
use Rattle.contents.specs.Judging.{with_name}
use Rattle.object_views.specs.Listings.{records_of}
use Rattle.object_views.proofs.Listings.{led, list_rises, stopped}
use Rattle.object_views.proofs.ZeroObjects.{zeros_numbered}
use Rattle.object_views.proofs.paths.PoolPaths.replay_on.Goals as goal

pub changes_of-requires-clause-allowed : goal.changes_of-requires-clause-allowed
changes_of-requires-clause-allowed c = rw c.deref.ensures.value c.requires.allowed

pub changes_of-requires-clause-numbered : goal.changes_of-requires-clause-numbered
changes_of-requires-clause-numbered c = zeros_numbered c.in_ok-zeros.zeros

pub returns-in_err-changes-clause-refused : goal.returns-in_err-changes-clause-refused
returns-in_err-changes-clause-refused c =
    let p = c.args.self.now in
    let x = c.in_err-changes.field-0.0 in
    let zeros = c.in_ok-zeros.zeros in
    let refused : IsReplayRefusal (records_of p) (with_name zeros.told.value p.found.name) x = rw c.deref.ensures.value at (c.in_err-changes.ensures.refused p.found.name) in
    passed_on c.from_residual-in_err-changes.result x _ c.from_residual-in_err-changes.ensures.1
    (stopped p c.args.entries.now c.requires.rising zeros c.in_ok-zeros.ensures x refused)

pub returns-clause-replayed : goal.returns-clause-replayed
returns-clause-replayed c =
    let p = c.args.self.now in
    let zeros = c.in_ok-zeros.zeros in
    let told = c.in_ok-zeros.ensures in
    let entries = c.args.entries.now in
    let changes = c.in_ok-changes.changes in
    let count = c.in_ok-changes.records in
    let are : AreChangesOf (records_of p) (with_name zeros.told.value p.found.name) (changes, count) = rw c.deref.ensures.value at (c.in_ok-changes.ensures.changes p.found.name) in
    let list = c.in_ok-objects.objects.items in
    let lists = rw c.new.ensures at c.in_ok-objects.ensures in
    record {
      replayed = led p entries c.requires.rising zeros told changes count are list lists _ (c.copy.ensures.copy ∙ c.name_over.ensures) refl;
      rising = list_rises p entries c.requires.rising zeros told changes count are list lists;
      guid = refl;
      group = refl;
      import_number = refl;
      blocks = c.blocks-blocks.ensures;
      records = are.0;
    }
