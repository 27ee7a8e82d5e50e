use Rattle.std.proofs.Common.{Err, Ok, refl}
use Rattle.commands.specs.NamedOps.{removal_ops}
use Rattle.commands.proofs.TableFound.{removed_as_found, transacted}
use Rattle.commands.proofs.named_removals.remove_with_name.Goals as goal

pub returns-in-Err : goal.returns-in-Err
returns-in-Err g c =
    let found = c.length-found in
    removed_as_found c.args.object (Err c.in-Err.refusal) c.args.handle.now found.new.self found.new.self found.result (Err c.in-Err.refusal) c.in-Err.ensures found.ensures.made (refl, refl)

pub returns-in-Err-commit : goal.returns-in-Err-commit
returns-in-Err-commit g c =
    let found = c.length-found in
    let refusal = c.in-Err-commit.refusal in
    let ops = removal_ops c.in-Ok.there c.args.object in
    removed_as_found c.args.object (Err refusal) c.args.handle.now found.new.self c.commit.new.handle found.result (Ok c.in-Ok.there) c.in-Ok.ensures found.ensures.made (record {
      count = 0;
      made = Err refusal;
      done = c.commit.new.handle;
      makes = (refusal, refl, transacted ops c.ops_of-ops.result (Err refusal) found.new.self c.commit.new.handle c.ops_of-ops.ensures c.in-Err-commit.ensures.committed c.in-Err-commit.ensures.lacks);
      syncs = (refl, refl);
    })

pub returns : goal.returns
returns g c =
    let found = c.length-found in
    let ops = removal_ops c.in-Ok.there c.args.object in
    let receipt = c.in-Ok-commit.field-0 in
    removed_as_found c.args.object c.first_refusal.result c.args.handle.now found.new.self c.sync_pool.new.self found.result (Ok c.in-Ok.there) c.in-Ok.ensures found.ensures.made (record {
      count = 1;
      made = Ok tt;
      done = c.commit.new.handle;
      makes = (receipt, c.commit.new.handle, transacted ops c.ops_of-ops.result (Ok receipt) found.new.self c.commit.new.handle c.ops_of-ops.ensures c.in-Ok-commit.ensures.committed c.in-Ok-commit.ensures.lacks, (refl, refl, refl));
      syncs = (c.sync_pool.result, c.sync_pool.ensures.synced, c.first_refusal.ensures);
    })
