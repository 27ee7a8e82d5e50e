use Rattle.std.proofs.Common.{Ok, inl, inr, refl}
use Rattle.commands.proofs.new_objects.put_new.Goals as goal

pub returns-then-put-eq0 : goal.returns-then-put-eq0
returns-then-put-eq0 g c =
    let made = c.put_pieces-made in
    record {
      new = Ok c.in-Ok.new;
      found = c.find_new.new.handle;
      finds = c.in-Ok.ensures;
      puts = record {
        made = made.result.1;
        done = made.new.handle;
        makes = made.ensures.made;
        size = made.ensures.size;
        end = made.result.1;
        syncs = inl (c.if-put-eq0.true, refl, refl);
        ends = c.by_engine.ensures;
      };
    }

pub returns : goal.returns
returns g c =
    let made = c.put_pieces-made in
    let synced = c.sync_pool-synced in
    record {
      new = Ok c.in-Ok.new;
      found = c.find_new.new.handle;
      finds = c.in-Ok.ensures;
      puts = record {
        made = made.result.1;
        done = made.new.handle;
        makes = made.ensures.made;
        size = made.ensures.size;
        end = c.first_refusal.result;
        syncs = inr (synced.result, c.if-put-eq0.false, synced.ensures.synced, c.is_ok.ensures.value, c.first_refusal.ensures);
        ends = c.by_engine-2.ensures;
      };
    }
