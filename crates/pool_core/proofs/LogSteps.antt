-- A write and a flush of the log, with the replies that are made of their answers, are steps.
use Rattle.std.proofs.Common.{◌≡◌, ◌∙◌, inl, inr, ℕ, List, [], Option, refl, ap, sym, subst}
use Rattle.std.specs.Prelude.{IsTrue, Result, Ok, Err, option_map}
use Rattle.base.specs.declared.error.PoolError.{PoolError}
use Rattle.base.specs.declared.refused.RefusedCalls.{RefusedCalls}
use Rattle.base.specs.declared.step.Step.TheVariants as step
use Rattle.base.specs.declared.step.Reply.{Reply}
use Rattle.base.specs.declared.step.Reply.TheVariants as reply
use Rattle.base.specs.disk.Calls.{Flushes, Writes, counted}
use Rattle.base.specs.disk.Disk.{Disk, bytes_of}
use Rattle.base.specs.history.Past.{Past}
use Rattle.base.specs.steps.Additions.{past_after}
use Rattle.base.specs.steps.Runs.{reply_of}
use Rattle.base.specs.steps.Steps as steps
use Rattle.base.proofs.steps.Additions.{told_past}
use Rattle.device_model.specs.declared.device.SectorDevice.{Ghosts}
use Rattle.tree_blocks.specs.declared.tree.Tree.{Tree}
use Rattle.tree_blocks.specs.Pointers.{pointers_of}
use Rattle.pool_tables.specs.LogBlocks.{WritesLogBlock}
use Rattle.pool_tables.specs.StepAnswers as answers
use Rattle.pool_tables.specs.Told.{Leads, new_tree_of, state_with}
use Rattle.pool_tables.specs.declared.pool.RunningSync.{RunningSync}
use Rattle.pool_core.specs.Calls.{CallsDevice, WritesBlock, answer_in}
use Rattle.pool_core.specs.KeptSafe.{KeepsSafe, disk_of, on_disk}
use Rattle.pool_core.specs.LogSafe.{FlushesLogOnDisk, KeepsSync, WritesLogOnDisk}
use Rattle.pool_core.specs.States.{CountsRefused, KeepsTreeOf, refused_calls, shown, told}
use Rattle.pool_core.specs.StepReplies.{StepReplies}
use Rattle.pool_core.specs.Turns.{MakesStep, Turns}
use Rattle.pool_core.specs.declared.state.PoolState.{PoolState}
use Rattle.pool_core.proofs.Turns.{any_turns}
use Rattle.pool_core.proofs.crash.LogSafe.{log_flushes_safe, log_writes_safe}
use Rattle.import_replay.proofs.ReadPools.{same_flushed}

-- a write that the device refused leaves what a read gives, and so does a flush
bytes_refused : (before after : Disk) (place : ℕ) (content : List ℕ) (e : PoolError) → Writes before place content (Err e) after → bytes_of after.now ≡ bytes_of before.now
bytes_refused before after place content e (inl counts) = ap (λ (d : Disk). bytes_of d.now) counts
bytes_refused before after place content e (inr same) = ap (λ (d : Disk). bytes_of d.now) same

bytes_flushed : (before after : Disk) (answer : Result (Unit {0}) PoolError) → Flushes before answer after → bytes_of after.now ≡ bytes_of before.now
bytes_flushed before after (Ok u) made = same_flushed before after made
bytes_flushed before after (Err e) made = ap (λ (d : Disk). bytes_of d.now) made

abbrev logged : Result ℕ PoolError → Reply
logged answer = reply_of (λ (count : ℕ). reply.Logged count) answer

abbrev flushed : Result (Unit {0}) PoolError → Reply
flushed answer = reply_of (λ (u : Unit {0}). reply.Flushed) answer

counted-logged : (answer : Result ℕ PoolError) (calls : RefusedCalls) → counted (answer_in (logged answer)) calls ≡ counted answer calls
counted-logged (Ok count) calls = refl
counted-logged (Err e) calls = refl

answer_in-flushed : (answer : Result (Unit {0}) PoolError) → answer_in (flushed answer) ≡ answer
answer_in-flushed (Ok u) = refl
answer_in-flushed (Err e) = refl

module _ {Dev : Type 0} {G : Ghosts Dev} (old new : PoolState Dev G) (same : KeepsTreeOf old new) where
  same_pointers : (told new).pointers ≡ (told old).pointers
  same_pointers = ap (λ (t : Tree). pointers_of t) same.tree

  same_running : (told new).running ≡ (told old).running
  same_running = λ k. option_map (new_tree_of (same.tree k)) (same.sync k)

  keeps_sync : (past later : Past) → KeepsSync (on_disk old past) (on_disk new later)
  keeps_sync past later = record {
    same_bytes = refl;
    pointers = same_pointers;
    running = same_running;
    run = ap (λ (o : Option RunningSync). option_map (λ (r : RunningSync). r.run) o) same.sync;
  }

  -- the write of a log block
  module _ (answer : Result ℕ PoolError) (writes : answers.WritesLog answer (shown old) (shown new))
      (wrote : IsTrue G.keeps_model → WritesLogBlock answer (shown old) (shown new) (disk_of old) (disk_of new)) (counts : CountsRefused answer old new) where
    write_replies : StepReplies step.LogWrite (logged answer) (shown old) (shown new)
    write_replies past explained = let one = writes past in (one.0, (answer, refl, one.1))

    write_leads : IsTrue G.keeps_model → Leads (logged answer) (told old) (told new)
    write_leads keeps = go answer (wrote keeps)
      where
        go : (a : Result ℕ PoolError) → WritesLogBlock a (shown old) (shown new) (disk_of old) (disk_of new) → Leads (logged a) (told old) (told new)
        go (Ok count) made = λ past later. record {
          taken = made.taken;
          address = made.address;
          block = made.block;
          packed = made.packed;
          now_is = ap (λ (d : Disk). bytes_of d.now) made.writes;
          pointers = same_pointers;
          running = same_running;
        }
        go (Err e) (inl none) = λ past later. (ap (λ (d : Disk). bytes_of d.now) none.1, same_pointers, same_running)
        go (Err e) (inr made) = λ past later. (bytes_refused (disk_of old) (disk_of new) (shown old).log.next.address made.block.content e made.writes, same_pointers, same_running)

    write_turns : Turns step.LogWrite (logged answer) old new
    write_turns = any_turns (IsTrue G.keeps_model) step.LogWrite (logged answer) (told old) (told new) refl write_replies write_leads

    write_safe : IsTrue G.keeps_model → KeepsSafe step.LogWrite (logged answer) old new
    write_safe keeps past x =
        let one = writes past in
        let is = told_past ⊥ [] step.LogWrite (logged answer) (state_with (told old) past) (state_with (told new) one.0) (answer, refl, one.1) in
        let later : Past = past_after step.LogWrite (logged answer) (state_with (told old) past) in
        let made : WritesLogOnDisk answer (on_disk old past) (on_disk new later) = record {
          step = subst (λ (q : Past). steps.LogWrite answer (state_with (told old) past) (state_with (told new) q)) is one.1;
          wrote = wrote keeps;
          same = keeps_sync past later;
        } in
        let safe = log_writes_safe answer (on_disk old past) (on_disk new later) x made in
        record { step = (write_turns past).over keeps x.held; kept = safe.kept; were = safe.were; own = safe.own }

    write_calls : CallsDevice step.LogWrite (logged answer) old new
    write_calls keeps = go answer (wrote keeps)
      where
        go : (a : Result ℕ PoolError) → WritesLogBlock a (shown old) (shown new) (disk_of old) (disk_of new) → WritesBlock (logged a) old new
        go (Ok count) made = made
        go (Err e) made = made

    pub log_write_step : MakesStep step.LogWrite (logged answer) old new
    log_write_step = record {
      replied = write_replies;
      turns = write_turns;
      leads = write_leads;
      safe = write_safe;
      calls = write_calls;
      count = counts ∙ sym (counted-logged answer (refused_calls old));
    }

  -- the flush of all that were written
  module _ (answer : Result (Unit {0}) PoolError) (flushes : answers.FlushesLog answer (shown old) (shown new))
      (made : IsTrue G.keeps_model → Flushes (disk_of old) answer (disk_of new)) (counts : CountsRefused answer old new) where
    flush_replies : StepReplies step.LogFlush (flushed answer) (shown old) (shown new)
    flush_replies past explained = let one = flushes past in (one.0, (answer, refl, one.1))

    flush_leads : IsTrue G.keeps_model → Leads (flushed answer) (told old) (told new)
    flush_leads keeps = go answer (made keeps)
      where
        go : (a : Result (Unit {0}) PoolError) → Flushes (disk_of old) a (disk_of new) → Leads (flushed a) (told old) (told new)
        go (Ok u) done = λ past later. (bytes_flushed (disk_of old) (disk_of new) (Ok u) done, same_pointers, same_running)
        go (Err e) done = λ past later. (bytes_flushed (disk_of old) (disk_of new) (Err e) done, same_pointers, same_running)

    flush_turns : Turns step.LogFlush (flushed answer) old new
    flush_turns = any_turns (IsTrue G.keeps_model) step.LogFlush (flushed answer) (told old) (told new) refl flush_replies flush_leads

    flush_safe : IsTrue G.keeps_model → KeepsSafe step.LogFlush (flushed answer) old new
    flush_safe keeps past x =
        let one = flushes past in
        let is = told_past ⊥ [] step.LogFlush (flushed answer) (state_with (told old) past) (state_with (told new) one.0) (answer, refl, one.1) in
        let later : Past = past_after step.LogFlush (flushed answer) (state_with (told old) past) in
        let done : FlushesLogOnDisk answer (on_disk old past) (on_disk new later) = record {
          step = subst (λ (q : Past). steps.LogFlush answer (state_with (told old) past) (state_with (told new) q)) is one.1;
          flushed = made keeps;
          same = keeps_sync past later;
        } in
        let safe = log_flushes_safe answer (on_disk old past) (on_disk new later) x done in
        record { step = (flush_turns past).over keeps x.held; kept = safe.kept; were = safe.were; own = safe.own }

    pub log_flush_step : MakesStep step.LogFlush (flushed answer) old new
    log_flush_step = record {
      replied = flush_replies;
      turns = flush_turns;
      leads = flush_leads;
      safe = flush_safe;
      calls = λ keeps. subst (λ (a : Result (Unit {0}) PoolError). Flushes (disk_of old) a (disk_of new)) (sym (answer_in-flushed answer)) (made keeps);
      count = counts ∙ sym (ap (λ (a : Result (Unit {0}) PoolError). counted a (refused_calls old)) (answer_in-flushed answer));
    }
