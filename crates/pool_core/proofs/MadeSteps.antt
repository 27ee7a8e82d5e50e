-- A call of a pool on its device, with the reply that is made of its answer, is a step. So is a call whose answer was
-- mapped to that reply.
use Rattle.std.proofs.Common.{◌≡◌, ℕ, Bool, true, false, not, List, [], refl, ap, sym, subst, ◌∙◌}
use Rattle.std.proofs.lemmas.Bool.{and_parts, not-true}
use Rattle.std.specs.Prelude.{IsOkAnd, IsTrue, MatchResult, None, OnErr, Option, Result, Ok, Err, length, option_map}
use Rattle.base.specs.declared.error.PoolError.{PoolError}
use Rattle.base.specs.declared.names.Group.{Group}
use Rattle.base.specs.declared.names.Receipt.{Receipt}
use Rattle.base.specs.declared.names.TxId.{TxId}
use Rattle.base.specs.declared.operation.Op.{Op}
use Rattle.base.specs.declared.step.Step as declared_step
use Rattle.base.specs.declared.step.Step.TheVariants as step
use Rattle.base.specs.declared.step.Reply.{Reply}
use Rattle.base.specs.declared.step.Reply.TheVariants as reply
use Rattle.base.specs.declared.refused.RefusedCalls.{RefusedCalls}
use Rattle.base.specs.declared.status.Status.{Status}
use Rattle.base.specs.disk.Calls.{counted}
use Rattle.base.specs.disk.Disk.{bytes_of}
use Rattle.base.specs.history.Past.{Past}
use Rattle.base.specs.steps.Tables.{AreTablesExplained}
use Rattle.base.specs.steps.Runs.{Replies, Step, asks_device, is_log_step, progress_reply, reply_of}
use Rattle.base.specs.steps.Shown.{Shown, is_durable, status_of}
use Rattle.base.specs.steps.Steps as steps
use Rattle.base.specs.steps.Steps.{Answers, State}
use Rattle.base.specs.kept.Stored.{IsHeld, is_turn}
use Rattle.device_model.specs.declared.device.SectorDevice.{Ghosts}
use Rattle.sync.specs.Calls.{plain_answer}
use Rattle.pool_tables.specs.declared.pool.PoolTables.{PoolTables}
use Rattle.pool_tables.specs.declared.pool.RunningSync.{RunningSync}
use Rattle.pool_core.specs.declared.state.PoolState.{PoolState}
use Rattle.pool_tables.specs.declared.pool.Progress.{Progress}
use Rattle.pool_tables.specs.declared.pool.Progress.TheVariants.{More, Synced}
use Rattle.pool_core.specs.Calls.{CallsDevice, CallsNext, answer_in, reply_in}
use Rattle.pool_tables.specs.Shows.{pool_shown}
use Rattle.pool_tables.specs.Told.{Leads, held_with, start_reply, state_with, sync_step_reply}
use Rattle.pool_tables.specs.SyncPhases.{StepsPhases, run_in}
use Rattle.pool_core.specs.KeptSafe.{disk_of, run_of}
use Rattle.pool_tables.specs.KeptTrees.{KeepsTree}
use Rattle.pool_tables.specs.Meets.{Meets}
use Rattle.pool_tables.specs.Progresses.{plain_progress}
use Rattle.pool_core.specs.Holds.{StepsOver}
use Rattle.pool_core.specs.States.{CountsRefused, MakesNoCall, MovesNothing, OnlyReadsOf, device_of, refused_calls, shown, tables_of, told}
use Rattle.pool_tables.specs.StepAnswers.{Commits, StartsSync, StepsSync, group_number, receipt_numbers}
use Rattle.pool_core.specs.StepReplies.{IsStep, StepReplies, is_on_tables, rests_on_past}
use Rattle.pool_tables.specs.SyncStarts.{StartsHeldOver}
use Rattle.pool_tables.specs.Tables.{result_map}
use Rattle.pool_core.specs.Turns.{MakesStep, Turns}
use Rattle.pool_core.proofs.RepliedSteps.{result_map-same, reply_in-made, replied_with}
use Rattle.pool_core.proofs.crash.SafeStates.{start_keeps, still_keeps, sync_keeps}
use Rattle.pool_core.proofs.StepsOver.{start_over}
use Rattle.pool_core.proofs.StillSteps.{is_still, answer_in-still, no_call_counts, read_counts, read_replied, still_replied, still_turn}
use Rattle.pool_core.proofs.Turns.{any_turns, turns}

answer_in-sync_step : (answer : Result Progress PoolError) → answer_in (sync_step_reply answer) ≡ plain_answer answer
answer_in-sync_step (Ok More) = refl
answer_in-sync_step (Ok (Synced group)) = refl
answer_in-sync_step (Err e) = refl

counted-sync_step : (answer : Result Progress PoolError) (calls : RefusedCalls) → counted (answer_in (sync_step_reply answer)) calls ≡ counted answer calls
counted-sync_step (Ok More) calls = refl
counted-sync_step (Ok (Synced group)) calls = refl
counted-sync_step (Err e) calls = refl

-- the reply that an answer was mapped to is made of the answer
pub mapped : {Dev : Type 0} {G : Ghosts Dev} {old new : PoolState Dev G} {A : Type 0} {s : declared_step.Step} (make : A → Reply) (answer : Result A PoolError) (made : Result Reply PoolError)
    → MatchResult answer (λ a. IsOkAnd made (λ r. r ≡ make a)) (λ e. made ≡ Err e) → MakesStep s (reply_of make answer) old new → MakesStep s (reply_in made) old new
mapped {Dev} {G} {old} {new} {s} make answer made is m = subst (λ (r : Reply). MakesStep s r old new) (sym (reply_in-made make answer made is)) m

-- a call that only reads moves nothing
pub read_moves_nothing : {Dev : Type 0} {G : Ghosts Dev} {old new : PoolState Dev G} {A : Type 0} {answer : Result A PoolError} → new ≡ old → MakesNoCall answer old new → MovesNothing answer old new
read_moves_nothing {Dev} {G} {old} {new} {answer = answer} same no_call = record { no_call = no_call; kept = subst (λ (state : PoolState Dev G). KeepsTree old.pool state.pool) (sym same) (record { geometry = refl; tree = refl; sync = refl }) }

module _ {Dev : Type 0} {G : Ghosts Dev} {old new : PoolState Dev G} where
  -- one that moves nothing, and neither asks the device for blocks nor writes or flushes the log
  led_step : {A B : Type 0} {s : declared_step.Step} {Does : Result B PoolError → State → State → Type 0} {make : B → Reply} {answer : Result A PoolError} (f : A → B)
      → ((r : Reply) (x y : State) → Replies make r (λ a. Does a x y) → IsStep s r x y) → is_on_tables s ≡ true → ((b : B) → is_still (make b) ≡ true)
      → ((r : Reply) → device_of new ≡ device_of old → CallsDevice s r old new)
      → ((past : Past) → (rests_on_past s ≡ true → AreTablesExplained (shown old) past) → (later : Past) × Does (result_map f answer) (record { shown = shown old; past = past }) (record { shown = shown new; past = later }))
      → MovesNothing answer old new → MakesStep s (reply_of (λ (a : A). make (f a)) answer) old new
  led_step {A} {B} {s} {Does} {make} {answer} f same off quiet calls meets moves = record {
    replied = replies;
    turns = turned;
    leads = leads;
    safe = λ keeps. still_keeps keeps old new s (reply_of (λ (a : A). make (f a)) answer) no_turn (not-true (is_log_step s) parts.1) (ap (λ (d : Dev). G.disk d) moves.no_call.device) (ap (λ (o : Option RunningSync). option_map (λ (r : RunningSync). r.run) o) moves.kept.sync) turned;
    calls = calls (reply_of (λ (a : A). make (f a)) answer) moves.no_call.device;
    count = no_call_counts old new (λ (a : A). make (f a)) answer (reply_of (λ (a : A). make (f a)) answer) (λ a. answer_in-still (make (f a)) (quiet (f a))) refl moves.no_call;
  }
    where
      parts : (not (asks_device s) ≡ true) × (not (is_log_step s) ≡ true)
      parts = and_parts (not (asks_device s)) (not (is_log_step s)) off

      replies : StepReplies s (reply_of (λ (a : A). make (f a)) answer) (shown old) (shown new)
      replies past explained =
          let before : State = record { shown = shown old; past = past } in
          let one = replied_with (λ answer later. Does answer before (record { shown = shown new; past = later })) f make answer (reply_of (λ (a : A). make (f a)) answer) refl (meets past explained) in
          (one.0, same (reply_of (λ (a : A). make (f a)) answer) before (record { shown = shown new; past = one.0 }) one.1)

      leads : IsTrue G.keeps_model → Leads (reply_of (λ (a : A). make (f a)) answer) (told old) (told new)
      leads keeps = still_replied old new (λ (a : A). make (f a)) answer (reply_of (λ (a : A). make (f a)) answer) (λ a. quiet (f a)) refl moves

      turned : Turns s (reply_of (λ (a : A). make (f a)) answer) old new
      turned = any_turns (IsTrue G.keeps_model) s (reply_of (λ (a : A). make (f a)) answer) (told old) (told new) (not-true (asks_device s) parts.0) replies leads

      no_turn : is_turn (reply_of (λ (a : A). make (f a)) answer) ≡ false
      no_turn = still_turn (λ (a : A). make (f a)) answer (reply_of (λ (a : A). make (f a)) answer) (λ a. quiet (f a)) refl

  -- whatever the past
  pub still_step : {A B : Type 0} {s : declared_step.Step} {Does : Result B PoolError → State → State → Type 0} {make : B → Reply} {answer : Result A PoolError} (f : A → B)
      → ((r : Reply) (x y : State) → Replies make r (λ a. Does a x y) → IsStep s r x y) → is_on_tables s ≡ true → ((b : B) → is_still (make b) ≡ true)
      → ((r : Reply) → device_of new ≡ device_of old → CallsDevice s r old new)
      → Meets Does (result_map f answer) (shown old) (shown new) → MovesNothing answer old new → MakesStep s (reply_of (λ (a : A). make (f a)) answer) old new
  still_step f same off quiet calls meets moves = led_step f same off quiet calls (λ past explained. meets past) moves

  -- a commit, for a past that explains what was shown
  pub commit_step : {tx : TxId} {ops : List Op} {answer : Result Receipt PoolError} → Commits tx ops answer (shown old) (shown new) → MovesNothing answer old new
      → MakesStep (step.Commit tx ops) (reply_of (λ (receipt : Receipt). reply.Committed receipt) answer) old new
  commit_step {tx} {ops} {answer} commits moves =
      led_step receipt_numbers (λ r x y h. h) refl (λ b. refl) (λ r d. d) (λ past explained. commits past (explained refl)) moves

  -- one of which the definitions speak of the answer as it is
  pub plain_step : {A : Type 0} {s : declared_step.Step} {Does : Result A PoolError → State → State → Type 0} {make : A → Reply} {answer : Result A PoolError}
      → ((r : Reply) (x y : State) → Replies make r (λ a. Does a x y) → IsStep s r x y) → is_on_tables s ≡ true → ((a : A) → is_still (make a) ≡ true)
      → ((r : Reply) → device_of new ≡ device_of old → CallsDevice s r old new)
      → Meets Does answer (shown old) (shown new) → MovesNothing answer old new → MakesStep s (reply_of make answer) old new
  plain_step {A} {s} {Does} {make} {answer} same off quiet calls meets moves =
      still_step (λ a. a) same off quiet calls (subst (λ (a : Result A PoolError). Meets Does a (shown old) (shown new)) (sym (result_map-same answer)) meets) moves

  -- one that only reads
  pub plain_read : {A : Type 0} {s : declared_step.Step} {Does : Result A PoolError → State → State → Type 0} {make : A → Reply} {answer : Result A PoolError}
      → ((r : Reply) (x y : State) → Replies make r (λ a. Does a x y) → IsStep s r x y) → is_on_tables s ≡ true → ((a : A) → is_still (make a) ≡ true)
      → ((r : Reply) → device_of new ≡ device_of old → CallsDevice s r old new)
      → Meets Does answer (shown old) (shown old) → new ≡ old → MakesNoCall answer old new → MakesStep s (reply_of make answer) old new
  plain_read {Does} {answer} same off quiet calls meets unchanged no_call =
      plain_step same off quiet calls (subst (λ (state : PoolState Dev G). Meets Does answer (shown old) (shown state)) (sym unchanged) meets) (read_moves_nothing unchanged no_call)

  -- one that asks the device for blocks, and changes no table
  pub read_step : {A : Type 0} {s : declared_step.Step} {Does : Type 0 → Result A PoolError → State → State → Type 0} {make : A → Reply} {answer : Result A PoolError}
      → ((keeps : Type 0) (now : List ℕ) (r : Reply) (x y : State) → Replies make r (λ a. Does keeps a x y) → Step keeps now s r x y) → is_log_step s ≡ false → ((a : A) → is_still (make a) ≡ true)
      → ((r : Reply) → (IsTrue G.keeps_model → disk_of new ≡ disk_of old) → CallsDevice s r old new) → Meets (Does ⊥) answer (shown old) (shown old)
      → (IsTrue G.keeps_model → (past : Past) → IsHeld (held_with (told old) past) → Does (Unit {0}) answer (state_with (told old) past) (state_with (told old) past))
      → tables_of new ≡ tables_of old → OnlyReadsOf answer old new → MakesStep s (reply_of make answer) old new
  read_step {A} {s} {Does} {make} {answer} same no_log quiet calls meets held tables reads = record {
    replied = replies;
    turns = turned;
    leads = leads;
    safe = λ keeps. still_keeps keeps old new s (reply_of make answer) (still_turn make answer (reply_of make answer) quiet refl) no_log (reads.disk keeps) (ap (λ (p : PoolTables). run_in p) tables) turned;
    calls = calls (reply_of make answer) reads.disk;
    count = read_counts old new make answer (λ a. answer_in-still (make a) (quiet a)) reads;
  }
    where
      same_shown : shown new ≡ shown old
      same_shown = ap (λ (p : PoolTables). pool_shown p) tables

      -- it is the same to the state with what is shown then
      to_new : (keeps : Type 0) (past later : Past) → Does keeps answer (state_with (told old) past) (state_with (told old) later) → Does keeps answer (state_with (told old) past) (state_with (told new) later)
      to_new keeps past later does = subst (λ (t : Shown). Does keeps answer (state_with (told old) past) (record { shown = t; past = later })) (sym same_shown) does

      replies : StepReplies s (reply_of make answer) (shown old) (shown new)
      replies past explained =
          let one = meets past in
          (one.0, same ⊥ [] (reply_of make answer) (state_with (told old) past) (state_with (told new) one.0) (answer, refl, to_new ⊥ past one.0 one.1))

      over : IsTrue G.keeps_model → StepsOver s (reply_of make answer) (told old) (told new)
      over keeps past x = (past, same (Unit {0}) (told old).now (reply_of make answer) (state_with (told old) past) (state_with (told new) past) (answer, refl, to_new (Unit {0}) past past (held keeps past x)))

      leads : IsTrue G.keeps_model → Leads (reply_of make answer) (told old) (told new)
      leads keeps = read_replied old new make answer (reply_of make answer) quiet refl tables (reads.disk keeps)

      turned : Turns s (reply_of make answer) old new
      turned = turns (IsTrue G.keeps_model) s (reply_of make answer) (told old) (told new) replies over leads

  -- the start of a sync
  pub start_step : {moment : ℕ} {answer : Result Group PoolError} → (IsTrue G.keeps_model → (d : Dev) → length (bytes_of (G.disk d).now) ≡ G.size d)
      → StartsSync moment answer (shown old) (shown new) → (IsTrue G.keeps_model → StartsHeldOver moment answer (told old) (told new)) → (IsTrue G.keeps_model → Leads (start_reply answer) (told old) (told new))
      → OnErr answer (tables_of new ≡ tables_of old) → OnlyReadsOf answer old new → MakesStep (step.StartSync moment) (start_reply answer) old new
  start_step {moment} {answer} sized starts held leads unchanged reads = record {
    replied = replies;
    turns = turned;
    leads = leads;
    safe = λ keeps. start_keeps keeps old new moment answer (start_reply answer) refl (sized keeps) reads.size (reads.disk keeps) (same_run answer unchanged) (leads keeps) turned;
    calls = reads.disk;
    count = read_counts old new (λ (g : Group). reply.Syncing g) answer (λ g. refl) reads;
  }
    where
      same_run : (a : Result Group PoolError) → OnErr a (tables_of new ≡ tables_of old) → OnErr a (run_of new ≡ run_of old)
      same_run (Ok g) same = tt
      same_run (Err e) same = ap (λ (p : PoolTables). run_in p) same

      replies : StepReplies (step.StartSync moment) (start_reply answer) (shown old) (shown new)
      replies past explained =
          replied_with (λ answer later. steps.StartSync ⊥ [] moment answer (record { shown = shown old; past = past }) (record { shown = shown new; past = later }))
          group_number (λ (g : ℕ). reply.Syncing (record { 0 = g })) answer (start_reply answer) refl (starts past (explained refl))

      turned : Turns (step.StartSync moment) (start_reply answer) old new
      turned = turns (IsTrue G.keeps_model) (step.StartSync moment) (start_reply answer) (told old) (told new) replies (λ keeps. start_over old new (start_reply answer) moment answer (held keeps) refl) leads

  -- a step of one
  pub sync_step : (answer : Result Progress PoolError) → StepsSync answer (shown old) (shown new) → (IsTrue G.keeps_model → Leads (sync_step_reply answer) (told old) (told new))
      → (IsTrue G.keeps_model → StepsPhases answer (shown old).suspended (run_of old) (run_of new) (disk_of old) (disk_of new)) → CallsNext (plain_answer answer) old new → CountsRefused answer old new
      → MakesStep step.SyncStep (sync_step_reply answer) old new
  sync_step answer steps_on leads_on phases called counts = record {
    replied = replies;
    turns = turned;
    leads = leads_on;
    safe = λ keeps. sync_keeps keeps old new answer (sync_step_reply answer) refl (phases keeps) turned;
    calls = subst (λ (a : Result (Unit {0}) PoolError). CallsNext a old new) (sym (answer_in-sync_step answer)) called;
    count = counts ∙ sym (counted-sync_step answer (refused_calls old));
  }
    where
      replies : StepReplies step.SyncStep (sync_step_reply answer) (shown old) (shown new)
      replies past explained =
          replied_with (λ answer later. steps.SyncStep answer (record { shown = shown old; past = past }) (record { shown = shown new; past = later }))
          plain_progress progress_reply answer (sync_step_reply answer) refl (steps_on past)

      turned : Turns step.SyncStep (sync_step_reply answer) old new
      turned = any_turns (IsTrue G.keeps_model) step.SyncStep (sync_step_reply answer) (told old) (told new) refl replies leads_on

-- the name, which is never refused
pub name_step : {Dev : Type 0} {G : Ghosts Dev} {state : PoolState Dev G} (name : List ℕ) → name ≡ (shown state).contents.name → MakesStep step.Name (reply.Name name) state state
name_step name is =
    plain_step {s = step.Name} {Does = λ answer x y. Answers None answer x y (λ name. steps.Name name x y) steps.Never} {make = λ name. reply.Name name} {answer = Ok name}
    (λ r x y h. h) refl (λ b. refl) (λ r d. d) (λ past. (past, (is, refl))) (read_moves_nothing refl (record { device = refl; own = λ calls. refl }))

-- and whether a receipt is durable
pub durable_step : {Dev : Type 0} {G : Ghosts Dev} {state : PoolState Dev G} (receipt : Receipt) (durable : Bool) → durable ≡ is_durable (shown state) receipt.ordinal.0 receipt.group.0
    → MakesStep (step.Durable receipt) (reply.Durable durable) state state
durable_step receipt durable is =
    plain_step {s = step.Durable receipt} {Does = λ answer x y. Answers None answer x y (λ durable. steps.Durable receipt.ordinal.0 receipt.group.0 durable x y) steps.Never} {make = λ durable. reply.Durable durable}
    {answer = Ok durable} (λ r x y h. h) refl (λ b. refl) (λ r d. d) (λ past. (past, (is, refl))) (read_moves_nothing refl (record { device = refl; own = λ calls. refl }))

-- and the status
pub status_step : {Dev : Type 0} {G : Ghosts Dev} {state : PoolState Dev G} (status : Status) → status ≡ status_of (shown state) → MakesStep step.Status (reply.Status status) state state
status_step status is =
    plain_step {s = step.Status} {Does = λ answer x y. Answers None answer x y (λ status. steps.Status status x y) steps.Never} {make = λ status. reply.Status status} {answer = Ok status}
    (λ r x y h. h) refl (λ b. refl) (λ r d. d) (λ past. (past, (is, refl))) (read_moves_nothing refl (record { device = refl; own = λ calls. refl }))
