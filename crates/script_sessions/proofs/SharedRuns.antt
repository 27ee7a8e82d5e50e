-- What a pool under a lock keeps of its run follows from what its commands do.
use Rattle.std.proofs.Common.{◌≡◌, ◌∙◌, ℕ, List, [], ◌∷◌, ◌++◌, refl, sym, ap, subst}
use Rattle.std.specs.Prelude.{IsTrue, true}
use Rattle.std.proofs.Math.Logic.{∥∥₁_elim, ∥∥₁_map, ∥∥₁_prop}
use Rattle.base.proofs.steps.Additions.{runs_grow}
use Rattle.base.specs.declared.step.Step as declared_step
use Rattle.base.specs.declared.step.Reply as declared_reply
use Rattle.base.specs.disk.Disk.{Disk}
use Rattle.base.specs.history.Past.{Grows, Past}
use Rattle.base.specs.steps.Runs.{Run}
use Rattle.device_model.specs.MemState.{MemState}
use Rattle.mounted.specs.ShownMounted.{shown_of_import}
use Rattle.mounted.specs.declared.mounted.Mounted.{Mounted}
use Rattle.pool_core.specs.States.{device_of}
use Rattle.pool_threads.specs.Handles.{OpensBehind, opening_view, owned_of}
use Rattle.pool_threads.specs.Turns.{dated}
use Rattle.pool_threads.specs.Views.{CrashRule, GrowsTo, IsFollowed, SeenPool, grows_same, since, viewed_state}
use Rattle.pool_threads.specs.Views.CrashRule.{Behind}
use Rattle.base.specs.kept.LeftDisks.{IsLeft}
use Rattle.script_lines.specs.declared.command.PoolCommand.{PoolCommand}
use Rattle.script_sessions.proofs.Asked.{steps_grow}
use Rattle.scripts.proofs.CommandSteps.{by_command}
use Rattle.scripts.proofs.JoinedRuns.{runs_join}
use Rattle.script_sessions.specs.Callers.{AsksNext, LastOfMem, StepsTo}
use Rattle.script_sessions.specs.Plans.{plan_seen}
use Rattle.script_sessions.specs.SharedPools.{IsDeviceIn, IsMountShared, view_in}
use Rattle.script_sessions.specs.SharedRuns.{BeginsShared, GoesSafely, IsRunOf, StepsSafely}
use Rattle.script_sessions.specs.declared.shared_pool.SharedPool.{SharedPool}
use Rattle.word_lock.specs.Seats.{seen}

-- from one view to a later one the past grows, of a pool of whichever create
grows_since : (created : ℕ) (v w : SeenPool) → GrowsTo (IsTrue true) v w → ∥ Grows (since created v.past) (since created w.past) ∥₁
grows_since created v w onward = ∥∥₁_map onward.goes_on (λ r.
    let g : Grows v.past w.past = runs_grow r.0 r.1 (viewed_state v) (viewed_state w) r.2 in
    record {
      base = g.base;
      created = refl;
      dirty_max = g.dirty_max;
      entries = g.entries;
      grants = g.grants;
      let_go = g.let_go;
      admissions = g.admissions;
      aborted = g.aborted;
      acknowledged = g.acknowledged;
    })

followed_on : (created : ℕ) (a b : CrashRule) → a ≡ b → IsFollowed a created → IsFollowed b created
followed_on created a b is follows = subst (λ (r : CrashRule). IsFollowed r created) is follows

-- what a run has come to in a pool, it leaves on the device that is taken of the pool
pub run_left : (past : Past) (shared : SharedPool) (device : MemState) → IsRunOf past shared → IsDeviceIn shared device → ∥ IsLeft past device.disk ∥₁
run_left past shared device run is =
    let v = view_in shared in
    let rule = followed_on past.created v.rule (opening_view (owned_of shared.pool)).rule is.ends.onward.rule run.followed in
    ∥∥₁_map (is.ends.cuts refl past.created rule) (λ cuts.
    subst (λ (d : MemState). IsLeft past d.disk) (sym is.device_is) (subst (λ (p : Past). IsLeft p (device_of is.state).disk) run.seen_is cuts.left))

-- an import of what a run left begins one
pub begins_shared : (earlier : Past) (dirty_max : ℕ) (old left : Disk) (mounted : Mounted) (cache_blocks moment : ℕ) (shared : SharedPool) → IsLeft earlier old → (shown_of_import mounted).dirty_max ≡ dirty_max
    → IsMountShared old left mounted cache_blocks moment shared → BeginsShared earlier dirty_max shared
begins_shared earlier dirty_max old left mounted cache_blocks moment shared was limit m =
    let o : OpensBehind (IsTrue true) old dirty_max (view_in shared) =
    subst (λ (v : SeenPool). OpensBehind (IsTrue true) old dirty_max v) (sym m.first.seen) (subst (λ (n : ℕ). OpensBehind (IsTrue true) old n (opening_view (owned_of shared.pool))) limit m.opened) in
    record {
      base = (view_in shared).past.base;
      left = o.left refl earlier was;
      shows = o.shows;
      run = record {
        seen_is = ap (λ (p : Past). since earlier.created p) o.anew;
        followed = followed_on earlier.created (Behind old) (view_in shared).rule (sym o.rule) ∣ (earlier, refl, was) ∣₁;
      };
    }

-- between two views lie safe steps, of a pool whose create began at this moment
abbrev AreSafeSteps : ℕ → SeenPool → SeenPool → Type 0
AreSafeSteps created v w = (ss : List declared_step.Step) × (rs : List declared_reply.Reply) × Run (StepsSafely created) ss rs v w

-- so it is wherever the crash rule is followed before them, as it is after them
record GoOnSafely (v w : SeenPool) : Type 0 where
  rule : w.rule ≡ v.rule
  safe : (created : ℕ) → IsFollowed v.rule created → ∥ AreSafeSteps created v w ∥₁

none_safely : (v : SeenPool) → GoOnSafely v v
none_safely v = record { rule = refl; safe = λ created follows. ∣ ([], [], refl) ∣₁ }

more_safely : (u v w : SeenPool) → GoOnSafely u v → GoOnSafely v w → GoOnSafely u w
more_safely u v w x y = record {
  rule = y.rule ∙ x.rule;
  safe = λ created follows.
      ∥∥₁_elim (x.safe created follows) ∥∥₁_prop (λ p.
      ∥∥₁_map (y.safe created (followed_on created u.rule v.rule (sym x.rule) follows)) (λ q. (p.0 ++ q.0, p.1 ++ q.1, runs_join (StepsSafely created) p.0 q.0 p.1 q.1 u v w p.2 q.2)));
}

one_safely : (in_pool : ℕ) (s : declared_step.Step) (r : declared_reply.Reply) (v w : SeenPool) → StepsTo in_pool s r v w → GoOnSafely v w
one_safely in_pool s r v w made = record {
  rule = made.rule;
  safe = λ created follows. ∥∥₁_map (made.safe refl created follows) (λ one. (dated in_pool s ∷ [], r ∷ [], (w, one, refl)));
}

asked_safely : (in_pool : ℕ) (asked : PoolCommand) (moment : ℕ) (reply : declared_reply.Reply) (v w : SeenPool) → AsksNext in_pool asked moment reply v w → GoOnSafely v w
asked_safely in_pool asked moment reply v w made =
    by_command (StepsTo in_pool) GoOnSafely none_safely more_safely (λ s. Unit {0}) (λ s r a b it one. one_safely in_pool s r a b one) (λ s. tt) plan_seen asked moment reply v w made

-- the run of a pool goes on safely
module _ (past : Past) (old new : SharedPool) (run : IsRunOf past old) where
  goes_on : GoOnSafely (view_in old) (view_in new) → GrowsTo (IsTrue true) (view_in old) (view_in new) → ∥ GoesSafely past old new ∥₁
  goes_on safely grows =
      ∥∥₁_elim (safely.safe past.created run.followed) ∥∥₁_prop (λ s.
      ∥∥₁_map (grows_since past.created (view_in old) (view_in new) grows) (λ g. record {
        steps = s.0;
        replies = s.1;
        made = s.2;
        later = since past.created (view_in new).past;
        goes_on = subst (λ (p : Past). Grows p (since past.created (view_in new).past)) run.seen_is g;
        run = record { seen_is = refl; followed = followed_on past.created (view_in old).rule (view_in new).rule (sym safely.rule) run.followed };
      }))

  pub asked_on : (in_pool : ℕ) (asked : PoolCommand) (moment : ℕ) (reply : declared_reply.Reply) → AsksNext in_pool asked moment reply (view_in old) (view_in new) → ∥ GoesSafely past old new ∥₁
  asked_on in_pool asked moment reply next =
      goes_on (asked_safely in_pool asked moment reply (view_in old) (view_in new) next) (steps_grow in_pool plan_seen asked moment reply (view_in old) (view_in new) next)

  -- so it does if no step is made
  pub seen_still : new.last ≡ old.last → ∥ GoesSafely past old new ∥₁
  seen_still still =
      let same : view_in old ≡ view_in new = ap (λ (l : LastOfMem). seen l.seat) (sym still) in
      goes_on (subst (GoOnSafely (view_in old)) same (none_safely (view_in old))) (subst (GrowsTo (IsTrue true) (view_in old)) same (grows_same (IsTrue true) (view_in old)))
