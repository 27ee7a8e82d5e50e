-- What a crash leaves at each moment from one view of a pool to a later one, if groups rise.
use Rattle.std.proofs.Common.{◌≡◌, ◌+◌, ◌<◌, ◌≤◌, ◌∷◌, [], ℕ, zero, suc, List, ap, arith, false, length, length-append, refl, subst, sym, take, true, ◌==◌, ◌⊎◌, inl, inr, ◌∙◌}
use Rattle.std.specs.Prelude.{All, Bool, IsTrue, None, Some, slice_get}
use Rattle.std.proofs.Math.Logic.{∥∥₁_elim, ∥∥₁_map, ∥∥₁_prop}
use Rattle.std.proofs.lemmas.Bool.{eq-eqb, eqb-true, false≢true, or_cases, or_left, or_right, true≢false}
use Rattle.std.proofs.lemmas.List.{take-append-le}
use Rattle.std.proofs.lemmas.List.Elements.{All-head, All-tail}
use Rattle.base.specs.declared.names.Group.{Group}
use Rattle.base.specs.declared.names.Owner.{Owner}
use Rattle.base.specs.declared.names.Receipt.{Receipt}
use Rattle.base.specs.declared.names.TxId.{TxId}
use Rattle.base.specs.declared.operation.Op.{Op}
use Rattle.base.specs.declared.operation.Shape.{Shape}
use Rattle.base.specs.declared.step.Reply as declared_reply
use Rattle.base.specs.declared.step.Reply.TheVariants as reply
use Rattle.base.specs.declared.step.Step as declared_step
use Rattle.base.specs.declared.step.Step.TheVariants as step
use Rattle.base.specs.disk.Disk.{Disk, EachMoment, Moment, disk_size}
use Rattle.base.specs.disk.Fairness.{LeavesFair}
use Rattle.base.specs.history.Contents.{Contents}
use Rattle.base.specs.history.History.{AreRising, Entry, replay}
use Rattle.base.specs.history.Past.{Grows, IsPrefixOf, Past}
use Rattle.base.specs.steps.Locks.{is_in}
use Rattle.base.specs.steps.Steps.{State}
use Rattle.base.proofs.common.KeptLists.{All-each, Some-injective}
use Rattle.base.proofs.disk.Moments.{joins, latest, starts, weaker}
use Rattle.base.proofs.steps.Additions.{told_past}
use Rattle.base.proofs.steps.KeptTables.{steps_keep_tables}
use Rattle.base.proofs.steps.SeenStates.{grown}
use Rattle.pool_threads.specs.Views.{CrashRule, GrowsTo, IsFollowed, IsPoolStep, SeenPool, grows_onward, grows_same, past_between, since, viewed_state}
use Rattle.pool_threads.proofs.SafeTurns.{stepped_explained, stepped_safe}
use Rattle.pool_threads.proofs.Turned.{grows_by_one}
use Rattle.fronts.specs.Fronts.{GoesIntoOpen, IsFrontOf, MountsToFront}
use Rattle.fronts.specs.RisingPools.{IsInOrder, LeavesFronts, LeavesFrontsBetween, PoolStepsKeepRising, Rises, SteppedPoolsLeaveFronts, is_commit}
use Rattle.fronts.proofs.Fronts.{mounts_front, safe_disks_leave_fronts}
use Rattle.fronts.proofs.RisingSteps.{steps_keep_rising, turns_keep_rising}

-- a front of a list is one of a list that goes on
front_on : (p q : Past) (c : Contents) → q.base ≡ p.base → IsPrefixOf p.entries q.entries → q.acknowledged ≡ p.acknowledged → IsFrontOf p c → IsFrontOf q c
front_on p q c base (rest, entries) same f = record {
  count = f.count;
  within = let low : f.count ≤ length p.entries = f.within in let long : length q.entries ≡ length p.entries + length rest = ap length entries ∙ length-append p.entries rest in omega (arith, low, long);
  acknowledged = subst (λ (ks : List ℕ). All (λ (k : ℕ). k < f.count) ks) (sym same) f.acknowledged;
  replayed = ap (λ (es : List Entry). replay (take f.count es) q.base) entries
      ∙ ap (λ (es : List Entry). replay es q.base) (take-append-le f.count p.entries rest f.within)
      ∙ ap (λ (b : Contents). replay (take f.count p.entries) b) base
      ∙ f.replayed;
}

-- each acknowledged entry is among so many
pub known_below : (n : ℕ) (ks : List ℕ) (o : ℕ) → All (λ (k : ℕ). k < n) ks → is_in o ks ≡ true → o < n
known_below n [] o all is = absurd (false≢true is)
known_below n (k ∷ ks) o all is = by (known_below n ks o (All-tail (λ (k : ℕ). k < n) k ks all)) (or_cases (o == k) (is_in o ks) is)
  where
    by : (is_in o ks ≡ true → o < n) → ((o == k) ≡ true) ⊎ (is_in o ks ≡ true) → o < n
    by rest (inl same) = subst (λ (x : ℕ). x < n) (sym (eqb-true o k same)) (All-head (λ (k : ℕ). k < n) k ks all)
    by rest (inr later) = rest later

is_in-at : (ks : List ℕ) (i o : ℕ) → slice_get ks i ≡ Some o → is_in o ks ≡ true
is_in-at [] i o at = absurd (let no_way : None ≡ Some o = at in cc)
is_in-at (k ∷ ks) zero o at = or_left (o == k) (is_in o ks) (eq-eqb o k (sym (Some-injective at)))
is_in-at (k ∷ ks) (suc i) o at = or_right (o == k) (is_in o ks) (is_in-at ks i o at)

-- it has fewer acknowledged entries, too
front_of_fewer : (p : Past) (ks : List ℕ) (c : Contents) → ((o : ℕ) → is_in o ks ≡ true → is_in o p.acknowledged ≡ true) → IsFrontOf p c → IsFrontOf (record p { acknowledged = ks }) c
front_of_fewer p ks c fewer f = record {
  count = f.count;
  within = f.within;
  acknowledged = All-each (λ (k : ℕ). k < f.count) ks (λ i o at. known_below f.count p.acknowledged o f.acknowledged (fewer o (is_in-at ks i o at)));
  replayed = f.replayed;
}

mounts_weaker : (p q : Past) → ((c : Contents) → IsFrontOf p c → IsFrontOf q c) → (image : List ℕ) → MountsToFront image p → MountsToFront image q
mounts_weaker p q weak image m = record { contents = m.contents; left = weak m.contents m.left; mounts = m.mounts }

fair_weaker : (size t : ℕ) (P Q : List ℕ → Type 0) → ((image : List ℕ) → P image → Q image) → (m : Moment) → LeavesFair size t P m → LeavesFair size t Q m
fair_weaker size t P Q weak m here = record { bytes = here.bytes; each = λ image may fair. weak image (here.each image may fair) }

-- at each moment from the one disk to the other a crash leaves a front of this past
abbrev Between : ℕ → Past → Disk → Disk → Type 0
Between created past old new = EachMoment (LeavesFair (disk_size old) created (λ image. MountsToFront image past)) old new

between_weaker : (created : ℕ) (p q : Past) (old new : Disk) → ((c : Contents) → IsFrontOf p c → IsFrontOf q c) → Between created p old new → Between created q old new
between_weaker created p q old new weak each =
    weaker (LeavesFair (disk_size old) created (λ image. MountsToFront image p)) (LeavesFair (disk_size old) created (λ image. MountsToFront image q)) old new
    (fair_weaker (disk_size old) created (λ image. MountsToFront image p) (λ image. MountsToFront image q) (mounts_weaker p q weak)) each

between_on : (created : ℕ) (past : Past) (old mid new : Disk) → Between created past old mid → Between created past mid new → Between created past old new
between_on created past old mid new first later =
    let P : ℕ → Moment → Type 0 = λ size. LeavesFair size created (λ image. MountsToFront image past) in
    let size : disk_size mid ≡ disk_size old = (latest (P (disk_size old)) old mid first).bytes.size_is in
    joins (P (disk_size old)) old mid new first (subst (λ (n : ℕ). EachMoment (P n) mid new) size later)

-- at one moment
fronts_here : (created : ℕ) (v : SeenPool) → LeavesFronts created v → LeavesFrontsBetween created v v
fronts_here created v here = starts (LeavesFair (disk_size v.disk) created (λ image. MountsToFront image (past_between created v v))) v.disk here

-- from the first view to the second, and from there to the third
pub fronts_on : (created : ℕ) (u v w : SeenPool) → Grows u.past v.past → Grows v.past w.past → LeavesFrontsBetween created u v → LeavesFrontsBetween created v w → LeavesFrontsBetween created u w
fronts_on created u v w before after first later =
    between_on created (past_between created u w) u.disk v.disk w.disk
    (between_weaker created (past_between created u v) (past_between created u w) u.disk v.disk (λ c f. front_on (past_between created u v) (past_between created u w) c after.base after.entries refl f) first)
    (between_weaker created (past_between created v w) (past_between created u w) v.disk w.disk (λ c f. front_of_fewer (past_between created v w) u.past.acknowledged c before.acknowledged f) later)

pub stepped_pools_leave_fronts : SteppedPoolsLeaveFronts
stepped_pools_leave_fronts keeps s r v w created one k follows rising =
    ∥∥₁_elim rising ∥∥₁_prop (λ up.
    ∥∥₁_map {B = LeavesFrontsBetween created v w} (stepped_safe keeps s r v w created one k follows) (λ safe.
    weaker _ (LeavesFair (disk_size v.disk) created (λ image. MountsToFront image (past_between created v w))) v.disk w.disk
    (fair_weaker (disk_size v.disk) created _ (λ image. MountsToFront image (past_between created v w)) (mounts_front (past_between created v w) up)) safe))

-- and so does one now, after the step
fronts_after : (keeps : Bool) (s : declared_step.Step) (r : declared_reply.Reply) (v w : SeenPool) (created : ℕ) → IsPoolStep (IsTrue keeps) s r v w → IsTrue keeps → IsFollowed w.rule created → Rises w → ∥ LeavesFronts created w ∥₁
fronts_after keeps s r v w created one k follows rising =
    ∥∥₁_elim rising ∥∥₁_prop (λ up.
    ∥∥₁_map {B = LeavesFronts created w} (stepped_explained keeps s r v w created one k (subst (λ (rule : CrashRule). IsFollowed rule created) one.rule follows)) (λ x. safe_disks_leave_fronts w.disk (since created w.past) up (x.safe tt)))

pub pool_steps_keep_rising : PoolStepsKeepRising
pool_steps_keep_rising keeps s r v w made into rising =
    ∥∥₁_elim made.explained ∥∥₁_prop (λ x.
    ∥∥₁_elim made.step ∥∥₁_prop (λ one.
    ∥∥₁_map {B = AreRising w.past.entries} rising (λ rises. steps_keep_rising [] s r (viewed_state v) (viewed_state w) one x.exact.isolated into rises)))

into_none : (s : declared_step.Step) (r : declared_reply.Reply) (t : State) → is_commit s r ≡ false → GoesIntoOpen s r t
into_none (step.Commit tx ops) (reply.Committed receipt) t none = absurd (true≢false none)
into_none _ _ t none = tt

module _ (keeps : Bool) where
  -- It is so later on, too, and a crash at any moment between leaves a front.
  pub record Leads (v w : SeenPool) : Type 0 where
    pub onward : GrowsTo (IsTrue keeps) v w
    pub sound : IsInOrder keeps v → IsInOrder keeps w
    pub between : IsInOrder keeps v → IsTrue keeps → (created : ℕ) → IsFollowed v.rule created → ∥ LeavesFrontsBetween created v w ∥₁

  pub leads_same : (v w : SeenPool) → w ≡ v → Leads v w
  leads_same v w same = subst (λ (u : SeenPool). Leads v u) (sym same) (record {
    onward = grows_same (IsTrue keeps) v;
    sound = λ x. x;
    between = λ x k created follows. ∥∥₁_map {B = LeavesFrontsBetween created v v} (x.fronts k created follows) (fronts_here created v);
  })

  pub leads_on : (u v w : SeenPool) → Leads u v → Leads v w → Leads u w
  leads_on u v w first later = record {
    onward = grows_onward (IsTrue keeps) u v w first.onward later.onward;
    sound = λ x. later.sound (first.sound x);
    between = λ x k created follows.
        let follows_then : IsFollowed v.rule created = subst (λ (rule : CrashRule). IsFollowed rule created) (sym first.onward.rule) follows in
        ∥∥₁_elim first.onward.goes_on ∥∥₁_prop (λ before.
        ∥∥₁_elim later.onward.goes_on ∥∥₁_prop (λ after.
        ∥∥₁_elim (first.between x k created follows) ∥∥₁_prop (λ one.
        ∥∥₁_map {B = LeavesFrontsBetween created u w} (later.between (first.sound x) k created follows_then)
        (λ more. fronts_on created u v w (grown (viewed_state u) (viewed_state v) before) (grown (viewed_state v) (viewed_state w) after) one more))));
  }

  -- a step leads so that keeps groups rising
  leads_by : (s : declared_step.Step) (r : declared_reply.Reply) (v w : SeenPool) → (Rises v → Rises w) → IsPoolStep (IsTrue keeps) s r v w → Leads v w
  leads_by s r v w up one = record {
    onward = grows_by_one (IsTrue keeps) s r v v w refl one;
    sound = λ x. record { rising = up x.rising; fronts = λ k created follows. fronts_after keeps s r v w created one k follows (up x.rising) };
    between = λ x k created follows. stepped_pools_leave_fronts keeps s r v w created one k follows (up x.rising);
  }

  pub rises_by_step : (s : declared_step.Step) (r : declared_reply.Reply) (v w : SeenPool) → is_commit s r ≡ false → IsPoolStep (IsTrue keeps) s r v w → Rises v → Rises w
  rises_by_step s r v w none one = pool_steps_keep_rising keeps s r v w one (into_none s r (viewed_state v) none)

  pub leads_by_step : (s : declared_step.Step) (r : declared_reply.Reply) (v w : SeenPool) → is_commit s r ≡ false → IsPoolStep (IsTrue keeps) s r v w → Leads v w
  leads_by_step s r v w none one = leads_by s r v w (rises_by_step s r v w none one) one

  module _ (owner : Owner) (plan : List Shape) (tx : TxId) (group : Group) (ops : List Op) (receipt : Receipt) (v m w : SeenPool)
      (begins : IsPoolStep (IsTrue keeps) (step.Begin owner plan) (reply.Began tx group) v m) (ends : IsPoolStep (IsTrue keeps) (step.Commit tx ops) (reply.Committed receipt) m w) where
    -- between the begin and the commit no step closes the group
    pub commit_rises : Rises m → Rises w
    commit_rises rising =
        ∥∥₁_elim begins.explained ∥∥₁_prop (λ x.
        ∥∥₁_elim ends.explained ∥∥₁_prop (λ y.
        ∥∥₁_elim begins.step ∥∥₁_prop (λ first.
        ∥∥₁_elim ends.step ∥∥₁_prop (λ second.
        let z = steps_keep_tables ⊥ [] (step.Commit tx ops) (reply.Committed receipt) (viewed_state m) (viewed_state w) second y in
        let same : m.past.entries ≡ v.past.entries = ap (λ (p : Past). p.entries) (told_past ⊥ [] (step.Begin owner plan) (reply.Began tx group) (viewed_state v) (viewed_state m) first) in
        ∥∥₁_map {B = AreRising w.past.entries} rising
        (λ rises. (turns_keep_rising [] [] owner plan tx group ops receipt (viewed_state v) (viewed_state m) (viewed_state w) first second x.exact.groups z.exact.groups x.exact.isolated).1 (subst AreRising same rises))))))

    pub leads_by_commit : Leads v w
    leads_by_commit =
        leads_on v m w (leads_by_step (step.Begin owner plan) (reply.Began tx group) v m refl begins) (leads_by (step.Commit tx ops) (reply.Committed receipt) m w commit_rises ends)
