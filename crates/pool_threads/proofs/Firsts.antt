-- A pool that an import gave is explained by a past in which nothing happened.
use Rattle.std.proofs.Common.{◌≡◌, ◌∙◌, ℕ, ap, refl, sym, subst}
use Rattle.std.specs.Prelude.{IfErr, IfOk, IsTrue, Result, Ok, Err}
use Rattle.std.proofs.Math.Logic.{∥∥₁_elim, ∥∥₁_map, ∥∥₁_prop}
use Rattle.base.specs.declared.error.PoolError.{PoolError}
use Rattle.base.specs.declared.error.PoolError.TheVariants.{NoMemory}
use Rattle.base.specs.disk.Disk.{Disk, disk_size}
use Rattle.base.specs.history.Contents.{Contents}
use Rattle.base.specs.history.Past.{Past, new_past}
use Rattle.base.specs.steps.Explains.{IsLeftBy}
use Rattle.mounted.specs.ShownMounted.{shown_of_import}
use Rattle.mounted.specs.declared.mounted.Mounted.{Mounted}
use Rattle.contents.specs.ContentsShown.{contents_of}
use Rattle.pool_core.specs.KeptSafe.{BeginsSafe, IsKeptSafe, disk_of, on_disk}
use Rattle.base.proofs.crash.LeftDisks.{left_flushed}
use Rattle.pool_core.proofs.crash.LeftDisks.{safe_at_first}
use Rattle.base.specs.steps.Shown.{Shown}
use Rattle.device_model.specs.declared.device.SectorDevice.{Ghosts}
use Rattle.pool_core.specs.declared.state.PoolState.{PoolState}
use Rattle.pool_core.specs.NewStates.{IsExplainedAtFirst, IsHeldAtFirst, first_past}
use Rattle.pool_core.specs.States.{cache_room_of, device_of, shown, told}
use Rattle.pool_threads.proofs.FreePools.{free_explained}
use Rattle.pool_threads.specs.Handles.{IsReadyToOpen, OpensBehind, ShowsMounted, StartsBehind}
use Rattle.pool_threads.specs.Views.{CrashRule, Explains, SeenPool, view_behind_disk, view_of}
use Rattle.pool_threads.specs.Views.CrashRule.{NotFollowed}
use Rattle.base.specs.kept.LeftDisks.{IsLeft}

-- what is so of an answer, as far as it says more
pub if_ok : {A E : Type 0} (P Q : A → Type 0) (r : Result A E) → IfOk r P → ((a : A) → P a → Q a) → IfOk r Q
if_ok P Q (Ok a) h more = more a h
if_ok P Q (Err e) h more = tt

pub if_err : {A E : Type 0} (P Q : E → Type 0) (r : Result A E) → IfErr r P → ((e : E) → P e → Q e) → IfErr r Q
if_err P Q (Ok a) h more = tt
if_err P Q (Err e) h more = more e h

module _ {Dev : Type 0} {G : Ghosts Dev} (p : PoolState Dev G) where
  pub explained_at_first : ∥ IsExplainedAtFirst (shown p) ∥₁ → ∥ (IsTrue G.keeps_model → IsHeldAtFirst (told p)) ∥₁ → Explains p (view_of p (first_past (shown p) 0) NotFollowed)
  explained_at_first explained held = record {
    state = refl;
    disk_is = refl;
    explained = ∥∥₁_map explained (λ x. x 0);
    held = λ keeps. ∥∥₁_map held (λ x. x keeps 0);
    safe = λ keeps created no. absurd no;
  }

  -- a view of this state shows it
  pub shows_mounted : (past : Past) (rule : CrashRule) (m : Mounted) (cache_blocks : ℕ) (d : Dev) (v : SeenPool) → v ≡ view_of p past rule → shown p ≡ shown_of_import m → cache_room_of p ≡ cache_blocks → device_of p ≡ d
      → ShowsMounted m cache_blocks (G.disk d) v
  shows_mounted past rule m cache_blocks d v is same room device = record {
    shown = ap (λ (u : SeenPool). u.shown) is ∙ same;
    cache_is = ap (λ (u : SeenPool). u.cache_room) is ∙ room;
    disk_is = ap (λ (u : SeenPool). u.disk) is ∙ ap G.disk device;
  }

  -- a pool that was not shared comes back with its device, and shows the same
  pub comes_back : (d : Dev) (s : Shown) (e : PoolError × PoolState Dev G) → device_of p ≡ d → shown p ≡ s → (e.0 ≡ NoMemory) × (e.1 ≡ p) → (e.0 ≡ NoMemory) × (device_of e.1 ≡ d) × (shown e.1 ≡ s)
  comes_back d s e device shows given = (given.0, ap (λ (q : PoolState Dev G). device_of q) given.1 ∙ device, ap (λ (q : PoolState Dev G). shown q) given.1 ∙ shows)

-- A pool that was imported from a disk goes on after whichever run left that.
module _ {Dev : Type 0} {G : Ghosts Dev} (old : Disk) (m : Mounted) (p : PoolState Dev G) (starts : IsTrue G.keeps_model → StartsBehind old m (disk_of p)) (shows : shown p ≡ shown_of_import m) where
  abbrev limit_of : Mounted → ℕ
  limit_of n = (shown_of_import n).dirty_max

  abbrev behind : SeenPool
  behind = view_behind_disk p old

  module _ (keeps : IsTrue G.keeps_model) (sized : disk_size (disk_of p) ≡ m.geometry) (begins : BeginsSafe p) (held : IsHeldAtFirst (told p)) where
    safe_behind : (created : ℕ) → ((past : Past) × (past.created ≡ created) × IsLeft past old) → IsKeptSafe (on_disk p (first_past (shown p) created))
    safe_behind created (past, same, was) =
        subst (λ (c : ℕ). IsKeptSafe (on_disk p (first_past (shown p) c))) same
        (safe_at_first keeps (limit_of m) past old m p was (starts keeps).own (starts keeps).starts shows refl sized held begins)

  explained_behind : (IsTrue G.keeps_model → disk_size (disk_of p) ≡ m.geometry) → BeginsSafe p → ∥ IsExplainedAtFirst (shown p) ∥₁ → ∥ (IsTrue G.keeps_model → IsHeldAtFirst (told p)) ∥₁ → Explains p behind
  explained_behind sized begins explained held = record {
    state = refl;
    disk_is = refl;
    explained = ∥∥₁_map explained (λ x. x 0);
    held = λ keeps. ∥∥₁_map held (λ x. x keeps 0);
    safe = λ keeps created follows. ∥∥₁_elim follows ∥∥₁_prop (λ run. ∥∥₁_map held (λ x. safe_behind keeps (sized keeps) begins (x keeps) created run));
  }

  first_contents : (shown p).contents ≡ contents_of m.contents
  first_contents = ap (λ (s : Shown). s.contents) shows

  opens : Explains p behind → OpensBehind (IsTrue G.keeps_model) old (limit_of m) behind
  opens explains = record {
    rule = refl;
    anew = ap (λ (n : ℕ). new_past (shown p).contents 0 n) (ap (λ (s : Shown). s.dirty_max) shows);
    shows = refl;
    left = λ keeps past was.
        let f = left_flushed past old was in
        let start = (starts keeps).starts past.created f.guid f.contents f.own in
        subst (λ (c : Contents). IsLeftBy past c) (sym (first_contents ∙ start.contents_are)) f.left;
    explained = λ keeps created follows. free_explained p behind created explains keeps follows;
  }

  -- so it is ready to be opened
  pub ready_behind : (cache_blocks : ℕ) → cache_room_of p ≡ cache_blocks → (d : Dev) → device_of p ≡ d → (IsTrue G.keeps_model → disk_size (disk_of p) ≡ m.geometry) → BeginsSafe p → ∥ IsExplainedAtFirst (shown p) ∥₁ → ∥ (IsTrue G.keeps_model → IsHeldAtFirst (told p)) ∥₁
      → IsReadyToOpen old m cache_blocks d p
  ready_behind cache_blocks room d device sized begins explained held = record {
    explains = explained_behind sized begins explained held;
    opens = opens (explained_behind sized begins explained held);
    shown_is = shows;
    cache_is = room;
    device_is = device;
  }
