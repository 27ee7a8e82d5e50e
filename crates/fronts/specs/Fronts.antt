-- What a crash leaves of a run whose groups rise with the ordinals: a front of its entries, and not only a cut.
use Rattle.std.specs.Prelude.{ℕ, ◌≡◌, ◌<◌, ◌≤◌, Bool, All, List, [], ◌∷◌, length, take, Ok}
use Rattle.base.specs.declared.names.Group.{Group}
use Rattle.base.specs.declared.names.Owner.{Owner}
use Rattle.base.specs.declared.names.Receipt.{Receipt}
use Rattle.base.specs.declared.names.TxId.{TxId}
use Rattle.base.specs.declared.operation.Op.{Op}
use Rattle.base.specs.declared.operation.Shape.{Shape}
use Rattle.base.specs.declared.step.Reply as declared_reply
use Rattle.base.specs.declared.step.Reply.TheVariants as reply
use Rattle.base.specs.declared.step.Step as declared_step
use Rattle.base.specs.declared.step.Step.TheVariants as step
use Rattle.base.specs.disk.Disk.{Disk}
use Rattle.base.specs.disk.Fairness.{LeavesFairNow}
use Rattle.base.specs.history.Contents.{Contents}
use Rattle.base.specs.history.History.{AreRising, Entry, IsFrontMarked, kept, left_marks, replay}
use Rattle.base.specs.history.Past.{Past}
use Rattle.base.specs.kept.CrashRule.{LeadsTo}
use Rattle.base.specs.steps.Exact.{AreGroupsExact, AreIsolated}
use Rattle.base.specs.steps.Explains.{AreSafe, IsLeftBy}
use Rattle.base.specs.steps.Runs.{Step}
use Rattle.base.specs.steps.Steps.{State}
use Rattle.base.specs.tree.Mount.{MountsTo}

-- the contents are the replay of the first entries, and every acknowledged one is among them
pub record IsFrontOf (past : Past) (contents : Contents) : Type 0 where
  pub count : ℕ
  pub within : count ≤ length past.entries
  pub acknowledged : All (λ (k : ℕ). k < count) past.acknowledged
  pub replayed : replay (take count past.entries) past.base ≡ Ok contents

-- an image mounts to such contents
pub record MountsToFront (image : List ℕ) (past : Past) : Type 0 where
  pub contents : Contents
  pub left : IsFrontOf past contents
  pub mounts : MountsTo image contents

-- marks with nothing unmarked before a marked one keep the first entries
abbrev pub MarkedFrontsAreFirst : Type 0
MarkedFrontsAreFirst = (marks : List Bool) (entries : List Entry) → length marks ≡ length entries → IsFrontMarked marks
    → (count : ℕ) × (count ≤ length entries) × (kept marks entries ≡ take count entries)

-- where groups rise, what a crash leaves of a run is a front
abbrev pub CutsAreFronts : Type 0
CutsAreFronts = (past : Past) (contents : Contents) → AreRising past.entries → IsLeftBy past contents → IsFrontOf past contents

-- and each front is all that is promised of what a crash leaves: a cut with every acknowledged entry
abbrev pub FrontsAreCuts : Type 0
FrontsAreCuts = (past : Past) (contents : Contents) → IsFrontOf past contents → IsLeftBy past contents

-- so wherever every fair image of a crash mounts a cut, it mounts a front if groups rise
abbrev pub SafeDisksLeaveFronts : Type 0
SafeDisksLeaveFronts = (disk : Disk) (past : Past) → AreRising past.entries → AreSafe disk past → LeavesFairNow disk past.created (λ image. MountsToFront image past)

-- runs one upon the other: each begins with the front that the one before left, and the last leaves these contents
abbrev pub LeadsByFronts : Contents → List Past → Contents → Type 0
LeadsByFronts first [] last = last ≡ first
LeadsByFronts first (past ∷ pasts) last = (past.base ≡ first) × ((left : Contents) × IsFrontOf past left × LeadsByFronts left pasts last)

-- so it is of rounds with crashes between them, if groups rise in each
abbrev pub RoundsLeadByFronts : Type 0
RoundsLeadByFronts = (first last : Contents) (pasts : List Past) → All (λ (past : Past). AreRising past.entries) pasts → LeadsTo first pasts last → LeadsByFronts first pasts last

-- The premise is needed: if the tree of each group leaves a front without a log, groups rise.
abbrev pub FrontsNeedRising : Type 0
FrontsNeedRising = (entries : List Entry) → ((synced : ℕ) → IsFrontMarked (left_marks synced 0 entries)) → AreRising entries

-- a commit with this reply goes into the group that is open; other steps, and refused commits, go into none
abbrev pub GoesIntoOpen : declared_step.Step → declared_reply.Reply → State → Type 0
GoesIntoOpen (step.Commit tx ops) (reply.Committed receipt) s = receipt.group.0 ≡ s.shown.line.open_group
GoesIntoOpen _ _ s = Unit {0}

-- each step keeps groups rising that commits nothing into a closed group
abbrev pub StepsKeepRising : Type 0
StepsKeepRising = (now : List ℕ) (s : declared_step.Step) (r : declared_reply.Reply) (old new : State) → Step ⊥ now s r old new
    → AreIsolated old.shown old.past → GoesIntoOpen s r old → AreRising old.past.entries → AreRising new.past.entries

-- a transaction that begins and commits with no step between goes into the open group, and keeps groups rising
abbrev pub TurnsKeepRising : Type 0
TurnsKeepRising = (now later : List ℕ) (owner : Owner) (plan : List Shape) (tx : TxId) (group : Group) (ops : List Op) (receipt : Receipt) (old mid new : State)
    → Step ⊥ now (step.Begin owner plan) (reply.Began tx group) old mid → Step ⊥ later (step.Commit tx ops) (reply.Committed receipt) mid new
    → AreGroupsExact old.shown old.past → AreGroupsExact new.shown new.past → AreIsolated old.shown old.past
    → (receipt.group.0 ≡ old.shown.line.open_group) × (AreRising old.past.entries → AreRising new.past.entries)
