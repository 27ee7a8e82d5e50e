-- What each step keeps: what is shown of a pool is exact, and its entries are a history that leads to its contents.
use Rattle.std.specs.Prelude.{ℕ, ◌≡◌, ◌≤◌, ◌+◌, List, Option, Some}
use Rattle.base.specs.declared.step.Step as declared_step
use Rattle.base.specs.declared.step.Reply as declared_reply
use Rattle.base.specs.formats.Limits.{last_number}
use Rattle.base.specs.history.Contents.{Contents}
use Rattle.base.specs.history.History.{IsHistory}
use Rattle.base.specs.formats.Uberblocks.{Uberblock}
use Rattle.base.specs.history.Past.{Past, new_past}
use Rattle.base.specs.steps.Shown.{Shown, SyncPlan, length_at}
use Rattle.base.specs.steps.Steps.{State, AreLengthsOf, IsReplayUpTo}
use Rattle.base.specs.steps.Runs.{Step, Run}
use Rattle.base.specs.steps.Exact.{IsExact, IsBounded}
use Rattle.base.specs.kept.Imports.{IsImported}

-- contents are what the entries up to a group leave, within the limits, and these are the lengths of their objects
pub record IsTreeOf (group : ℕ) (past : Past) (c : Contents) (by_object : List (Option ℕ)) : Type 0 where
  pub replayed : IsReplayUpTo group past c
  pub bounded : IsBounded c
  pub lengths : AreLengthsOf c (length_at by_object)

-- the contents of the synced tree are those of the synced group, and those that a running sync writes are those of its
-- group
pub record AreTreesExact (s : Shown) (past : Past) : Type 0 where
  pub synced : IsTreeOf s.line.synced past s.synced_contents s.lengths
  pub planned : (group : ℕ) (plan : SyncPlan) → s.line.syncing ≡ Some group → s.sync ≡ Some plan → IsTreeOf group past plan.contents plan.lengths

-- what is shown is exactly what the past of the run says, and the entries are a history that leads to the contents
pub record AreTablesExplained (s : Shown) (past : Past) : Type 0 where
  pub exact : IsExact s past
  pub history : IsHistory past.entries past.base s.contents
  pub trees : AreTreesExact s past

-- steps one after another, each over some bytes of a device
abbrev pub IsRun : Type 0 → List declared_step.Step → List declared_reply.Reply → State → State → Type 0
IsRun keeps = Run (λ step reply old new. (now : List ℕ) × Step keeps now step reply old new)

-- some steps with some replies lead from the one state to the other, over devices of which nothing is known
abbrev pub GoesOn : State → State → Type 0
GoesOn before after = (steps : List declared_step.Step) × (replies : List declared_reply.Reply) × IsRun ⊥ steps replies before after

-- each step keeps this, over a device of which nothing is known: the steps over a device that keeps the disk model are
-- among these
abbrev pub StepsKeepTables : Type 0
StepsKeepTables = (now : List ℕ) (step : declared_step.Step) (reply : declared_reply.Reply) (old new : State) → Step ⊥ now step reply old new
    → AreTablesExplained old.shown old.past → AreTablesExplained new.shown new.past

-- and so do steps one after another
abbrev pub RunsKeepTables : Type 0
RunsKeepTables = (steps : List declared_step.Step) (replies : List declared_reply.Reply) (old new : State) → IsRun ⊥ steps replies old new
    → AreTablesExplained old.shown old.past → AreTablesExplained new.shown new.past

-- a pool that was just imported is so, with the empty past
abbrev pub NewPoolsAreExplained : Type 0
NewPoolsAreExplained = (u : Uberblock) (blocks : ℕ) (contents : Contents) (created dirty_max : ℕ) (s : Shown) → IsImported u blocks contents dirty_max s → IsBounded contents
    → u.group + 5 ≤ last_number → AreTablesExplained s (new_past contents created dirty_max)
