-- Which steps keep groups rising with the ordinals: all but a commit into a closed group.
use Rattle.std.proofs.Common.{◌≡◌, ◌≤◌, ℕ, List, [], ◌∷◌, ◌++◌, arith, get_or, length, map, ap, sym, subst, ◌∙◌}
use Rattle.std.specs.Prelude.{Option, Some, None, Ok, Err, slice_get}
use Rattle.std.proofs.lemmas.List.Quantifiers.{all_pairs_push}
use Rattle.base.specs.declared.error.PoolError.{PoolError}
use Rattle.base.specs.declared.names.Group.{Group}
use Rattle.base.specs.declared.names.Owner.{Owner}
use Rattle.base.specs.declared.names.TxId.{TxId}
use Rattle.base.specs.declared.operation.Shape.{Shape}
use Rattle.base.specs.declared.step.Reply as declared_reply
use Rattle.base.specs.declared.step.Reply.TheVariants as reply
use Rattle.base.specs.declared.step.Step as declared_step
use Rattle.base.specs.declared.step.Step.TheVariants as step
use Rattle.base.specs.history.History.{Admitted, AreAdmitted, AreRising, Entry}
use Rattle.base.specs.history.Past.{Past}
use Rattle.base.specs.steps.Additions.{past_after}
use Rattle.base.specs.steps.Exact.{AreIsolated}
use Rattle.base.specs.steps.Groups.{Admission, admitted_of}
use Rattle.base.specs.steps.Refusals as refusal
use Rattle.base.specs.steps.Runs.{Step}
use Rattle.base.specs.steps.Steps as steps
use Rattle.base.specs.steps.Steps.{State, Answers, WantsMemory}
use Rattle.base.proofs.common.KeptLists.{Some-injective, at_last}
use Rattle.base.proofs.steps.Additions.{told_past}
use Rattle.fronts.specs.Fronts.{GoesIntoOpen, StepsKeepRising, TurnsKeepRising}

-- an entry of the group that fills is of no lower group than any before it, whatever else is open
open_commits_rise : (entries : List Entry) (filling : ℕ) (admitted : List Admitted) (next : Entry) → AreAdmitted entries filling admitted → next.group ≡ filling → AreRising entries → AreRising (entries ++ next ∷ [])
open_commits_rise entries filling admitted next are of_filling rising =
    all_pairs_push (λ (e f : Entry). e.group ≤ f.group) entries next rising (λ k d l.
    let low : (get_or entries k d).group ≤ filling = are.committed k d l in
    omega (arith, low, of_filling))

-- what a step adds to the entries: nothing, or the entry of a commit
entries_rise : (s : declared_step.Step) (r : declared_reply.Reply) (old : State) → AreIsolated old.shown old.past → GoesIntoOpen s r old → AreRising old.past.entries → AreRising (past_after s r old).entries
entries_rise (step.Commit tx ops) (reply.Committed receipt) old isolated into rising =
    open_commits_rise old.past.entries old.shown.line.open_group (map admitted_of old.shown.transactions) (record { group = receipt.group.0; tx = tx.0; ops = ops }) isolated.admitted into rising
entries_rise (step.Lock owner n range mode) (reply.Locked id) old isolated into rising = rising
entries_rise (step.LockAppend owner n) (reply.Appended id range) old isolated into rising = rising
entries_rise (step.Unlock owner id) reply.Done old isolated into rising = rising
entries_rise (step.Begin owner plan) (reply.Began tx group) old isolated into rising = rising
entries_rise (step.Abort tx) reply.Done old isolated into rising = rising
entries_rise step.SyncStep (reply.Synced group) old isolated into rising = rising
entries_rise step.LogFlush reply.Flushed old isolated into rising = rising
entries_rise _ _ old isolated into rising = rising

pub steps_keep_rising : StepsKeepRising
steps_keep_rising now s r old new is isolated into rising =
    subst (λ (p : Past). AreRising p.entries) (sym (told_past ⊥ now s r old new is)) (entries_rise s r old isolated into rising)

abbrev began_in : declared_reply.Reply → ℕ
began_in (reply.Began tx group) = group.0
began_in _ = 0

-- a begin admits to the group that is open
began_open : (now : List ℕ) (owner : Owner) (plan : List Shape) (tx : TxId) (group : Group) (old mid : State) → Step ⊥ now (step.Begin owner plan) (reply.Began tx group) old mid
    → group.0 ≡ old.shown.line.open_group
began_open now owner plan tx group old mid (Err e, is, h) = absurd (let no_way : reply.Began tx group ≡ reply.Refused e = is in cc)
began_open now owner plan tx group old mid (Ok a, is, h) = go (refusal.begin_refusal owner.0 plan old.shown) h
  where
    go : (o : Option PoolError)
        → Answers o (Ok a) old mid
        (λ (b : ℕ × ℕ). (b ≡ (old.shown.next_tx, old.shown.line.open_group)) × (mid ≡ steps.state_after_charged_admission (steps.next_admission owner.0 plan old.shown) old)) (WantsMemory old mid)
        → group.0 ≡ old.shown.line.open_group
    go (Some e) h = absurd (let no_way : Ok a ≡ Err e = h.0 in cc)
    go None h = let here : group.0 ≡ a.1 = ap began_in is in here ∙ ap (λ (b : ℕ × ℕ). b.1) h.0

pub turns_keep_rising : TurnsKeepRising
turns_keep_rising now later owner plan tx group ops receipt old mid new begins commits exact new_exact isolated =
    let e : Entry = record { group = receipt.group.0; tx = tx.0; ops = ops } in
    let a : Admission = record { tx = tx.0; group = group.0; owner = owner.0; plan = plan } in
    let begun : mid.past ≡ past_after (step.Begin owner plan) (reply.Began tx group) old = told_past ⊥ now (step.Begin owner plan) (reply.Began tx group) old mid begins in
    let committed : new.past ≡ past_after (step.Commit tx ops) (reply.Committed receipt) mid = told_past ⊥ later (step.Commit tx ops) (reply.Committed receipt) mid new commits in
    let entries : new.past.entries ≡ old.past.entries ++ e ∷ [] = ap (λ (p : Past). p.entries) committed ∙ ap (λ (p : Past). p.entries ++ e ∷ []) begun in
    let admissions : new.past.admissions ≡ old.past.admissions ++ a ∷ [] = ap (λ (p : Past). p.admissions) committed ∙ ap (λ (p : Past). p.admissions) begun in
    let at_e : slice_get new.past.entries (length old.past.entries) ≡ Some e = ap (λ (xs : List Entry). slice_get xs (length old.past.entries)) entries ∙ at_last old.past.entries e in
    let at_a : slice_get new.past.admissions (length old.past.admissions) ≡ Some a = ap (λ (xs : List Admission). slice_get xs (length old.past.admissions)) admissions ∙ at_last old.past.admissions a in
    let m = new_exact.members.committed (length old.past.entries) e at_e in
    let named : tx.0 ≡ length old.past.admissions = new_exact.members.numbered (length old.past.admissions) a at_a in
    let same : m.0 ≡ a = Some-injective (sym m.1 ∙ ap (λ (n : ℕ). slice_get new.past.admissions n) named ∙ at_a) in
    let of_open : receipt.group.0 ≡ old.shown.line.open_group = sym m.2 ∙ ap (λ (x : Admission). x.group) same ∙ began_open now owner plan tx group old mid begins in (
      of_open,
      (λ rising. subst AreRising (sym entries) (open_commits_rise old.past.entries old.shown.line.open_group (map admitted_of old.shown.transactions) e isolated.admitted of_open rising)),
    )
