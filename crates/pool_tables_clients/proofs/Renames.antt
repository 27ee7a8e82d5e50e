-- What the second call of a sync without blocks writes, if its group gives a name: the config of label 0.
use Rattle.std.proofs.Common.{◌≡◌, ◌∙◌, ℕ, List, [], ap, length, refl, subst, sym}
use Rattle.std.specs.Prelude.{Some, Result, Ok, Err, IfOk, slice_get}
use Rattle.base.specs.declared.error.PoolError.{PoolError}
use Rattle.base.specs.disk.Disk.{put}
use Rattle.base.specs.disk.DiskCalls.{DiskCall, bytes_made}
use Rattle.base.specs.disk.DiskCalls.DiskCall.{Put}
use Rattle.base.specs.history.Past.{Past}
use Rattle.base.specs.kept.Stored.{IsCallMade, NewTree}
use Rattle.base.specs.kept.SyncCalls.{calls_of_tree}
use Rattle.base.proofs.common.KeptLists.{Some-injective}
use Rattle.pool_tables.specs.Told.{Leads, ShownPool, held_with, sync_step_reply}
use Rattle.pool_tables.specs.declared.pool.Progress.{Progress}
use Rattle.pool_tables.specs.declared.pool.Progress.TheVariants.{More, Synced}
use Rattle.pool_tables.proofs.OfNoDevice.{some_past}

first_config : (size group : ℕ) (tree : NewTree) (config : List ℕ) → tree.blocks ≡ [] → tree.stages ≡ Some config → tree.done ≡ 1
    → slice_get (calls_of_tree size group tree) tree.done ≡ Some (Put 16384 config)
first_config size group tree config none named flushed =
    let whole : tree ≡ record tree { blocks = []; stages = Some config; done = 1 } =
    ap (λ bs. record tree { blocks = bs }) none ∙ ap (λ s. record tree { blocks = []; stages = s }) named ∙ ap (λ n. record tree { blocks = []; stages = Some config; done = n }) flushed in
    subst (λ (t : NewTree). slice_get (calls_of_tree size group t) t.done ≡ Some (Put 16384 config)) (sym whole) refl

put_by : (old new : ShownPool) (past later : Past) (after tree : NewTree) (config : List ℕ) → IsCallMade (held_with old past) (held_with new later) after → old.running ≡ Some tree
    → tree.blocks ≡ [] → tree.stages ≡ Some config → tree.done ≡ 1 → new.now ≡ put 16384 config old.now
put_by old new past later after tree config made runs none named flushed =
    let same : made.before ≡ tree = Some-injective (sym made.running ∙ runs) in
    let at = subst (λ (t : NewTree). slice_get (calls_of_tree (length old.now) made.group t) t.done ≡ Some made.advances.0) same made.advances.1 in
    let call : made.advances.0 ≡ Put 16384 config = Some-injective (sym at ∙ first_config (length old.now) made.group tree config none named flushed) in
    made.advances.2 ∙ ap (λ (c : DiskCall). bytes_made c old.now) call

-- so it is if the step is answered, whatever is left to do then
pub label_0_put : (old new : ShownPool) (answer : Result Progress PoolError) → Leads (sync_step_reply answer) old new
    → IfOk answer (λ _. (tree : NewTree) (config : List ℕ) → old.running ≡ Some tree → tree.blocks ≡ [] → tree.stages ≡ Some config → tree.done ≡ 1 → new.now ≡ put 16384 config old.now)
label_0_put old new (Ok More) leads = λ tree config.
    let past : Past = some_past old.shown in
    let moved = leads past past in
    put_by old new past past moved.0 tree config moved.1
label_0_put old new (Ok (Synced group)) leads = λ tree config.
    let past : Past = some_past old.shown in
    let moved = leads.2 past past in
    put_by old (record new { pointers = leads.0 }) past past moved.0 tree config moved.1
label_0_put old new (Err e) leads = tt
