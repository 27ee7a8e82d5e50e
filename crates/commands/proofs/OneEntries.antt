-- What callers take from a put and a removal by name, and from the laws of their transactions.
use Rattle.std.proofs.Common.{◌≡◌, ◌≢◌, ◌⊎◌, ◌≤◌, ◌<◌, ◌*◌, ◌++◌, ◌∷◌, [], ℕ, List, Bool, true, false, Option, Some, None, Ok, Err, ap, arith, inl, inr, length, refl, subst, sym, ◌∙◌}
use Rattle.std.specs.Prelude.{IsTrue, Result, is_some, slice_get}
use Rattle.std.specs.FinMap as finite
use Rattle.std.proofs.Math.Logic.{∥∥₁_map}
use Rattle.std.proofs.lemmas.Bool.{cases_eq}
use Rattle.base.specs.history.Contents.{Contents}
use Rattle.base.specs.history.History.{apply_all}
use Rattle.base.specs.declared.error.PoolError.{PoolError}
use Rattle.base.specs.declared.names.ObjectId.{ObjectId}
use Rattle.base.specs.declared.operation.Op.{Op}
use Rattle.base.specs.declared.operation.Op.TheVariants.{Create, Remove, SetLength, Write}
use Rattle.base.specs.history.History.{Entry}
use Rattle.base.specs.steps.Seen.{IsKnownDurable}
use Rattle.base.specs.steps.Steps.{State}
use Rattle.commands.specs.Committed.{AreNewEntries, SyncsAfter}
use Rattle.running_pools.specs.Commits.{command_owner}
use Rattle.commands.specs.Puts.{IsStartFor, put_transactions}
use Rattle.commands.specs.declared.changes.Put.{Put}
use Rattle.commands.specs.declared.changes.Start.{Start}
use Rattle.commands.specs.declared.changes.Start.TheVariants.{Creates, Empties, Keeps}
use Rattle.commands.proofs.Committed.{all_stand, entered_since, one_and_synced, put_enters}
use Rattle.device_model.specs.declared.device.SectorDevice.{Ghosts}
use Rattle.running_pools.proofs.Along.{along_looked}
use Rattle.object_names.specs.Laws.{IsUnused}
use Rattle.object_names.specs.NameTables.{IsNameTable, name_at}
use Rattle.object_names.specs.Names.{IsName}
use Rattle.object_names.specs.Slots.{slot_bytes}
use Rattle.object_names.proofs.NameClients.{named_7}
use Rattle.object_names.proofs.NamesFound.{named_there, one_number}
use Rattle.pool_threads.specs.Answers.{state_seen}
use Rattle.pool_threads.specs.Handles.{IsNewHandle, OpensBehind, opening_view}
use Rattle.pool_threads.specs.declared.handle.Handle.{Handle}
use Rattle.pool_threads.specs.declared.shared.Shared.{Shared}
use Rattle.pool_threads.proofs.Along.{GoesAlong, along_made, along_on}
use Rattle.pool_threads.proofs.FetchesSeen.{fetches_along}
use Rattle.tree_blocks.specs.Sources.{object_bytes}
use Rattle.commands.specs.NamedLaws.{NewNamesAreWritten, RemovedNamesAreGone}
use Rattle.commands.specs.NamedCommands.{PutsNamedAll, RemovesNamedAll}
use Rattle.commands.specs.NamedOps.{naming_ops, naming_transactions, removal_ops, table_object, table_ops}
use Rattle.commands.specs.NamedPuts.{PutsByTable, PutsNamed}
use Rattle.commands.specs.NamedRemovals.{RemovesAsFound, RemovesByTable, is_there}
use Rattle.commands.specs.NewHandles.{HappensByNew, PutsByNew}
use Rattle.commands.specs.NewObjects.{FindsNew, MakesNamed, PutsAsNew}
use Rattle.commands.specs.NameRefusals.{by_engine}
use Rattle.commands.specs.TableReads.{ReadsTable}
use Rattle.commands.specs.declared.new_objects.NewObject.{NewObject}
use Rattle.commands.specs.declared.named_steps.NameRefusal.{NameRefusal}
use Rattle.commands.specs.declared.named_steps.NameRefusal.TheVariants.{Engine}
use Rattle.read_commands.specs.NamedObjects.{HasName}
use Rattle.read_commands.specs.NamedTables.{table_range}

-- an entry that was not there before, that is so of an object, and that no crash loses
abbrev IsOneEntry : (ObjectId → List Op → Type 0) → State → State → Type 0
IsOneEntry P before after = (ordinal : ℕ) × (e : Entry) × (n : ObjectId) × (length before.past.entries ≤ ordinal) × (slice_get after.past.entries ordinal ≡ Some e) × P n e.ops × IsKnownDurable ordinal e.group after

one_entry : (P : ObjectId → List Op → Type 0) (ops : List Op) (n : ObjectId) → P n ops → (before after : State) → AreNewEntries (Unit {0}) (ops ∷ []) before after → IsOneEntry P before after
one_entry P ops n so before after x = (x.0, x.1, n, x.2, x.3, subst (P n) (sym x.4) so, x.5 tt)

happens : {Dev : Type 0} (G : Ghosts Dev) (device : Dev) (P : ObjectId → List Op → Type 0) (ops : List Op) (n : ObjectId) → P n ops → HappensByNew G device (AreNewEntries (Unit {0}) (ops ∷ [])) → HappensByNew G device (IsOneEntry P)
happens G device P ops n so h = record {
  pool = h.pool;
  opens = h.opens;
  first = h.first;
  is_new = h.is_new;
  last = h.last;
  sees = ∥∥₁_map {B = IsOneEntry P (state_seen h.first) (state_seen h.last)} h.sees (λ x. one_entry P ops n so (state_seen h.first) (state_seen h.last) x);
}

well : (end : Result (Unit {0}) PoolError) → Ok tt ≡ by_engine end → end ≡ Ok tt
well (Ok done) is = refl
well (Err e) is = absurd (let no_way : Ok tt ≡ Err (Engine e) = is in cc)

abbrev two : List ℕ
two = 1 ∷ 2 ∷ []

-- two bytes are put into an object that has a name, or into a new one whose name is written
abbrev PutsTwo : List ℕ → ObjectId → List Op → Type 0
PutsTwo name n ops = (ops ≡ Create n ∷ Write n 0 two ∷ []) ⊎ ((ops ≡ SetLength n 0 ∷ Write n 0 two ∷ [])
    ⊎ ((front : List Op) × (ops ≡ front ++ (Write table_object (256 * n.0) (slot_bytes name) ∷ Create n ∷ Write n 0 two ∷ []))))

-- an object is removed, unless it isn't there, and its name too
abbrev RemovesOne : ObjectId → List Op → Type 0
RemovesOne n ops = (ops ≡ Remove n ∷ Write table_object (256 * n.0) (slot_bytes []) ∷ []) ⊎ (ops ≡ Write table_object (256 * n.0) (slot_bytes []) ∷ [])

module _ {Dev : Type 0} {G : Ghosts Dev} where
  reads_along : (table : Result (Option (List ℕ)) PoolError) (old new : Handle Dev G) → ReadsTable table old new → GoesAlong old new
  reads_along table old new r = fetches_along command_owner table_object table_range r.read old new r.fetches

  finds_along : (table : List ℕ) (offset : Option ℕ) (bytes : List ℕ) (new : NewObject) (old now : Handle Dev G) → FindsNew table offset bytes (Ok new) old now → GoesAlong old now
  finds_along table offset bytes new old now (inl (e, refused, is)) = absurd (let no_way : Ok new ≡ Err (Engine e) = is in cc)
  finds_along table offset bytes new old now (inr f) = along_on old f.listed now (along_looked old f.listed f.lists.looked) (along_made f.finds.2.asks)

module _ {Dev : Type 0} (G : Ghosts Dev) (device : Dev) where
  module _ (pool : Shared Dev G) (opens : OpensBehind (IsTrue G.keeps_model) (G.disk device) 4194304 (opening_view pool)) (first : Handle Dev G) (is_new : IsNewHandle pool first) (looked : Handle Dev G) (along : GoesAlong first looked) where
    -- two bytes that were put into an object that a table names
    known : (n : ObjectId) (name : List ℕ) (put : Put) → PutsByNew pool n None two put (Ok tt) → HappensByNew G device (IsOneEntry (PutsTwo name))
    known n name put k = let p = put_enters n None two put k.first k.last k.did in by p.0 p.1.0 p.1.3
      where
        entered : (ops : List Op) → ∥ AreNewEntries (Unit {0}) (ops ∷ []) (state_seen k.first) (state_seen k.last) ∥₁ → HappensByNew G device (AreNewEntries (Unit {0}) (ops ∷ []))
        entered ops sees = record { pool = pool; opens = opens; first = k.first; is_new = k.is_new; last = k.last; sees = sees }

        by : (start : Start) → IsStartFor None start → ∥ AreNewEntries (Unit {0}) (put_transactions start n None two) (state_seen k.first) (state_seen k.last) ∥₁ → HappensByNew G device (IsOneEntry (PutsTwo name))
        by Creates may sees = happens G device (PutsTwo name) (Create n ∷ Write n 0 two ∷ []) n (inl refl) (entered (Create n ∷ Write n 0 two ∷ []) sees)
        by Empties may sees = happens G device (PutsTwo name) (SetLength n 0 ∷ Write n 0 two ∷ []) n (inr (inl refl)) (entered (SetLength n 0 ∷ Write n 0 two ∷ []) sees)
        by Keeps may sees = absurd (may refl)

    -- two bytes that were put into a new object
    made_new : (table name : List ℕ) (new : NewObject) (put : Put) (asked last : Handle Dev G) → GoesAlong looked asked → MakesNamed table new name None two put (Ok tt) asked last → HappensByNew G device (IsOneEntry (PutsTwo name))
    made_new table name new put asked last further m =
        let all : List (List Op) = naming_transactions new.has_table table new.object name None two in
        let syncs = subst (λ (r : Result (Unit {0}) PoolError). SyncsAfter put m.made r m.done last) (well m.end m.ends) m.syncs in
        let stands = all_stand all put asked m.done last m.made m.makes syncs in
        happens G device (PutsTwo name) (table_ops new.has_table table ++ (Write table_object (256 * new.object.0) (slot_bytes name) ∷ Create new.object ∷ Write new.object 0 two ∷ [])) new.object (inr (inr (table_ops new.has_table table, refl)))
        (record {
          pool = pool;
          opens = opens;
          first = first;
          is_new = is_new;
          last = last;
          sees = entered_since (Unit {0}) all first asked (state_seen last) (along_on first looked asked along further) stands.1;
        })

    put_as_new : (table name : List ℕ) (new : Result NewObject NameRefusal) (put : Put) (asked last : Handle Dev G) → FindsNew table None two new looked asked → PutsAsNew table new name None two put (Ok tt) asked last → HappensByNew G device (IsOneEntry (PutsTwo name))
    put_as_new table name (Ok new) put asked last finds m = made_new table name new put asked last (finds_along table None two new looked asked finds) m
    put_as_new table name (Err refusal) put asked last finds (none, is, same) = absurd (let no_way : Ok tt ≡ Err refusal = is in cc)

    put_by : (table : Result (Option (List ℕ)) PoolError) (name : List ℕ) (put : Put) (last : Handle Dev G) → PutsByTable pool table name None two put (Ok tt) looked last → HappensByNew G device (IsOneEntry (PutsTwo name))
    put_by (Ok (Some table)) name put last (inl (n, named, (end, into, is), same)) =
        known n name put (subst (λ (r : Result (Unit {0}) PoolError). PutsByNew pool n None two put r) (well end is) into)
    put_by (Ok (Some table)) name put last (inr (unknown, p)) = put_as_new table name p.new put p.found last p.finds p.puts
    put_by (Ok None) name put last (none, is, same) = absurd (let no_way : Ok tt ≡ Err _ = is in cc)
    put_by (Err e) name put last (none, is, same) = absurd (let no_way : Ok tt ≡ Err (Engine e) = is in cc)

    removed_both : (there : Result Bool PoolError) (n : ObjectId) (asked last : Handle Dev G) → GoesAlong looked asked → RemovesAsFound there n (Ok tt) asked last → HappensByNew G device (IsOneEntry RemovesOne)
    removed_both (Err e) n asked last further (is, same) = absurd (let no_way : Ok tt ≡ Err e = is in cc)
    removed_both (Ok there) n asked last further r = happens G device RemovesOne (removal_ops there n) n (which there) (record {
      pool = pool;
      opens = opens;
      first = first;
      is_new = is_new;
      last = last;
      sees = entered_since (Unit {0}) (removal_ops there n ∷ []) first asked (state_seen last) (along_on first looked asked along further) (one_and_synced (removal_ops there n) r.count r.made asked r.done last r.makes r.syncs);
    })
      where
        which : (there : Bool) → RemovesOne n (removal_ops there n)
        which true = inl refl
        which false = inr refl

    removed_by : (table : Result (Option (List ℕ)) PoolError) (name : List ℕ) (n : ObjectId) (last : Handle Dev G) → RemovesByTable table name (Ok n) looked last → HappensByNew G device (IsOneEntry RemovesOne)
    removed_by (Ok (Some table)) name n last (inl (m, Ok done, named, r, is)) = removed_both (is_there r.found) m r.looked last (along_made r.looks) r.removes
    removed_by (Ok (Some table)) name n last (inl (m, Err e, named, r, is)) = absurd (let no_way : Ok n ≡ Err (Engine e) = is in cc)
    removed_by (Ok (Some table)) name n last (inr (unknown, (is, same))) = absurd (let no_way : Ok n ≡ Err _ = is in cc)
    removed_by (Ok None) name n last (is, same) = absurd (let no_way : Ok n ≡ Err _ = is in cc)
    removed_by (Err e) name n last (is, same) = absurd (let no_way : Ok n ≡ Err (Engine e) = is in cc)

  pub two_named : (name bytes : List ℕ) → bytes ≡ two → PutsNamedAll G device name None bytes → HappensByNew G device (IsOneEntry (PutsTwo name))
  two_named name bytes are (put, o) =
      let p = subst (λ (l : List ℕ). PutsNamed o.pool name None l put (Ok tt)) are o.does in
      put_by o.pool o.opens p.first p.is_new p.looked (reads_along p.table p.first p.looked p.reads) p.table name put p.last p.puts

  pub one_removed : (name : List ℕ) → RemovesNamedAll G device name → HappensByNew G device (IsOneEntry RemovesOne)
  one_removed name (n, o) =
      let r = o.does in
      removed_by o.pool o.opens r.first r.is_new r.looked (reads_along r.table r.first r.looked r.reads) r.table name n r.last r.removes

abbrev seven : ObjectId
seven = record { 0 = 7 }

-- what the law of new names says of object 7
pub seven_named : NewNamesAreWritten → (name : List ℕ) (before after : Contents) → IsName name → IsNameTable (object_bytes before.objects 0) → IsUnused (object_bytes before.objects 0) 7 name
    → apply_all (naming_ops (is_some (finite.get before.objects 0)) (object_bytes before.objects 0) seven name 0 two) before ≡ Ok after
    → HasName after name 7 × (finite.get after.objects 7 ≡ Some two) × (finite.get after.objects 8 ≡ finite.get before.objects 8)
seven_named law name before after is table unused h =
    let w = law seven name 0 two before after (omega arith) (omega arith) is table unused h in (
      (w.renamed.table, named_7 (object_bytes before.objects 0) (object_bytes after.objects 0) name is w.renamed),
      w.bytes_are,
      w.others 8 (λ e. omega (arith, e)) (λ e. omega (arith, e)),
    )

has_bytes : (bytes : List ℕ) → 256 * 7 < length bytes → bytes ≢ []
has_bytes bytes long none = let size : length bytes ≡ 0 = ap length none in omega (arith, long, size)

-- and that of removed names
pub seven_unnamed : RemovedNamesAreGone → (name : List ℕ) (before after : Contents) → HasName before name 7
    → apply_all (removal_ops (is_some (finite.get before.objects 7)) seven) before ≡ Ok after → (finite.get after.objects 7 ≡ None) × ((n : ℕ) → HasName after name n → ⊥)
seven_unnamed law name before after (table, named) h =
    let bytes = object_bytes before.objects 0 in
    let w = law seven before after (omega arith) (omega arith) table (has_bytes bytes (named_there bytes 7 name named)) h in (
      w.gone,
      λ n has. elim (cases_eq n 7) [
        | inl same ↦ has.1.some (sym has.1.name_is ∙ ap (name_at (object_bytes after.objects 0)) same ∙ w.renamed.name_is)
        | inr other ↦ other (one_number bytes n 7 name table.distinct
            (record { number = has.1.number; few = has.1.few; name_is = sym (w.renamed.others n has.1.number other) ∙ has.1.name_is; some = has.1.some }) named)
      ],
    )
