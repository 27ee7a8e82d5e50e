-- What callers take from a put of two bytes, and from an object that was removed.
use Rattle.std.proofs.Common.{◌≡◌, ◌⊎◌, ◌≤◌, ◌∷◌, ◌*◌, [], ℕ, List, Ok, ap, inl, inr, length, min, refl, subst, sym, ◌∙◌}
use Rattle.std.specs.Prelude.{None, Option, Result, Some, codes, is_some, slice_get}
use Rattle.std.specs.FinMap as map
use Rattle.std.specs.Fmt.{digits}
use Rattle.std.specs.Io.KnownBytes.{Appends}
use Rattle.std.proofs.Math.Logic.{∥∥₁_map}
use Rattle.base.specs.declared.error.PoolError.{PoolError}
use Rattle.base.specs.declared.names.ObjectId.{ObjectId}
use Rattle.base.specs.declared.operation.Op.{Op}
use Rattle.base.specs.declared.operation.Op.TheVariants.{Create, Remove, SetLength, Write}
use Rattle.base.specs.history.Contents.{Contents}
use Rattle.base.specs.history.History.{Entry, apply_all}
use Rattle.base.specs.history.Sequences.{and_then, in_turn}
use Rattle.base.specs.steps.Seen.{IsKnownDurable}
use Rattle.base.specs.steps.Steps.{State}
use Rattle.device_model.specs.declared.device.SectorDevice.{Ghosts}
use Rattle.pool_threads.specs.Answers.{state_seen}
use Rattle.commands.specs.Committed.{AreNewEntries, HappensOn, PutsAll, PutsAndPrints, PutsOn, RemovesOn}
use Rattle.commands.specs.Puts.{IsStartFor, bytes_put, put_line, put_transactions}
use Rattle.commands.specs.declared.changes.Put.{Put}
use Rattle.commands.specs.declared.changes.Start.{Start}
use Rattle.commands.specs.declared.changes.Start.TheVariants.{Creates, Empties, Keeps}
use Rattle.commands.proofs.Committed.{put_happens, removal_happens}
use Rattle.read_commands.proofs.MountedBytes.{appended}
use Rattle.commands.proofs.PutBytes.{puts_leave_bytes}

abbrev seven : ObjectId
seven = record { 0 = 7 }

-- one entry that was not there before, that has these operations, or those, and that no crash loses
abbrev IsOneEntry : (List Op → Type 0) → State → State → Type 0
IsOneEntry P before after = (ordinal : ℕ) × (e : Entry) × (length before.past.entries ≤ ordinal) × (slice_get after.past.entries ordinal ≡ Some e) × P e.ops × IsKnownDurable ordinal e.group after

one_entry : {Dev : Type 0} (G : Ghosts Dev) (device : Dev) (ops : List Op) (P : List Op → Type 0) → P ops → HappensOn G device (AreNewEntries (Unit {0}) (ops ∷ [])) → HappensOn G device (IsOneEntry P)
one_entry G device ops P so h = record {
  pool = h.pool;
  opens = h.opens;
  first = h.first;
  only = h.only;
  last = h.last;
  sees = ∥∥₁_map {B = IsOneEntry P (state_seen h.first) (state_seen h.last)} h.sees (λ x. (x.0, x.1, x.2, x.3, subst P (sym x.4) so, x.5 tt));
}

abbrev PutsTwo : List Op → Type 0
PutsTwo ops = (ops ≡ Create seven ∷ Write seven 0 (1 ∷ 2 ∷ []) ∷ []) ⊎ (ops ≡ SetLength seven 0 ∷ Write seven 0 (1 ∷ 2 ∷ []) ∷ [])

-- the line of a put of two bytes in one transaction
two_line : put_line 2 1 ≡ codes "put 2 bytes in 1 transactions\n"
unfolding digits
two_line = refl

module _ {Dev : Type 0} (G : Ghosts Dev) (device : Dev) where
  two_put : (put : Put) → PutsOn G device seven None (1 ∷ 2 ∷ []) put (Ok tt) → HappensOn G device (IsOneEntry PutsTwo)
  two_put put puts = let p = put_happens G device seven None (1 ∷ 2 ∷ []) put puts in by p.0 p.1.0 p.1.3
    where
      by : (start : Start) → IsStartFor None start → HappensOn G device (AreNewEntries (Unit {0}) (put_transactions start seven None (1 ∷ 2 ∷ []))) → HappensOn G device (IsOneEntry PutsTwo)
      by Creates may h = one_entry G device (Create seven ∷ Write seven 0 (1 ∷ 2 ∷ []) ∷ []) PutsTwo (inl refl) h
      by Empties may h = one_entry G device (SetLength seven 0 ∷ Write seven 0 (1 ∷ 2 ∷ []) ∷ []) PutsTwo (inr refl) h
      by Keeps may h = absurd (may refl)

  pub two_bytes_put : (bytes : List ℕ) → bytes ≡ 1 ∷ 2 ∷ [] → PutsAll G device seven None bytes → HappensOn G device (IsOneEntry PutsTwo)
  two_bytes_put bytes are (put, puts) = two_put put (subst (λ (l : List ℕ). PutsOn G device seven None l put (Ok tt)) are puts)

-- operations that write one byte over the second of three
abbrev Overwrites : List Op → Type 0
Overwrites ops = (c d : Contents) → map.get c.objects 7 ≡ Some (10 ∷ 11 ∷ 12 ∷ []) → apply_all ops c ≡ Ok d → map.get d.objects 7 ≡ Some (10 ∷ 5 ∷ 12 ∷ [])

overwrites : (start : Start) (ops : List Op) → IsStartFor (Some 1) start → put_transactions start seven (Some 1) (5 ∷ []) ≡ ops ∷ [] → Overwrites ops
overwrites start ops may are c d there applied =
    let one : in_turn apply_all (ops ∷ []) c ≡ Ok d = ap (λ (r : Result Contents PoolError). and_then r (in_turn apply_all [])) applied in
    let put = puts_leave_bytes start seven (Some 1) (5 ∷ []) c d may (λ keeps. ap is_some there) (subst (λ (all : List (List Op)). in_turn apply_all all c ≡ Ok d) (sym are) one) in
    put.0 ∙ ap (λ (before : Option (List ℕ)). Some (bytes_put (Some 1) (5 ∷ []) before)) there

pub one_byte_put : {Dev : Type 0} (G : Ghosts Dev) (device : Dev) (bytes : List ℕ) → bytes ≡ 5 ∷ [] → PutsAll G device seven (Some 1) bytes → HappensOn G device (IsOneEntry Overwrites)
one_byte_put {Dev} G device bytes are (put, puts) =
    let p = put_happens G device seven (Some 1) (5 ∷ []) put (subst (λ (l : List ℕ). PutsOn G device seven (Some 1) l put (Ok tt)) are puts) in by p.0 p.1.0 p.1.3
  where
    by : (start : Start) → IsStartFor (Some 1) start → HappensOn G device (AreNewEntries (Unit {0}) (put_transactions start seven (Some 1) (5 ∷ []))) → HappensOn G device (IsOneEntry Overwrites)
    by Creates may h = let ops : List Op = Create seven ∷ Write seven 1 (5 ∷ []) ∷ [] in one_entry G device ops Overwrites (overwrites Creates ops may refl) h
    by Keeps may h = let ops : List Op = Write seven 1 (5 ∷ []) ∷ [] in one_entry G device ops Overwrites (overwrites Keeps ops may refl) h
    by Empties may h = absurd (may refl)

module _ {Dev : Type 0} (G : Ghosts Dev) (device : Dev) (old new : Option (List ℕ)) where
  one_piece : (start : Start) → IsStartFor None start → length (put_transactions start seven None (1 ∷ 2 ∷ [])) ≡ 1
  one_piece Creates may = refl
  one_piece Empties may = refl
  one_piece Keeps may = absurd (may refl)

  two_printed : PutsAndPrints G device seven None (1 ∷ 2 ∷ []) old new → old ≡ Some [] → new ≡ Some (codes "put 2 bytes in 1 transactions\n")
  two_printed w empty =
      let p = put_happens G device seven None (1 ∷ 2 ∷ []) w.put w.puts in
      let count : w.put.transactions ≡ 1 = p.1.1 ∙ one_piece p.0 p.1.0 in
      let bytes : w.put.bytes ≡ 2 = p.1.2 ∙ ap (λ (k : ℕ). min (64512 * k) 2) count in
      appended new (put_line w.put.bytes w.put.transactions) (subst (λ (o : Option (List ℕ)). Appends o new (put_line w.put.bytes w.put.transactions)) empty w.prints)
      ∙ ap (λ (k : ℕ). Some (put_line k w.put.transactions)) bytes ∙ ap (λ (k : ℕ). Some (put_line 2 k)) count ∙ ap Some two_line

  pub two_bytes_printed : (bytes : List ℕ) → bytes ≡ 1 ∷ 2 ∷ [] → PutsAndPrints G device seven None bytes old new → old ≡ Some [] → new ≡ Some (codes "put 2 bytes in 1 transactions\n")
  two_bytes_printed bytes are w = two_printed (subst (λ (l : List ℕ). PutsAndPrints G device seven None l old new) are w)

pub one_removed : {Dev : Type 0} (G : Ghosts Dev) (device : Dev) → RemovesOn G device seven → HappensOn G device (IsOneEntry (λ ops. ops ≡ Remove seven ∷ []))
one_removed G device r = one_entry G device (Remove seven ∷ []) (λ ops. ops ≡ Remove seven ∷ []) refl (removal_happens G device seven r)
