-- The transactions of a put leave the object with its bytes, and each other object as it was.
use Rattle.std.proofs.Common.{◌≡◌, ◌≢◌, ◌+◌, ◌-◌, ◌/◌, ◌++◌, ◌∷◌, [], ℕ, zero, suc, List, Option, Some, None, Ok, ap, arith, append_assoc, drop, length, length-append, length-drop, max, refl, replicate, subst, sym, take, ◌∙◌}
use Rattle.std.specs.Prelude.{IsSome}
use Rattle.std.specs.FinMap as map
use Rattle.std.proofs.Math.Seq.{drop-append-add, drop-nil, take-append_seam}
use Rattle.std.proofs.lemmas.Bool.{false≢true}
use Rattle.std.proofs.lemmas.List.{append-nil, drop-drop, nil_from_length, take-append-drop}
use Rattle.base.specs.declared.names.ObjectId.{ObjectId}
use Rattle.base.specs.declared.operation.Op.{Op}
use Rattle.base.specs.declared.operation.Op.TheVariants.{Create, SetLength, Write}
use Rattle.base.specs.history.Contents.{Contents, apply, bytes_after_write, changed, created, resize}
use Rattle.base.specs.history.History.{apply_all}
use Rattle.base.specs.history.Sequences.{in_turn}
use Rattle.base.proofs.common.Sequences.{parted}
use Rattle.base.proofs.history.Writes.{length-resize}
use Rattle.running_pools.proofs.OneObject.{LeavesOthers, changed_there, made, none_left, object, one, others_on, others_same}
use Rattle.commands.specs.Puts.{IsStartFor, bytes_put, first_byte, overwritten, put_transactions, start_ops, write_ops}
use Rattle.commands.specs.declared.changes.Start.{Start}
use Rattle.commands.specs.declared.changes.Start.TheVariants.{Creates, Empties, Keeps}
use Rattle.commands.proofs.Pieces.{piece_count, same_put, transactions_from}

-- a write after one that ends where it begins is one write of both
module _ (at : ℕ) (p q old : List ℕ) where
  abbrev front : List ℕ
  front = resize at old ++ p

  abbrev once : List ℕ
  once = bytes_after_write at p old

  length-front : length front ≡ at + length p
  length-front = length-append (resize at old) p ∙ ap (λ (n : ℕ). n + length p) (length-resize at old)

  no_zeros : at + length p - length once ≡ 0
  no_zeros = let whole : length once ≡ length front + length (drop (at + length p) old) = length-append front (drop (at + length p) old) in omega (arith, whole, length-front)

  resized : resize (at + length p) once ≡ front
  resized = ap (λ (n : ℕ). take (at + length p) once ++ replicate n 0) no_zeros ∙ append-nil (take (at + length p) once)
      ∙ ap (λ (n : ℕ). take n once) (sym length-front) ∙ take-append_seam front (drop (at + length p) old)

  dropped : drop (at + length p + length q) once ≡ drop (at + length (p ++ q)) old
  dropped = ap (λ (n : ℕ). drop (n + length q) once) (sym length-front) ∙ drop-append-add front (drop (at + length p) old) (length q)
      ∙ drop-drop (length q) (at + length p) old ∙ ap (λ (n : ℕ). drop n old) (let both : length (p ++ q) ≡ length p + length q = length-append p q in omega (arith, both))

  written_on : bytes_after_write (at + length p) q once ≡ bytes_after_write at (p ++ q) old
  written_on = ap (λ (l : List ℕ). l ++ q ++ drop (at + length p + length q) once) resized
      ∙ ap (λ (l : List ℕ). front ++ q ++ l) dropped
      ∙ ap (λ (l : List ℕ). l ++ drop (at + length (p ++ q)) old) (append_assoc (resize at old) p q)

overwritten_on : (at : ℕ) (p q old : List ℕ) → overwritten (at + length p) q (overwritten at p old) ≡ overwritten at (p ++ q) old
overwritten_on at [] q old = ap (λ (n : ℕ). overwritten n q old) (let same : at + 0 ≡ at = omega arith in same)
overwritten_on at (b ∷ p) [] old = ap (λ (l : List ℕ). bytes_after_write at l old) (sym (append-nil (b ∷ p)))
overwritten_on at (b ∷ p) (c ∷ q) old = written_on at (b ∷ p) (c ∷ q) old

-- over no bytes, from the start on, there are these alone
overwritten_none : (bytes : List ℕ) → overwritten 0 bytes [] ≡ bytes
overwritten_none [] = refl
overwritten_none (b ∷ bytes) = ap (λ (l : List ℕ). (b ∷ bytes) ++ l) (drop-nil (0 + length (b ∷ bytes))) ∙ append-nil (b ∷ bytes)

no_more : (c d : Contents) → in_turn apply_all [] c ≡ Ok d → c ≡ d
no_more c d h = cc

pub write_leaves : (n : ObjectId) (at : ℕ) (piece old : List ℕ) (c d : Contents) → apply_all (write_ops n at piece) c ≡ Ok d → object c n.0 ≡ Some old
    → (object d n.0 ≡ Some (overwritten at piece old)) × LeavesOthers n.0 c d
write_leaves n at [] old c d h there = let same = none_left c d h in (ap (λ (x : Contents). object x n.0) (sym same) ∙ there, others_same n.0 c d same)
write_leaves n at (b ∷ piece) old c d h there =
    let p = parted (apply (Write n at (b ∷ piece)) c) (in_turn apply []) d h in
    let same = none_left p.0 d p.2 in
    let w = one n.0 (changed (bytes_after_write at (b ∷ piece))) c p.0 p.1 in (
      ap (λ (x : Contents). object x n.0) (sym same) ∙ w.2 ∙ changed_there (bytes_after_write at (b ∷ piece)) (object c n.0) w.0 old there w.1,
      others_on n.0 c p.0 d w.3 (others_same n.0 p.0 d same),
    )

-- how many pieces are left after one
one_fewer : (count size : ℕ) → suc count ≡ (size + 64511) / 64512 → count ≡ (size - 64512 + 64511) / 64512
one_fewer count size is = omega (arith, is)

no_bytes : (size : ℕ) → 0 ≡ (size + 64511) / 64512 → size ≡ 0
no_bytes size is = omega (arith, is)

pieces_leave : (count : ℕ) (n : ObjectId) (at : ℕ) (bytes old : List ℕ) (c d : Contents) → count ≡ (length bytes + 64511) / 64512 → in_turn apply_all (transactions_from Keeps n at bytes count) c ≡ Ok d
    → object c n.0 ≡ Some old → (object d n.0 ≡ Some (overwritten at bytes old)) × LeavesOthers n.0 c d
pieces_leave zero n at bytes old c d is h there =
    let same = no_more c d h in
    let none : bytes ≡ [] = nil_from_length bytes (no_bytes (length bytes) is) in (
      ap (λ (x : Contents). object x n.0) (sym same) ∙ there ∙ ap (λ (l : List ℕ). Some (overwritten at l old)) (sym none),
      others_same n.0 c d same,
    )
pieces_leave (suc count) n at bytes old c d is h there =
    let piece = take 64512 bytes in
    let p = parted (apply_all (write_ops n at piece) c) (in_turn apply_all (transactions_from Keeps n (at + length piece) (drop 64512 bytes) count)) d h in
    let first = write_leaves n at piece old c p.0 p.1 there in
    let fewer = one_fewer count (length bytes) is ∙ ap (λ (k : ℕ). (k + 64511) / 64512) (sym (length-drop 64512 bytes)) in
    let rest = pieces_leave count n (at + length piece) (drop 64512 bytes) (overwritten at piece old) p.0 d fewer p.2 first.0 in (
      rest.0 ∙ ap Some (overwritten_on at piece (drop 64512 bytes) old ∙ ap (λ (l : List ℕ). overwritten at l old) (take-append-drop 64512 bytes)),
      others_on n.0 c p.0 d first.1 rest.1,
    )

-- what is there before the first bytes are written
abbrev StartsWith : Start → Option (List ℕ) → List ℕ → Type 0
StartsWith Creates before old = (before ≡ None) × (old ≡ [])
StartsWith Empties before old = old ≡ []
StartsWith Keeps before old = before ≡ Some old

found : (o : Option (List ℕ)) → IsSome o → (old : List ℕ) × (o ≡ Some old)
found None some = absurd (false≢true some)
found (Some old) some = (old, refl)

emptied : (before o : Option (List ℕ)) → changed (resize 0) before ≡ Ok o → o ≡ Some []
emptied None o h = cc
emptied (Some old) o h = let none : 0 - length old ≡ 0 = omega arith in let is : o ≡ Some (resize 0 old) = cc in is ∙ ap (λ (n : ℕ). Some (take 0 old ++ replicate n 0)) none

start_leaves : (start : Start) (n : ObjectId) (writes : List Op) (c d : Contents) → (start ≡ Keeps → IsSome (object c n.0)) → apply_all (start_ops start n ++ writes) c ≡ Ok d
    → (old : List ℕ) × (mid : Contents) × (apply_all writes mid ≡ Ok d) × (object mid n.0 ≡ Some old) × LeavesOthers n.0 c mid × StartsWith start (object c n.0) old
start_leaves Creates n writes c d there h =
    let p = parted (apply (Create n) c) (in_turn apply writes) d h in
    let w = one n.0 created c p.0 p.1 in
    let m = made (object c n.0) w.0 w.1 in
    ([], p.0, p.2, w.2 ∙ m.1, w.3, (m.0, refl))
start_leaves Empties n writes c d there h =
    let p = parted (apply (SetLength n 0) c) (in_turn apply writes) d h in
    let w = one n.0 (changed (resize 0)) c p.0 p.1 in
    ([], p.0, p.2, w.2 ∙ emptied (object c n.0) w.0 w.1, w.3, refl)
start_leaves Keeps n writes c d there h = let f = found (object c n.0) (there refl) in (f.0, c, h, f.1, λ other ne. refl, f.1)

put_leaves : (start : Start) (n : ObjectId) (at : ℕ) (bytes : List ℕ) (count : ℕ) (c d : Contents) → count ≡ (length bytes - 64512 + 64511) / 64512 → (start ≡ Keeps → IsSome (object c n.0))
    → in_turn apply_all (transactions_from start n at bytes (suc count)) c ≡ Ok d → (old : List ℕ) × StartsWith start (object c n.0) old × (object d n.0 ≡ Some (overwritten at bytes old)) × LeavesOthers n.0 c d
put_leaves start n at bytes count c d is there h =
    let piece = take 64512 bytes in
    let p = parted (apply_all (start_ops start n ++ write_ops n at piece) c) (in_turn apply_all (transactions_from Keeps n (at + length piece) (drop 64512 bytes) count)) d h in
    let s = start_leaves start n (write_ops n at piece) c p.0 there p.1 in
    let first = write_leaves n at piece s.0 s.1 p.0 s.2 s.3 in
    let rest = pieces_leave count n (at + length piece) (drop 64512 bytes) (overwritten at piece s.0) p.0 d (is ∙ ap (λ (k : ℕ). (k + 64511) / 64512) (sym (length-drop 64512 bytes))) p.2 first.0 in (
      s.0,
      s.5,
      rest.0 ∙ ap Some (overwritten_on at piece (drop 64512 bytes) s.0 ∙ ap (λ (l : List ℕ). overwritten at l s.0) (take-append-drop 64512 bytes)),
      others_on n.0 c s.1 d s.4 (others_on n.0 s.1 p.0 d first.1 rest.1),
    )

-- one piece at least, and those after it
more : (size : ℕ) → (count : ℕ) × (max 1 ((size + 64511) / 64512) ≡ suc count) × (count ≡ (size - 64512 + 64511) / 64512)
more size = ((size - 64512 + 64511) / 64512, at_least size, refl)
  where
    at_least : (k : ℕ) → max 1 ((k + 64511) / 64512) ≡ suc ((k - 64512 + 64511) / 64512)
    at_least k = omega arith

abbrev Leaves : ObjectId → Option ℕ → List ℕ → Contents → Contents → Type 0
Leaves n offset bytes c d = (object d n.0 ≡ Some (bytes_put offset bytes (object c n.0))) × LeavesOthers n.0 c d

pieces_leave_bytes : (start : Start) (n : ObjectId) (offset : Option ℕ) (bytes : List ℕ) (c d : Contents) → IsStartFor offset start → (start ≡ Keeps → IsSome (object c n.0))
    → in_turn apply_all (transactions_from start n (first_byte offset) bytes (piece_count start bytes)) c ≡ Ok d → Leaves n offset bytes c d
pieces_leave_bytes Creates n None bytes c d may there h =
    let m = more (length bytes) in
    let l = put_leaves Creates n 0 bytes m.0 c d m.2 there (subst (λ (k : ℕ). in_turn apply_all (transactions_from Creates n 0 bytes k) c ≡ Ok d) m.1 h) in
    (l.2 ∙ ap (λ (old : List ℕ). Some (overwritten 0 bytes old)) l.1.1 ∙ ap Some (overwritten_none bytes), l.3)
pieces_leave_bytes Creates n (Some offset) bytes c d may there h =
    let m = more (length bytes) in
    let l = put_leaves Creates n offset bytes m.0 c d m.2 there (subst (λ (k : ℕ). in_turn apply_all (transactions_from Creates n offset bytes k) c ≡ Ok d) m.1 h) in
    (l.2 ∙ ap (λ (old : List ℕ). Some (overwritten offset bytes old)) l.1.1 ∙ ap (λ (before : Option (List ℕ)). Some (bytes_put (Some offset) bytes before)) (sym l.1.0), l.3)
pieces_leave_bytes Empties n None bytes c d may there h =
    let m = more (length bytes) in
    let l = put_leaves Empties n 0 bytes m.0 c d m.2 there (subst (λ (k : ℕ). in_turn apply_all (transactions_from Empties n 0 bytes k) c ≡ Ok d) m.1 h) in
    (l.2 ∙ ap (λ (old : List ℕ). Some (overwritten 0 bytes old)) l.1 ∙ ap Some (overwritten_none bytes), l.3)
pieces_leave_bytes Empties n (Some offset) bytes c d may there h = absurd (may refl)
pieces_leave_bytes Keeps n None bytes c d may there h = absurd (may refl)
pieces_leave_bytes Keeps n (Some offset) bytes c d may there h =
    let f = found (object c n.0) (there refl) in
    let l = pieces_leave ((length bytes + 64511) / 64512) n offset bytes f.0 c d refl h f.1 in
    (l.0 ∙ ap (λ (before : Option (List ℕ)). Some (bytes_put (Some offset) bytes before)) (sym f.1), l.1)

pub puts_leave_bytes : (start : Start) (n : ObjectId) (offset : Option ℕ) (bytes : List ℕ) (c d : Contents) → IsStartFor offset start → (start ≡ Keeps → IsSome (object c n.0))
    → in_turn apply_all (put_transactions start n offset bytes) c ≡ Ok d → Leaves n offset bytes c d
puts_leave_bytes start n offset bytes c d may there h =
    pieces_leave_bytes start n offset bytes c d may there (subst (λ (all : List (List Op)). in_turn apply_all all c ≡ Ok d) (same_put start n offset bytes) h)
