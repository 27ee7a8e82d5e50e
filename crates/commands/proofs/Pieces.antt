-- The transactions of a put: a first piece, and a long write of the bytes after it.
use Rattle.std.proofs.Common.{◌≡◌, ◌≢◌, ◌+◌, ◌-◌, ◌*◌, ◌/◌, ◌<◌, ◌≤◌, ◌++◌, ◌∷◌, [], ℕ, zero, suc, List, Ok, Err, ap, arith, drop, length, length-drop, max, min, refl, subst, sym, take, true, ◌∙◌}
use Rattle.std.specs.Prelude.{Option, Result, nat_le, nat_lt, ◌&&◌}
use Rattle.std.proofs.lemmas.Bool.{and_parts, leb-true}
use Rattle.std.proofs.lemmas.List.{drop_min, length-take, take_min}
use Rattle.base.specs.declared.error.PoolError.{PoolError}
use Rattle.base.specs.declared.names.ObjectId.{ObjectId}
use Rattle.base.specs.declared.names.Receipt.{Receipt}
use Rattle.base.specs.declared.operation.Op.{Op}
use Rattle.base.specs.declared.operation.Op.TheVariants.{Write}
use Rattle.base.specs.formats.Limits.{max_length, object_count}
use Rattle.device_model.specs.declared.device.SectorDevice.{Ghosts}
use Rattle.pool_threads.specs.declared.handle.Handle.{Handle}
use Rattle.pool_threads.specs.LongWrites.{TransactsInOrder, WritesInPieces, writes_from, writes_of}
use Rattle.pool_threads.specs.Transacts.{TransactsOrLacks}
use Rattle.running_pools.specs.Commits.{MakesFirst, command_owner}
use Rattle.commands.specs.Puts.{first_byte, is_target, piece_ops, put_transactions, rest_transactions, write_ops}
use Rattle.commands.specs.declared.changes.Start.{Start}
use Rattle.commands.specs.declared.changes.Start.TheVariants.{Creates, Empties, Keeps}
use Rattle.commands.proofs.Committed.{all_counted}

-- the bytes of a put end within the longest object
pub ends_within : (object : ℕ) (offset : Option ℕ) (bytes : List ℕ) → is_target object offset bytes ≡ true → first_byte offset + length bytes ≤ max_length
ends_within object offset bytes is =
    let inner = and_parts (nat_lt object object_count) (nat_le (first_byte offset) max_length && nat_le (length bytes) (max_length - first_byte offset)) is in
    let both = and_parts (nat_le (first_byte offset) max_length) (nat_le (length bytes) (max_length - first_byte offset)) inner.1 in
    within (first_byte offset) (length bytes) (leb-true (first_byte offset) max_length both.0) (leb-true (length bytes) (max_length - first_byte offset) both.1)
  where
    within : (at size : ℕ) → at ≤ 28449792 → size ≤ 28449792 - at → at + size ≤ 28449792
    within at size low high = omega (arith, low, high)

-- the transactions of so many pieces of these bytes, one after another from this place on
abbrev pub transactions_from : Start → ObjectId → ℕ → List ℕ → ℕ → List (List Op)
transactions_from start n at bytes zero = []
transactions_from start n at bytes (suc count) =
    piece_ops start n at (take 64512 bytes) ∷ transactions_from Keeps n (at + length (take 64512 bytes)) (drop 64512 bytes) count

-- how many pieces a put has: one at least if it makes or empties the object
abbrev pub piece_count : Start → List ℕ → ℕ
piece_count Keeps bytes = (length bytes + 64511) / 64512
piece_count start bytes = max 1 ((length bytes + 64511) / 64512)

-- bytes that are not none are written by a write
one_write : (n : ObjectId) (at : ℕ) (piece : List ℕ) → 0 < length piece → write_ops n at piece ≡ Write n at piece ∷ []
one_write n at [] some = absurd (omega (arith, some))
one_write n at (byte ∷ bytes) some = refl

some_taken : (bytes : List ℕ) → 0 < length bytes → 0 < length (take 64512 bytes)
some_taken bytes some = let size = length-take 64512 bytes in omega (arith, size, some)

-- pieces that keep what the object has are writes alone
pub same_writes : (count : ℕ) (n : ObjectId) (at : ℕ) (bytes : List ℕ) → count ≡ (length bytes + 64511) / 64512 → transactions_from Keeps n at bytes count ≡ writes_from n at bytes count
same_writes zero n at bytes are = refl
same_writes (suc count) n at bytes are =
    let piece : List ℕ = take 64512 bytes in
    let rest : List ℕ = drop 64512 bytes in
    let left : length rest ≡ length bytes - 64512 = length-drop 64512 bytes in
    let some : 0 < length bytes = omega (arith, are) in
    let fewer : count ≡ (length rest + 64511) / 64512 = omega (arith, are, left) in
    ap (λ (ops : List Op). ops ∷ transactions_from Keeps n (at + length piece) rest count) (one_write n at piece (some_taken bytes some))
    ∙ ap (λ (others : List (List Op)). (Write n at piece ∷ []) ∷ others) (same_writes count n (at + length piece) rest fewer)

-- so they are the writes of all bytes, if there are any
pub kept_writes : (n : ObjectId) (at : ℕ) (bytes : List ℕ) → 0 < length bytes → transactions_from Keeps n at bytes (piece_count Keeps bytes) ≡ writes_of n at bytes
kept_writes n at bytes some =
    same_writes ((length bytes + 64511) / 64512) n at bytes refl
    ∙ ap (λ (k : ℕ). writes_from n at bytes k) (one_at_least (length bytes) some)
  where
    one_at_least : (k : ℕ) → 0 < k → (k + 64511) / 64512 ≡ max 1 ((k + 64511) / 64512)
    one_at_least k some = omega (arith, some)

same_rest : (n : ObjectId) (at : ℕ) (bytes : List ℕ) → rest_transactions n at bytes ≡ transactions_from Keeps n at bytes (piece_count Keeps bytes)
same_rest n at [] = refl
same_rest n at (byte ∷ bytes) = sym (kept_writes n at (byte ∷ bytes) (omega arith))

-- the transactions of a put are those of its pieces
pub same_put : (start : Start) (n : ObjectId) (offset : Option ℕ) (bytes : List ℕ) → put_transactions start n offset bytes ≡ transactions_from start n (first_byte offset) bytes (piece_count start bytes)
same_put start n offset bytes = by start
  where
    at : ℕ
    at = first_byte offset

    more : (k l : ℕ) → l ≡ k - 64512 → suc ((l + 64511) / 64512) ≡ max 1 ((k + 64511) / 64512)
    more k l are = omega (arith, are)

    counted : suc (piece_count Keeps (drop 64512 bytes)) ≡ max 1 ((length bytes + 64511) / 64512)
    counted = more (length bytes) (length (drop 64512 bytes)) (length-drop 64512 bytes)

    others : rest_transactions n (at + length (take 64512 bytes)) (drop 64512 bytes) ≡ transactions_from Keeps n (at + length (take 64512 bytes)) (drop 64512 bytes) (piece_count Keeps (drop 64512 bytes))
    others = same_rest n (at + length (take 64512 bytes)) (drop 64512 bytes)

    by : (s : Start) → put_transactions s n offset bytes ≡ transactions_from s n at bytes (piece_count s bytes)
    by Creates = ap (λ (l : List (List Op)). piece_ops Creates n at (take 64512 bytes) ∷ l) others ∙ ap (λ (k : ℕ). transactions_from Creates n at bytes k) counted
    by Empties = ap (λ (l : List (List Op)). piece_ops Empties n at (take 64512 bytes) ∷ l) others ∙ ap (λ (k : ℕ). transactions_from Empties n at bytes k) counted
    by Keeps = same_rest n at bytes

-- bytes that are there are written as by a long write
pub rest_written : (n : ObjectId) (at : ℕ) (bytes : List ℕ) → 0 < length bytes → rest_transactions n at bytes ≡ writes_of n at bytes
rest_written n at [] some = absurd (omega (arith, some))
rest_written n at (byte ∷ bytes) some = refl

-- the first piece of a put, and the bytes after it
pub first_piece : (start : Start) (n : ObjectId) (offset : Option ℕ) (at : ℕ) (bytes first rest : List ℕ) → start ≢ Keeps → at ≡ first_byte offset → first ≡ take (min 64512 (length bytes)) bytes → rest ≡ drop (min 64512 (length bytes)) bytes
    → put_transactions start n offset bytes ≡ piece_ops start n at first ∷ rest_transactions n (at + length first) rest
first_piece start n offset at bytes first rest changes begins is left =
    by start changes
    ∙ ap (λ (k : ℕ). piece_ops start n k (take 64512 bytes) ∷ rest_transactions n (k + length (take 64512 bytes)) (drop 64512 bytes)) (sym begins)
    ∙ ap (λ (p : List ℕ). piece_ops start n at p ∷ rest_transactions n (at + length p) (drop 64512 bytes)) (sym (is ∙ take_min 64512 bytes))
    ∙ ap (λ (l : List ℕ). piece_ops start n at first ∷ rest_transactions n (at + length first) l) (sym (left ∙ drop_min 64512 bytes))
  where
    by : (s : Start) → s ≢ Keeps → put_transactions s n offset bytes ≡ piece_ops s n (first_byte offset) (take 64512 bytes) ∷ rest_transactions n (first_byte offset + length (take 64512 bytes)) (drop 64512 bytes)
    by Creates other = refl
    by Empties other = refl
    by Keeps other = absurd (other refl)

pub count_written : (n : ObjectId) (at : ℕ) (bytes : List ℕ) (count : ℕ) → length (writes_from n at bytes count) ≡ count
count_written n at bytes zero = refl
count_written n at bytes (suc count) = ap suc (count_written n (at + length (take 64512 bytes)) (drop 64512 bytes) count)

pub some_bytes : (size : ℕ) → size ≢ 0 → 0 < size
some_bytes size some = omega (arith, some)

one_at_least : (size : ℕ) → 0 < size → max 1 ((size + 64511) / 64512) ≡ (size + 64511) / 64512
one_at_least size some = omega (arith, some)

-- how many bytes so many pieces have: all, or those of whole pieces
pub all_sized : (size : ℕ) → size ≡ min (64512 * ((size + 64511) / 64512)) size
all_sized size = omega arith

some_sized : (committed count size : ℕ) → committed ≡ 64512 * count → count < max 1 ((size + 64511) / 64512) → 0 < size → committed ≡ min (64512 * ((committed + 64511) / 64512)) size
some_sized committed count size are fewer some = omega (arith, are, fewer, some)

counted_back : (committed count : ℕ) → committed ≡ 64512 * count → count ≡ (committed + 64511) / 64512
counted_back committed count are = omega (arith, are)

-- pieces of these bytes are no more than the bytes
pub few_enough : (count committed size : ℕ) → count ≡ (committed + 64511) / 64512 → committed ≡ min (64512 * ((committed + 64511) / 64512)) size → count ≤ size
few_enough count committed size is within = omega (arith, is, within)

module _ {Dev : Type 0} {G : Ghosts Dev} where
  in_order : (all : List (List Op)) (receipts : List Receipt) (result : Result (Unit {0}) PoolError) (old new : Handle Dev G) → TransactsInOrder command_owner all receipts result old new → MakesFirst all (length receipts) result old new
  in_order [] receipts result old new (none, is, same) = (ap length none, is, same)
  in_order (ops ∷ rest) [] result old new refused = refused
  in_order (ops ∷ rest) (r ∷ rs) result old new (next, made, more) = (r, next, made, in_order rest rs result next new more)

  not_all : (all : List (List Op)) (receipts : List Receipt) (e : PoolError) (old new : Handle Dev G) → TransactsInOrder command_owner all receipts (Err e) old new → length receipts < length all
  not_all [] receipts e old new (none, is, same) = absurd (let no_way : Err e ≡ Ok tt = is in cc)
  not_all (ops ∷ rest) [] e old new refused = omega arith
  not_all (ops ∷ rest) (r ∷ rs) e old new (next, made, more) = let fewer : length rs < length rest = not_all rest rs e next new more in omega (arith, fewer)

  -- a first transaction that was committed, and those after it
  pub first_committed : (all rest : List (List Op)) (ops : List Op) (count more : ℕ) (r : Receipt) (result : Result (Unit {0}) PoolError) (old next new : Handle Dev G) → all ≡ ops ∷ rest → more ≡ count + 1
      → TransactsOrLacks command_owner ops (Ok r) old next → MakesFirst rest count result next new → MakesFirst all more result old new
  first_committed all rest ops count more r result old next new are added made others =
      subst (λ (k : ℕ). MakesFirst all k result old new) (let same : suc count ≡ more = omega (arith, added) in same)
      (subst (λ (l : List (List Op)). MakesFirst l (suc count) result old new) (sym are) (r, next, made, others))

  module _ (n : ObjectId) (at : ℕ) (bytes : List ℕ) (old new : Handle Dev G) (some : 0 < length bytes) where
    -- what a long write of the bytes committed, as transactions of a put
    pub wrote_all : (last : Receipt) → WritesInPieces command_owner n at bytes (Ok last) old new → MakesFirst (rest_transactions n at bytes) ((length bytes + 64511) / 64512) (Ok tt) old new
    wrote_all last (earlier, writes) =
        let all : List (List Op) = writes_of n at bytes in
        let receipts : List Receipt = earlier ++ last ∷ [] in
        let made = in_order all receipts (Ok tt) old new writes in
        let count : length receipts ≡ (length bytes + 64511) / 64512 = all_counted all (length receipts) old new made ∙ count_written n at bytes (max 1 ((length bytes + 64511) / 64512)) ∙ one_at_least (length bytes) some in
        subst (λ (k : ℕ). MakesFirst (rest_transactions n at bytes) k (Ok tt) old new) count
        (subst (λ (l : List (List Op)). MakesFirst l (length receipts) (Ok tt) old new) (sym (rest_written n at bytes some)) made)

    pub wrote_some : (e : PoolError) (committed : ℕ) → WritesInPieces command_owner n at bytes (Err (e, committed)) old new
        → MakesFirst (rest_transactions n at bytes) ((committed + 64511) / 64512) (Err e) old new × (committed ≡ min (64512 * ((committed + 64511) / 64512)) (length bytes))
    wrote_some e committed (receipts, are, writes) =
        let all : List (List Op) = writes_of n at bytes in
        let fewer : length receipts < length all = not_all all receipts e old new writes in
        let within : length receipts < max 1 ((length bytes + 64511) / 64512) = subst (λ (k : ℕ). length receipts < k) (count_written n at bytes (max 1 ((length bytes + 64511) / 64512))) fewer in (
          subst (λ (k : ℕ). MakesFirst (rest_transactions n at bytes) k (Err e) old new) (counted_back committed (length receipts) are)
              (subst (λ (l : List (List Op)). MakesFirst l (length receipts) (Err e) old new) (sym (rest_written n at bytes some)) (in_order all receipts (Err e) old new writes)),
          some_sized committed (length receipts) (length bytes) are within some,
        )
