-- Pieces that a handle writes one after another, as a loop does, are those of a long write.
use Rattle.std.proofs.Common.{◌≡◌, ◌+◌, ◌*◌, ◌/◌, ◌<◌, ◌++◌, ◌∷◌, [], ℕ, suc, List, append-nil, append_assoc, ap, arith, drop, length, length-append, max, min, refl, subst, sym, take, ◌∙◌}
use Rattle.std.specs.Prelude.{Result, Ok, Err}
use Rattle.std.proofs.Math.Seq.{drop-append_seam, take-append_seam}
use Rattle.std.proofs.lemmas.List.{drop_min, length-take, length_push, take-append-drop, take_min}
use Rattle.base.specs.declared.error.PoolError.{PoolError}
use Rattle.base.specs.declared.names.ObjectId.{ObjectId}
use Rattle.base.specs.declared.names.Owner.{Owner}
use Rattle.base.specs.declared.names.Receipt.{Receipt}
use Rattle.base.specs.declared.operation.Op.{Op}
use Rattle.base.specs.declared.operation.Op.TheVariants.{Write}
use Rattle.device_model.specs.declared.device.SectorDevice.{Ghosts}
use Rattle.pool_threads.specs.declared.handle.Handle.{Handle}
use Rattle.pool_threads.specs.LongWrites.{TransactsInOrder, WritesInPieces, piece_count, writes_from, writes_of}
use Rattle.pool_threads.specs.Handles.{StaysInPool}
use Rattle.pool_threads.specs.Transacts.{LeavesNothing, TransactsOrLacks}
use Rattle.pool_threads.proofs.Made.{met_none_on}
use Rattle.pool_threads.proofs.TransactsRelease.{nothing_left_on}
use Rattle.pool_threads.proofs.Tried.{stays_on}
use Rattle.word_lock.specs.Seats.{HasMetNone}

-- the transaction of one piece
abbrev pub piece_ops : ObjectId → ℕ → List ℕ → List Op
piece_ops n at piece = Write n at piece ∷ []

-- the transactions of the bytes that are left after the first piece
abbrev pub left_of : ObjectId → ℕ → List ℕ → List (List Op)
left_of n at rest = writes_from n at rest ((length rest + 64511) / 64512)

-- a piece comes first, and the others go on where it ends
writes_from-append : (n : ObjectId) (at : ℕ) (bytes piece others : List ℕ) (count more : ℕ) → bytes ≡ piece ++ others → length piece ≡ min 64512 (length bytes) → count ≡ suc more
    → writes_from n at bytes count ≡ piece_ops n at piece ∷ writes_from n (at + length piece) others more
writes_from-append n at bytes piece others count more whole size is =
    ap (λ (k : ℕ). writes_from n at bytes k) is
    ∙ ap (λ (p : List ℕ). piece_ops n at p ∷ writes_from n (at + length p) (drop 64512 bytes) more) taken
    ∙ ap (λ (l : List ℕ). piece_ops n at piece ∷ writes_from n (at + length piece) l more) dropped
  where
    taken : take 64512 bytes ≡ piece
    taken = sym (take_min 64512 bytes) ∙ ap (λ (k : ℕ). take k bytes) (sym size) ∙ ap (λ (l : List ℕ). take (length piece) l) whole ∙ take-append_seam piece others

    dropped : drop 64512 bytes ≡ others
    dropped = sym (drop_min 64512 bytes) ∙ ap (λ (k : ℕ). drop k bytes) (sym size) ∙ ap (λ (l : List ℕ). drop (length piece) l) whole ∙ drop-append_seam piece others

module _ (n : ObjectId) (at : ℕ) (bytes piece others : List ℕ) (whole : bytes ≡ piece ++ others) (size : length piece ≡ min 64512 (length bytes)) where
  parts : length bytes ≡ length piece + length others
  parts = ap length whole ∙ length-append piece others

  -- so it is of all bytes, and of those that are left
  pub writes_of-append : writes_of n at bytes ≡ piece_ops n at piece ∷ left_of n (at + length piece) others
  writes_of-append = writes_from-append n at bytes piece others (piece_count bytes) ((length others + 64511) / 64512) whole size (counted (length bytes) (length piece) (length others) parts size)
    where
      counted : (all first left : ℕ) → all ≡ first + left → first ≡ min 64512 all → max 1 ((all + 64511) / 64512) ≡ suc ((left + 64511) / 64512)
      counted all first left sum is = omega (arith, sum, is)

  pub left_of-append : 0 < length bytes → left_of n at bytes ≡ piece_ops n at piece ∷ left_of n (at + length piece) others
  left_of-append some = writes_from-append n at bytes piece others ((length bytes + 64511) / 64512) ((length others + 64511) / 64512) whole size (counted (length bytes) (length piece) (length others) parts size some)
    where
      counted : (all first left : ℕ) → all ≡ first + left → first ≡ min 64512 all → 0 < all → (all + 64511) / 64512 ≡ suc ((left + 64511) / 64512)
      counted all first left sum is some = omega (arith, sum, is, some)

-- the first piece, and what comes after it
pub first_piece : (k : ℕ) (bytes front back : List ℕ) → k ≡ min 64512 (length bytes) → front ≡ take k bytes → back ≡ drop k bytes → (bytes ≡ front ++ back) × (length front ≡ min 64512 (length bytes))
first_piece k bytes front back is low high = (sym (take-append-drop k bytes) ∙ ap (λ (l : List ℕ). l ++ drop k bytes) (sym low) ∙ ap (λ (l : List ℕ). front ++ l) (sym high), counted k (length front) (length bytes) is size)
  where
    size : length front ≡ min k (length bytes)
    size = ap length low ∙ length-take k bytes

    counted : (k one all : ℕ) → k ≡ min 64512 all → one ≡ min k all → one ≡ min 64512 all
    counted k one all is size = omega (arith, is, size)

-- a piece has the bytes of 16 records, or what is left
pub sized : (most taken left : ℕ) → taken ≡ min most left → most ≡ 64512 → taken ≡ min 64512 left
sized most taken left is same = is ∙ ap (λ (k : ℕ). min k left) same

module _ {Dev : Type 0} {G : Ghosts Dev} where
  -- the handle stays in its pool, has met no other, and has left nothing
  pub record StaysClean (old new : Handle Dev G) : Type 0 where
    pub same_pool : StaysInPool old new
    pub met_none : HasMetNone old.seat new.seat
    pub released : LeavesNothing old new

  pub clean_on : (old now new : Handle Dev G) → StaysClean old now → StaysClean now new → StaysClean old new
  clean_on old now new first later = record {
    same_pool = stays_on old now new first.same_pool later.same_pool;
    met_none = met_none_on old.seat now.seat new.seat first.met_none later.met_none;
    released = nothing_left_on old now new first.met_none first.released later.released;
  }

module _ {Dev : Type 0} {G : Ghosts Dev} (owner : Owner) where
  -- whatever becomes of the transactions that are left, with those so far it is what becomes of all
  abbrev pub GoesOn : List (List Op) → List (List Op) → List Receipt → Handle Dev G → Handle Dev G → Type 0
  GoesOn all left so_far first now = (receipts : List Receipt) (result : Result (Unit {0}) PoolError) (end : Handle Dev G)
      → TransactsInOrder owner left receipts result now end → TransactsInOrder owner all (so_far ++ receipts) result first end

  goes_first : (all : List (List Op)) (first : Handle Dev G) → GoesOn all all [] first first
  goes_first all first receipts result end makes = makes

  one_committed : (all left rest : List (List Op)) (ops : List Op) (so_far : List Receipt) (r : Receipt) (first now next : Handle Dev G) → left ≡ ops ∷ rest → TransactsOrLacks owner ops (Ok r) now next
      → GoesOn all left so_far first now → GoesOn all rest (so_far ++ r ∷ []) first next
  one_committed all left rest ops so_far r first now next is made goes receipts result end onward =
      subst (λ (rs : List Receipt). TransactsInOrder owner all rs result first end) (sym (append_assoc so_far (r ∷ []) receipts))
      (goes (r ∷ receipts) result end (subst (λ (l : List (List Op)). TransactsInOrder owner l (r ∷ receipts) result now end) (sym is) (next, made, onward)))

  one_refused : (all left rest : List (List Op)) (ops : List Op) (so_far : List Receipt) (e : PoolError) (first now next : Handle Dev G) → left ≡ ops ∷ rest → TransactsOrLacks owner ops (Err e) now next
      → GoesOn all left so_far first now → TransactsInOrder owner all so_far (Err e) first next
  one_refused all left rest ops so_far e first now next is refused goes =
      subst (λ (rs : List Receipt). TransactsInOrder owner all rs (Err e) first next) (append-nil so_far)
      (goes [] (Err e) next (subst (λ (l : List (List Op)). TransactsInOrder owner l [] (Err e) now next) (sym is) (e, refl, refused)))

  all_committed : (all left : List (List Op)) (so_far : List Receipt) (first now : Handle Dev G) → left ≡ [] → GoesOn all left so_far first now → TransactsInOrder owner all so_far (Ok tt) first now
  all_committed all left so_far first now none goes =
      subst (λ (rs : List Receipt). TransactsInOrder owner all rs (Ok tt) first now) (append-nil so_far)
      (goes [] (Ok tt) now (subst (λ (l : List (List Op)). TransactsInOrder owner l [] (Ok tt) now now) (sym none) (refl, refl, refl)))

  module _ (n : ObjectId) (offset : ℕ) (bytes : List ℕ) (first : Handle Dev G) where
    -- So many bytes were committed, and these are left. The last piece got this receipt.
    pub record HasWritten (last : Receipt) (committed : ℕ) (rest : List ℕ) (now : Handle Dev G) : Type 0 where
      pub earlier : List Receipt
      pub size : committed ≡ min (64512 * suc (length earlier)) (length bytes)
      pub left : committed + length rest ≡ length bytes
      pub goes : GoesOn (writes_of n offset bytes) (left_of n (offset + committed) rest) (earlier ++ last ∷ []) first now

    -- the first piece was refused, or was committed
    pub first_refused : (piece others : List ℕ) (e : PoolError) (next : Handle Dev G) → bytes ≡ piece ++ others → length piece ≡ min 64512 (length bytes)
        → TransactsOrLacks owner (piece_ops n offset piece) (Err e) first next → WritesInPieces owner n offset bytes (Err (e, 0)) first next
    first_refused piece others e next whole size refused = (
      [],
      refl,
      one_refused (writes_of n offset bytes) (writes_of n offset bytes) (left_of n (offset + length piece) others) (piece_ops n offset piece) [] e first first next (writes_of-append n offset bytes piece others whole size) refused
          (goes_first (writes_of n offset bytes) first),
    )

    pub first_committed : (piece others : List ℕ) (r : Receipt) (next : Handle Dev G) → bytes ≡ piece ++ others → length piece ≡ min 64512 (length bytes)
        → TransactsOrLacks owner (piece_ops n offset piece) (Ok r) first next → HasWritten r (length piece) others next
    first_committed piece others r next whole size made = record {
      earlier = [];
      size = size_first (length piece) (length bytes) size;
      left = sym (parts n offset bytes piece others whole size);
      goes = one_committed (writes_of n offset bytes) (writes_of n offset bytes) (left_of n (offset + length piece) others) (piece_ops n offset piece) [] r first first next (writes_of-append n offset bytes piece others whole size) made
          (goes_first (writes_of n offset bytes) first);
    }
      where
        size_first : (one all : ℕ) → one ≡ min 64512 all → one ≡ min (64512 * suc (length {A = Receipt} [])) all
        size_first one all is = omega (arith, is)

    module _ (last : Receipt) (committed : ℕ) (rest : List ℕ) (now : Handle Dev G) (h : HasWritten last committed rest now) where
      -- so was one more
      module _ (piece others : List ℕ) (next : Handle Dev G) (whole : rest ≡ piece ++ others) (size : length piece ≡ min 64512 (length rest)) (some : 0 < length rest) where
        pub more_refused : (e : PoolError) → TransactsOrLacks owner (piece_ops n (offset + committed) piece) (Err e) now next → WritesInPieces owner n offset bytes (Err (e, committed)) first next
        more_refused e refused = (
          h.earlier ++ last ∷ [],
          counted committed (length h.earlier) (length rest) (length bytes) h.size h.left some ∙ ap (λ (k : ℕ). 64512 * k) (sym (length_push h.earlier last)),
          one_refused (writes_of n offset bytes) (left_of n (offset + committed) rest) (left_of n (offset + committed + length piece) others) (piece_ops n (offset + committed) piece) (h.earlier ++ last ∷ []) e first now next
              (left_of-append n (offset + committed) rest piece others whole size some) refused h.goes,
        )
          where
            counted : (so_far count left all : ℕ) → so_far ≡ min (64512 * suc count) all → so_far + left ≡ all → 0 < left → so_far ≡ 64512 * (count + 1)
            counted so_far count left all is sum some = omega (arith, is, sum, some)

        pub more_committed : (r : Receipt) (later : ℕ) → later ≡ committed + length piece → TransactsOrLacks owner (piece_ops n (offset + committed) piece) (Ok r) now next → HasWritten r later others next
        more_committed r later is made = record {
          earlier = h.earlier ++ last ∷ [];
          size = counted committed (length h.earlier) (length rest) (length piece) (length bytes) later (length (h.earlier ++ last ∷ [])) h.size h.left some size is (length_push h.earlier last);
          left = let sum : length rest ≡ length piece + length others = parts n offset rest piece others whole size in let before : committed + length rest ≡ length bytes = h.left in omega (arith, sum, before, is);
          goes = subst (λ (k : ℕ). GoesOn (writes_of n offset bytes) (left_of n k others) ((h.earlier ++ last ∷ []) ++ r ∷ []) first next) (let ends : offset + committed + length piece ≡ offset + later = omega (arith, is) in ends)
              (one_committed (writes_of n offset bytes) (left_of n (offset + committed) rest) (left_of n (offset + committed + length piece) others) (piece_ops n (offset + committed) piece) (h.earlier ++ last ∷ []) r first now next
              (left_of-append n (offset + committed) rest piece others whole size some) made h.goes);
        }
          where
            counted : (so_far count left one all later more : ℕ) → so_far ≡ min (64512 * suc count) all → so_far + left ≡ all → 0 < left → one ≡ min 64512 left → later ≡ so_far + one → more ≡ count + 1
                → later ≡ min (64512 * suc more) all
            counted so_far count left one all later more is sum some piece ends pushed = omega (arith, is, sum, some, piece, ends, pushed)

      pub all_written : rest ≡ [] → WritesInPieces owner n offset bytes (Ok last) first now
      all_written none = (
        h.earlier,
        all_committed (writes_of n offset bytes) (left_of n (offset + committed) rest) (h.earlier ++ last ∷ []) first now (ap (λ (l : List ℕ). left_of n (offset + committed) l) none) h.goes,
      )
