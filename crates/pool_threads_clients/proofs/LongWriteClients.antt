-- What callers take from the pieces of a long write.
use Rattle.std.proofs.Common.{◌≡◌, ◌+◌, ◌-◌, ◌*◌, ◌<◌, ◌≤◌, ◌++◌, ◌∷◌, [], ℕ, List, append-nil, ap, arith, drop, inl, inr, length, min, refl, subst, sym, take, ◌∙◌}
use Rattle.std.specs.Prelude.{◌⊎◌, IfErr, IfOk, Result, Ok, Err}
use Rattle.std.proofs.lemmas.List.{length-drop, length-take, take-append-drop}
use Rattle.base.specs.declared.error.PoolError.{PoolError}
use Rattle.base.specs.declared.names.ObjectId.{ObjectId}
use Rattle.base.specs.declared.names.Owner.{Owner}
use Rattle.base.specs.declared.names.Receipt.{Receipt}
use Rattle.base.specs.declared.operation.Op.{Op}
use Rattle.base.specs.declared.operation.Op.TheVariants.{Write}
use Rattle.device_model.specs.declared.device.SectorDevice.{Ghosts}
use Rattle.pool_threads.specs.declared.handle.Handle.{Handle}
use Rattle.pool_threads.specs.Answers.{Sees}
use Rattle.pool_threads.specs.LongWrites.{TransactsInOrder, WritesInPieces, writes_of}
use Rattle.pool_threads.specs.Transacts.{IsTransacted}
use Rattle.pool_threads.proofs.Along.{along_on, along_same}
use Rattle.pool_threads.proofs.LongWrites.{writes_of-append, left_of, left_of-append, piece_ops}
use Rattle.pool_threads.proofs.TransactsSeen.{entered_by, transact_along}

none_pushed : (rs : List Receipt) (r : Receipt) → rs ++ r ∷ [] ≡ [] → ⊥
none_pushed [] r is = let no_way : r ∷ [] ≡ [] = is in cc
none_pushed (x ∷ rs) r is = let no_way : x ∷ (rs ++ r ∷ []) ≡ [] = is in cc

-- bytes of one piece, and of two
module _ (n : ObjectId) (offset : ℕ) (bytes : List ℕ) where
  writes_of-one : length bytes ≤ 64512 → writes_of n offset bytes ≡ piece_ops n offset bytes ∷ []
  writes_of-one short = writes_of-append n offset bytes bytes [] (sym (append-nil bytes)) (let all : length bytes ≡ min 64512 (length bytes) = omega (arith, short) in all)

  writes_of-two : 64512 < length bytes → length bytes ≤ 129024 → writes_of n offset bytes ≡ piece_ops n offset (take 64512 bytes) ∷ piece_ops n (offset + 64512) (drop 64512 bytes) ∷ []
  writes_of-two more short =
      writes_of-append n offset bytes (take 64512 bytes) (drop 64512 bytes) (sym (take-append-drop 64512 bytes)) (length-take 64512 bytes)
      ∙ ap (λ (k : ℕ). piece_ops n offset (take 64512 bytes) ∷ left_of n (offset + k) (drop 64512 bytes)) first
      ∙ ap (λ (l : List (List Op)). piece_ops n offset (take 64512 bytes) ∷ l)
      (left_of-append n (offset + 64512) (drop 64512 bytes) (drop 64512 bytes) [] (sym (append-nil (drop 64512 bytes))) (let all : length (drop 64512 bytes) ≡ min 64512 (length (drop 64512 bytes)) = omega (arith, later, short) in all)
      (let some : 0 < length (drop 64512 bytes) = omega (arith, later, more) in some))
    where
      first : length (take 64512 bytes) ≡ 64512
      first = let size : length (take 64512 bytes) ≡ min 64512 (length bytes) = length-take 64512 bytes in omega (arith, size, more)

      later : length (drop 64512 bytes) ≡ length bytes - 64512
      later = length-drop 64512 bytes

module _ {Dev : Type 0} {G : Ghosts Dev} (owner : Owner) (old new : Handle Dev G) where
  -- one transaction of all, and both of two
  one_entered : (ops : List Op) (earlier : List Receipt) (r : Receipt) → TransactsInOrder owner (ops ∷ []) (earlier ++ r ∷ []) (Ok tt) old new → Sees (IsTransacted ops r) old new
  one_entered ops [] r (next, made, (none, done, same)) = entered_by owner ops r old old next new (along_same old old refl) made (along_same next new same)
  one_entered ops (x ∷ xs) r (next, made, (none, done, same)) = absurd (none_pushed xs r none)

  abbrev pub AreBothEntered : List Op → List Op → Receipt → Type 0
  AreBothEntered ops later r = (first : Receipt) × Sees (IsTransacted ops first) old new × Sees (IsTransacted later r) old new

  both_entered : (ops later : List Op) (earlier : List Receipt) (r : Receipt) → TransactsInOrder owner (ops ∷ later ∷ []) (earlier ++ r ∷ []) (Ok tt) old new → AreBothEntered ops later r
  both_entered ops later [] r (next, made, (e, is, refused)) = absurd (let no_way : Ok tt ≡ Err e = is in cc)
  both_entered ops later (x ∷ []) r (next, made, (last, more, (none, done, same))) = (
    x,
    entered_by owner ops x old old next new (along_same old old refl) made (along_on next last new (transact_along owner later (Ok r) next last more) (along_same last new same)),
    entered_by owner later r old next last new (transact_along owner ops (Ok x) old next made) more (along_same last new same),
  )
  both_entered ops later (x ∷ y ∷ zs) r (next, made, (last, more, (none, done, same))) = absurd (none_pushed zs r none)

  -- of two the first was refused, or the second
  abbrev pub IsFirstAtMost : List Op → ℕ → Type 0
  IsFirstAtMost ops committed = (committed ≡ 0) ⊎ ((committed ≡ 64512) × ((first : Receipt) × Sees (IsTransacted ops first) old new))

  first_at_most : (ops later : List Op) (receipts : List Receipt) (e : PoolError) (committed : ℕ) → committed ≡ 64512 * length receipts → TransactsInOrder owner (ops ∷ later ∷ []) receipts (Err e) old new → IsFirstAtMost ops committed
  first_at_most ops later [] e committed is t = inl is
  first_at_most ops later (x ∷ []) e committed is (next, made, (f, why, refused)) = inr (is, (x, entered_by owner ops x old old next new (along_same old old refl) made (transact_along owner later (Err f) next new refused)))
  first_at_most ops later (x ∷ y ∷ zs) e committed is (next, made, (last, more, (none, done, same))) = absurd (let no_way : Err e ≡ Ok tt = done in cc)

  module _ (n : ObjectId) (offset : ℕ) (bytes : List ℕ) where
    pub one_is_one : length bytes ≤ 64512 → (result : Result Receipt (PoolError × ℕ)) → WritesInPieces owner n offset bytes result old new → IfOk result (λ r. Sees (IsTransacted (Write n offset bytes ∷ []) r) old new)
    one_is_one short (Ok r) (earlier, t) =
        one_entered (piece_ops n offset bytes) earlier r (subst (λ (l : List (List Op)). TransactsInOrder owner l (earlier ++ r ∷ []) (Ok tt) old new) (writes_of-one n offset bytes short) t)
    one_is_one short (Err e) w = tt

    module _ (more : 64512 < length bytes) (short : length bytes ≤ 129024) where
      pub two_are_two : (result : Result Receipt (PoolError × ℕ)) → WritesInPieces owner n offset bytes result old new
          → IfOk result (λ r. AreBothEntered (Write n offset (take 64512 bytes) ∷ []) (Write n (offset + 64512) (drop 64512 bytes) ∷ []) r)
      two_are_two (Ok r) (earlier, t) =
          both_entered (piece_ops n offset (take 64512 bytes)) (piece_ops n (offset + 64512) (drop 64512 bytes)) earlier r
          (subst (λ (l : List (List Op)). TransactsInOrder owner l (earlier ++ r ∷ []) (Ok tt) old new) (writes_of-two n offset bytes more short) t)
      two_are_two (Err e) w = tt

      pub first_stays : (result : Result Receipt (PoolError × ℕ)) → WritesInPieces owner n offset bytes result old new → IfErr result (λ e. IsFirstAtMost (Write n offset (take 64512 bytes) ∷ []) e.1)
      first_stays (Ok r) w = tt
      first_stays (Err (e, committed)) (receipts, is, t) =
          first_at_most (piece_ops n offset (take 64512 bytes)) (piece_ops n (offset + 64512) (drop 64512 bytes)) receipts e committed is
          (subst (λ (l : List (List Op)). TransactsInOrder owner l receipts (Err e) old new) (writes_of-two n offset bytes more short) t)
