-- How writes to one object act, byte by byte.
use Rattle.std.proofs.Common.{◌≡◌, ℕ, ◌+◌, ◌-◌, ◌<◌, ◌≤◌, max, List, ◌++◌, length, get_or, take, drop, replicate, ap, sym, ◌∙◌, arith, length-append, length-drop, length-take, get_or-drop, get_or-take, ◌⊎◌, inl, inr}
use Rattle.std.proofs.lemmas.List.{ext_get_or, get_or_past, get_or-append_right, get_or_append_left, length-replicate}
use Rattle.std.proofs.lemmas.Bool.{cases_lt}
use Rattle.base.specs.history.Contents.{resize, bytes_after_write}
use Rattle.base.proofs.common.KeptLists.{get_or-zeros}

pub length-resize : (n : ℕ) (bytes : List ℕ) → length (resize n bytes) ≡ n
length-resize n bytes = simp (length-append, length-take, length-replicate) (omega arith)

pub get_or-resize : (n : ℕ) (bytes : List ℕ) (k : ℕ) → k < n → get_or (resize n bytes) k 0 ≡ get_or bytes k 0
get_or-resize n bytes k h = go (cases_lt k (length bytes))
  where
    go : (k < length bytes) ⊎ (length bytes ≤ k) → get_or (resize n bytes) k 0 ≡ get_or bytes k 0
    go (inl l) = get_or_append_left (take n bytes) (replicate (n - length bytes) 0) 0 k (simp length-take (omega arith)) ∙ get_or-take n bytes k 0 h
    go (inr g) =
        let e : length (take n bytes) ≡ length bytes = simp length-take (omega arith) in
        get_or-append_right (take n bytes) (replicate (n - length bytes) 0) (length bytes) k 0 e g ∙ get_or-zeros (n - length bytes) (k - length bytes) ∙ sym (get_or_past bytes k 0 g)

module _ (offset : ℕ) (new bytes : List ℕ) where
  length-front : length (resize offset bytes ++ new) ≡ offset + length new
  length-front = length-append (resize offset bytes) new ∙ ap (λ n. n + length new) (length-resize offset bytes)

  pub length-bytes_after_write : length (bytes_after_write offset new bytes) ≡ max (length bytes) (offset + length new)
  length-bytes_after_write = length-append (resize offset bytes ++ new) (drop (offset + length new) bytes) ∙ rw (length-front, length-drop) (omega arith)

  pub overwritten_below : (k : ℕ) → k < offset → get_or (bytes_after_write offset new bytes) k 0 ≡ get_or bytes k 0
  overwritten_below k h =
      get_or_append_left (resize offset bytes ++ new) (drop (offset + length new) bytes) 0 k (rw length-front (omega arith))
      ∙ get_or_append_left (resize offset bytes) new 0 k (rw length-resize h) ∙ get_or-resize offset bytes k h

  pub overwritten_in : (k : ℕ) → offset ≤ k → k < offset + length new → get_or (bytes_after_write offset new bytes) k 0 ≡ get_or new (k - offset) 0
  overwritten_in k h l =
      get_or_append_left (resize offset bytes ++ new) (drop (offset + length new) bytes) 0 k (rw length-front l)
      ∙ get_or-append_right (resize offset bytes) new offset k 0 (length-resize offset bytes) h

  pub overwritten_above : (k : ℕ) → offset + length new ≤ k → get_or (bytes_after_write offset new bytes) k 0 ≡ get_or bytes k 0
  overwritten_above k h =
      get_or-append_right (resize offset bytes ++ new) (drop (offset + length new) bytes) (offset + length new) k 0 length-front h
      ∙ get_or-drop (offset + length new) bytes (k - (offset + length new)) 0
      ∙ ap (λ i. get_or bytes i 0) (let e : offset + length new + (k - (offset + length new)) ≡ k = omega arith in e)

-- where a byte lies to a write
data Lies (k offset size : ℕ) : Type 0 where
  below : k < offset → Lies k offset size
  within : offset ≤ k → k < offset + size → Lies k offset size
  past : offset + size ≤ k → Lies k offset size

lies : (k offset size : ℕ) → Lies k offset size
lies k offset size = first (cases_lt k offset)
  where
    second : offset ≤ k → (k < offset + size) ⊎ (offset + size ≤ k) → Lies k offset size
    second g (inl l) = within g l
    second g (inr h) = past h

    first : (k < offset) ⊎ (offset ≤ k) → Lies k offset size
    first (inl l) = below l
    first (inr g) = second g (cases_lt k (offset + size))

-- a write leaves every byte out of its range
pub overwritten_apart : (offset : ℕ) (new bytes : List ℕ) (k : ℕ) → (k < offset) ⊎ (offset + length new ≤ k) → get_or (bytes_after_write offset new bytes) k 0 ≡ get_or bytes k 0
overwritten_apart offset new bytes k (inl l) = overwritten_below offset new bytes k l
overwritten_apart offset new bytes k (inr g) = overwritten_above offset new bytes k g

-- of two writes to ranges apart
pub overwritten_both : (o : ℕ) (x : List ℕ) (p : ℕ) (y : List ℕ) (bytes : List ℕ) → (o + length x ≤ p) ⊎ (p + length y ≤ o)
    → bytes_after_write p y (bytes_after_write o x bytes) ≡ bytes_after_write o x (bytes_after_write p y bytes)
overwritten_both o x p y bytes apart = ext_get_or 0 _ _ lengths (λ k l. at k (lies k o (length x)) (lies k p (length y)))
  where
    lengths : length (bytes_after_write p y (bytes_after_write o x bytes)) ≡ length (bytes_after_write o x (bytes_after_write p y bytes))
    lengths = length-bytes_after_write p y (bytes_after_write o x bytes) ∙ sym (length-bytes_after_write o x (bytes_after_write p y bytes) ∙ rw (length-bytes_after_write p y bytes, length-bytes_after_write o x bytes) (omega arith))

    -- the byte is in neither, in the first or in the second
    neither : (k : ℕ) → (k < o) ⊎ (o + length x ≤ k) → (k < p) ⊎ (p + length y ≤ k) → get_or (bytes_after_write p y (bytes_after_write o x bytes)) k 0 ≡ get_or (bytes_after_write o x (bytes_after_write p y bytes)) k 0
    neither k s t = overwritten_apart p y (bytes_after_write o x bytes) k t ∙ overwritten_apart o x bytes k s
        ∙ sym (overwritten_apart o x (bytes_after_write p y bytes) k s ∙ overwritten_apart p y bytes k t)

    in_first : (k : ℕ) → o ≤ k → k < o + length x → (k < p) ⊎ (p + length y ≤ k) → get_or (bytes_after_write p y (bytes_after_write o x bytes)) k 0 ≡ get_or (bytes_after_write o x (bytes_after_write p y bytes)) k 0
    in_first k g l t = overwritten_apart p y (bytes_after_write o x bytes) k t ∙ overwritten_in o x bytes k g l ∙ sym (overwritten_in o x (bytes_after_write p y bytes) k g l)

    in_second : (k : ℕ) → p ≤ k → k < p + length y → (k < o) ⊎ (o + length x ≤ k) → get_or (bytes_after_write p y (bytes_after_write o x bytes)) k 0 ≡ get_or (bytes_after_write o x (bytes_after_write p y bytes)) k 0
    in_second k g l s = overwritten_in p y (bytes_after_write o x bytes) k g l ∙ sym (overwritten_apart o x (bytes_after_write p y bytes) k s ∙ overwritten_in p y bytes k g l)

    at : (k : ℕ) → Lies k o (length x) → Lies k p (length y) → get_or (bytes_after_write p y (bytes_after_write o x bytes)) k 0 ≡ get_or (bytes_after_write o x (bytes_after_write p y bytes)) k 0
    at k (below a) (below b) = neither k (inl a) (inl b)
    at k (below a) (past b) = neither k (inl a) (inr b)
    at k (past a) (below b) = neither k (inr a) (inl b)
    at k (past a) (past b) = neither k (inr a) (inr b)
    at k (within g l) (below b) = in_first k g l (inl b)
    at k (within g l) (past b) = in_first k g l (inr b)
    at k (below a) (within g l) = in_second k g l (inl a)
    at k (past a) (within g l) = in_second k g l (inr a)
    at k (within g l) (within h m) = absurd (omega arith)
