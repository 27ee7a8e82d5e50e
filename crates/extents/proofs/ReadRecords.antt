-- Bytes of a patched object, from those of the object below.
use Rattle.std.proofs.Common.{◌≡◌, ℕ, ◌+◌, ◌-◌, ◌*◌, ◌<◌, ◌≤◌, max, min, true, false, cond, refl, ap, sym, subst, ◌∙◌, arith, ◌⊎◌, inl, inr, List, [], length, get_or, take, Option, Some, None, length-take, get_or-take}
use Rattle.std.specs.Prelude.{Bool, not, ◌||◌, is_some, nat_lt, option_map, unwrap_or}
use Rattle.std.proofs.lemmas.List.{get_or_past}
use Rattle.std.proofs.lemmas.Bool.{cases_lt, lt-ltb, le-ltb}
use Rattle.std.proofs.Math.Bool.{or-true}
use Rattle.tree_blocks.specs.Sources.{AreBytesFrom}
use Rattle.extents.specs.declared.basis.Basis.{Basis}
use Rattle.extents.specs.declared.basis.Basis.TheVariants.{Grown, Cut, Made, Gone}
use Rattle.extents.specs.Objects.{HidesBelow, LaysOn}
use Rattle.extents.specs.Patches.{IsSized, Patch, is_shown, length_over, patched}
use Rattle.extents.proofs.PatchedBytes.{filled-at}

-- how many bytes of a record are kept
pub shown_count : (kept begin count k : ℕ) → k < 4032 → count ≡ min (max kept begin - begin) 4032 → nat_lt k count ≡ nat_lt (begin + k) kept
shown_count kept begin count k inside is = go (cases_lt (begin + k) kept)
  where
    go : (begin + k < kept) ⊎ (kept ≤ begin + k) → nat_lt k count ≡ nat_lt (begin + k) kept
    go (inl l) = rw (lt-ltb k count (omega arith), lt-ltb (begin + k) kept l) refl
    go (inr g) = rw (le-ltb k count (omega arith), le-ltb (begin + k) kept g) refl

-- a byte of a patched object that is there
pub patched-byte : (basis : Basis) (written : ℕ → Option ℕ) (object : Option (List ℕ)) (size : ℕ) → IsSized (record { basis = basis; written = written })
    → length_over basis (option_map length object) ≡ Some size → (i : ℕ)
    → get_or (unwrap_or (patched (record { basis = basis; written = written }) object) []) i 0
    ≡ unwrap_or (written i) (cond (is_shown basis i) (get_or (unwrap_or object []) i 0) 0)
patched-byte (Grown end) written None size sized is i = absurd (let no_way : None ≡ Some size = is in cc)
patched-byte (Grown end) written (Some bytes) size sized is i =
    filled-at written bytes (max (length bytes) end) (λ j wrote. let h : j < end = sized j wrote in omega arith) (omega arith) i
patched-byte (Cut kept new) written None size sized is i = absurd (let no_way : None ≡ Some size = is in cc)
patched-byte (Cut kept new) written (Some bytes) size sized is i =
    let k : kept ≤ new = sized.0 in
    filled-at written (take kept bytes) new sized.1 (rw length-take (omega arith)) i ∙ ap (unwrap_or (written i)) (go (cases_lt i kept))
  where
    go : (i < kept) ⊎ (kept ≤ i) → get_or (take kept bytes) i 0 ≡ cond (nat_lt i kept) (get_or bytes i 0) 0
    go (inl l) = rw (lt-ltb i kept l) (get_or-take kept bytes i 0 l)
    go (inr g) = rw (le-ltb i kept g) (get_or_past (take kept bytes) i 0 (rw length-take (omega arith)))
patched-byte (Made new) written object size sized is i = filled-at written [] new sized (omega arith) i
patched-byte Gone written object size sized is i = absurd (let no_way : None ≡ Some size = is in cc)

-- how many bytes of a part of a record are kept
count_shown : (shown start size count k : ℕ) → count ≡ min (shown - start) size → k < size → nat_lt k count ≡ nat_lt (start + k) shown
count_shown shown start size count k is inside = go (cases_lt (start + k) shown)
  where
    go : (start + k < shown) ⊎ (shown ≤ start + k) → nat_lt k count ≡ nat_lt (start + k) shown
    go (inl l) = rw (lt-ltb k count (omega arith), lt-ltb (start + k) shown l) refl
    go (inr g) = rw (le-ltb k count (omega arith), le-ltb (start + k) shown g) refl

seen_alone : (b shows : Bool) → (b || not shows) ≡ true → shows ≡ true → b ≡ true
seen_alone true shows either is = refl
seen_alone false true either is = either
seen_alone false false either is = is

-- Bytes of the record that were written, or that don't show, hide those below.
module _ (basis : Basis) (written : ℕ → Option ℕ) (index start shown count size : ℕ)
    (tells : (k : ℕ) → k < 4032 → nat_lt k shown ≡ is_shown basis (4032 * index + k)) (is_count : count ≡ min (shown - start) size) (within : start + size ≤ 4032) where
  pub hides_below : ((k : ℕ) → k < count → is_some (written (4032 * index + (start + k))) ≡ true) → HidesBelow (record { basis = basis; written = written }) (4032 * index + start) size
  hides_below covers k inside =
      let same : 4032 * index + (start + k) ≡ 4032 * index + start + k = omega arith in
      let shows : nat_lt k count ≡ is_shown basis (4032 * index + (start + k)) = count_shown shown start size count k is_count inside ∙ tells (start + k) (omega (arith, within, inside)) in
      subst (λ (j : ℕ). (is_some (written j) || not (is_shown basis j)) ≡ true) same (go (cases_lt k count) shows)
    where
      go : (k < count) ⊎ (count ≤ k) → nat_lt k count ≡ is_shown basis (4032 * index + (start + k))
          → (is_some (written (4032 * index + (start + k))) || not (is_shown basis (4032 * index + (start + k)))) ≡ true
      go (inl l) shows = rw (covers k l) refl
      go (inr g) shows = rw (sym shows, le-ltb k count g) (or-true (is_some (written (4032 * index + (start + k)))))

  -- and where those below are hidden, each byte that shows was written
  pub written_where_hidden : HidesBelow (record { basis = basis; written = written }) (4032 * index + start) size → (k : ℕ) → k < count → is_some (written (4032 * index + (start + k))) ≡ true
  written_where_hidden hides k low =
      let inside : k < size = omega (arith, is_count, low) in
      let same : 4032 * index + start + k ≡ 4032 * index + (start + k) = omega arith in
      let shows : is_shown basis (4032 * index + (start + k)) ≡ true = sym (tells (start + k) (omega (arith, within, inside))) ∙ sym (count_shown shown start size count k is_count inside) ∙ lt-ltb k count low in
      seen_alone _ _ (subst (λ (j : ℕ). (is_some (written j) || not (is_shown basis j)) ≡ true) same (hides k inside)) shows

  pub shows_first : 0 < count → is_shown basis (4032 * index + start) ≡ true
  shows_first some = sym (tells start (omega arith)) ∙ lt-ltb start shown (omega arith)

-- what is hidden may be anything
unseen : (o : Option ℕ) (b : Bool) (x y : ℕ) → (is_some o || not b) ≡ true → unwrap_or o (cond b x 0) ≡ unwrap_or o (cond b y 0)
unseen (Some v) b x y is = refl
unseen None false x y is = refl
unseen None true x y is = absurd (let no_way : false ≡ true = is in cc)

-- The bytes of a patched object that is there, from bytes of the one below, or from any where these are hidden.
module _ (p : Patch) (object : Option (List ℕ)) (offset size : ℕ) (old new : List ℕ) (sized : IsSized p) (is : length_over p.basis (option_map length object) ≡ Some size)
    (long : length new ≡ length old) (lays : LaysOn p offset old new) where
  pub bytes_over : AreBytesFrom offset (unwrap_or object []) old → AreBytesFrom offset (unwrap_or (patched p object) []) new
  bytes_over reads k low =
      let inside : k < length old = rw long at low in
      lays k inside ∙ ap (λ v. unwrap_or (p.written (offset + k)) (cond (is_shown p.basis (offset + k)) v 0)) (reads k inside)
      ∙ sym (patched-byte p.basis p.written object size sized is (offset + k))

  pub bytes_alone : HidesBelow p offset (length old) → AreBytesFrom offset (unwrap_or (patched p object) []) new
  bytes_alone hides k low =
      let inside : k < length old = rw long at low in
      lays k inside
      ∙ unseen (p.written (offset + k)) (is_shown p.basis (offset + k)) (get_or old k 0) (get_or (unwrap_or object []) (offset + k) 0) (hides k inside)
      ∙ sym (patched-byte p.basis p.written object size sized is (offset + k))

pub some_at : (o : Option ℕ) → is_some o ≡ true → (n : ℕ) × (o ≡ Some n)
some_at None is = absurd (let no_way : false ≡ true = is in cc)
some_at (Some n) is = (n, refl)
