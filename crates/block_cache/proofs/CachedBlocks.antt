-- What a cache has after a look-up, a put and a drop, and after a write to the device.
use Rattle.std.proofs.Common.{◌≡◌, ◌≢◌, Bool, true, false, ◌∷◌, ◌-◌, ℕ, ◌+◌, ◌%◌, ◌≤◌, ◌⊎◌, List, [], Contains, Some, nat_eq, length, drop, refl, sym, subst, ap, inl, inr, ◌∙◌, arith}
use Rattle.std.specs.Prelude.{IsTrue}
use Rattle.std.specs.List.{AllByRecursion, IsDistinct}
use Rattle.std.specs.Map.{keys_of, lookup, remove_entry}
use Rattle.std.proofs.lemmas.Bool.{cases_lt, eq-eqb, eqb-true, false≢true}
use Rattle.std.proofs.lemmas.Map.Keys.{IsDistinct-head, IsDistinct-tail}
use Rattle.lru.proofs.Splits.{Contains-cons, Contains-nil}
use Rattle.lru.specs.LruCache.{LruCache, lru_cache, promoted, put_entries}
use Rattle.lru.proofs.CallerLemmas.{Contains-lookup, Contains-promoted, Contains-put_entries, Contains-remove_entry}
use Rattle.base.specs.disk.Disk.{Apart, put}
use Rattle.base.specs.formats.Blocks.{payload_at}
use Rattle.base.specs.formats.Geometry.{IsBlockAddress}
use Rattle.base.proofs.disk.Put.{part-put_apart}
use Rattle.block_cache.specs.CachedEntries.{AgreesWith, DropsIn}
use Rattle.object_maps.specs.Cached.{OnlyLeft}

-- what is left agrees
pub left-agrees : (image : List ℕ) (old new : List (ℕ × List ℕ)) → OnlyLeft old new → AgreesWith image old → AgreesWith image new
left-agrees image old new left agrees = λ address payload there. agrees address payload (left address payload there)

-- a look-up changes the order alone
pub promoted-left : (at : ℕ) (old new : List (ℕ × List ℕ)) → new ≡ promoted (nat_eq at) old → OnlyLeft old new
promoted-left at old new same = λ address payload there. Contains-promoted (nat_eq at) old (address, payload) (rw same at there)

pub removed-left : (at : ℕ) (old new : List (ℕ × List ℕ)) → new ≡ remove_entry (nat_eq at) old → OnlyLeft old new
removed-left at old new same = λ address payload there. Contains-remove_entry (nat_eq at) old (address, payload) (rw same at there)

-- what is found was there
pub found-there : (at : ℕ) (old : List (ℕ × List ℕ)) (payload : List ℕ) → lookup (nat_eq at) (promoted (nat_eq at) old) ≡ Some payload → Contains old (at, payload)
found-there at old payload found =
    let (key, there, same) = Contains-lookup (nat_eq at) (promoted (nat_eq at) old) payload found in
    let key_is : key ≡ at = sym (eqb-true at key same) in
    subst (λ (k : ℕ). Contains old (k, payload)) key_is (Contains-promoted (nat_eq at) old (key, payload) there)

-- and is the payload of the block there
pub found-agrees : (image : List ℕ) (at : ℕ) (old : List (ℕ × List ℕ)) (payload : List ℕ) → AgreesWith image old
    → lookup (nat_eq at) (promoted (nat_eq at) old) ≡ Some payload → payload ≡ payload_at image at
found-agrees image at old payload agrees found = (agrees at payload (found-there at old payload found)).1

-- a block of the area has the address of a whole block
pub aligned : (blocks address : ℕ) → IsBlockAddress blocks address → address % 4096 ≡ 0
aligned blocks address (k, low, at) = omega (arith, at)

-- a put changes nothing, or adds the payload of the block there
pub put-agrees : (image : List ℕ) (at : ℕ) (payload : List ℕ) (old new : LruCache ℕ (List ℕ))
    → (new ≡ old) ⊎ (new ≡ lru_cache (put_entries nat_eq old at payload) old.cap) → at % 4096 ≡ 0 → payload ≡ payload_at image at
    → AgreesWith image old.entries → AgreesWith image new.entries
put-agrees image at payload old new (inl same) whole is agrees = rw same agrees
put-agrees image at payload old new (inr put) whole is agrees = λ address other there.
    elim (Contains-put_entries nat_eq old at payload (address, other) (rw put at there)) [
      | inl was ↦ agrees address other was
      | inr p ↦ elim p.1 [
        | inl key ↦ (ap (λ (a : ℕ). a % 4096) key ∙ whole, p.0 ∙ is ∙ ap (λ (a : ℕ). payload_at image a) (sym key))
        | inr q ↦
            let same : at ≡ address = eqb-true at address q.2 in
            (ap (λ (a : ℕ). a % 4096) (sym same) ∙ whole, p.0 ∙ is ∙ ap (λ (a : ℕ). payload_at image a) same)
      ]
    ]

-- two whole blocks at different addresses have no byte in common, nor has one a byte of a range within the other
pub apart_within : (at count block address : ℕ) → block % 4096 ≡ 0 → address % 4096 ≡ 0 → address ≢ block → block ≤ at → at + count ≤ block + 4096 → Apart at count address 4096
apart_within at count block address whole other differ from to = elim (cases_lt address block) as (λ _. Apart at count address 4096) [
  | inl below ↦ inr (omega (arith, below, whole, other, from))
  | inr above ↦ inl (omega (arith, above, differ, whole, other, to))
]

-- after a write of a range of which the cache has no byte it agrees with the new bytes
pub written-agrees : (image : List ℕ) (at : ℕ) (content : List ℕ) (old new : List (ℕ × List ℕ)) → at + length content ≤ length image
    → DropsIn at (length content) old new → AgreesWith image old → AgreesWith (put at content image) new
written-agrees image at content old new fits drops agrees = λ address payload there.
    let d = drops address payload there in
    let a = agrees address payload d.0 in
    (a.0, a.1 ∙ ap (λ (l : List ℕ). drop 64 l) (sym (part-put_apart at content image address 4096 fits (d.1 a.0))))

-- and with the same bytes where the write was refused
pub dropped-agrees : (image : List ℕ) (at count : ℕ) (old new : List (ℕ × List ℕ)) → DropsIn at count old new → AgreesWith image old → AgreesWith image new
dropped-agrees image at count old new drops agrees = λ address payload there. agrees address payload (drops address payload there).0

-- a key with a property that all keys have
key_has : (P : ℕ → Type 0) (es : List (ℕ × List ℕ)) (e : ℕ × List ℕ) → AllByRecursion P (keys_of es) → Contains es e → P e.0
key_has P [] e all there = absurd (Contains-nil e there)
key_has P (f ∷ es) e all there = elim (Contains-cons f es e there) [
  | inl same ↦ subst (λ (g : ℕ × List ℕ). P g.0) same all.0
  | inr behind ↦ key_has P es e all.1 behind
]

-- where each key stands once, what is removed is not there any more
pub removed-gone : (at : ℕ) (es : List (ℕ × List ℕ)) (payload : List ℕ) → IsDistinct nat_eq (keys_of es) → Contains (remove_entry (nat_eq at) es) (at, payload) → ⊥
removed-gone at [] payload distinct there = Contains-nil (at, payload) there
removed-gone at (f ∷ es) payload distinct there = (elim (nat_eq at f.0) as (λ y. nat_eq at f.0 ≡ y → ⊥) [
  | true ↦ λ t.
      let same : at ≡ f.0 = eqb-true at f.0 t in
      let behind : Contains es (at, payload) = rw t at there in
      let other : nat_eq f.0 at ≡ false = key_has (λ k. nat_eq f.0 k ≡ false) es (at, payload) (IsDistinct-head nat_eq f.0 (keys_of es) distinct) behind in
      false≢true (sym other ∙ eq-eqb f.0 at (sym same))
  | false ↦ λ t. elim (Contains-cons f (remove_entry (nat_eq at) es) (at, payload) (rw t at there)) [
    | inl same ↦ false≢true (sym t ∙ eq-eqb at f.0 (sym (ap (λ (g : ℕ × List ℕ). g.0) same)))
    | inr behind ↦ removed-gone at es payload (IsDistinct-tail nat_eq f.0 (keys_of es) distinct) behind
  ]
]) refl

-- the block that holds a range is dropped
pub dropped-in : (at start count : ℕ) (old : List (ℕ × List ℕ)) → IsDistinct nat_eq (keys_of old) → start ≡ at % 4096 → start + count ≤ 4096
    → DropsIn at count old (remove_entry (nat_eq (at - start)) old)
dropped-in at start count old distinct is within = λ address payload there.
    let left = Contains-remove_entry (nat_eq (at - start)) old (address, payload) there in (
      left,
      λ whole.
          let differ : address ≢ at - start = λ same. removed-gone (at - start) old payload distinct (subst (λ (a : ℕ). Contains (remove_entry (nat_eq (at - start)) old) (a, payload)) same there) in
          let block : (at - start) % 4096 ≡ 0 = omega (arith, is) in
          apart_within at count (at - start) address block whole differ (omega arith) (omega (arith, is, within)),
    )

-- nothing is found where there is no such block
pub none-found : (at : ℕ) (old : List (ℕ × List ℕ)) (found : Bool) (payload : List ℕ) → ((p : List ℕ) → Contains old (at, p) → ⊥)
    → (IsTrue found → lookup (nat_eq at) (promoted (nat_eq at) old) ≡ Some payload) → found ≡ false
none-found at old false payload none hit = refl
none-found at old true payload none hit = absurd (none payload (found-there at old payload (hit refl)))

pub none-in-empty : (at : ℕ) (old : List (ℕ × List ℕ)) → old ≡ [] → (p : List ℕ) → Contains old (at, p) → ⊥
none-in-empty at old none p there = Contains-nil (at, p) (subst (λ (es : List (ℕ × List ℕ)). Contains es (at, p)) none there)

-- what is found after a put into a cache without blocks is what was put
pub found-put : (at : ℕ) (payload found : List ℕ) (old new : LruCache ℕ (List ℕ)) → old.entries ≡ [] → (new ≡ old) ⊎ (new ≡ lru_cache (put_entries nat_eq old at payload) old.cap)
    → lookup (nat_eq at) (promoted (nat_eq at) new.entries) ≡ Some found → found ≡ payload
found-put at payload found old new none put is =
    let (key, there, same) = Contains-lookup (nat_eq at) (promoted (nat_eq at) new.entries) found is in
    let inside : Contains new.entries (key, found) = Contains-promoted (nat_eq at) new.entries (key, found) there in
    by put inside
  where
    by : (new ≡ old) ⊎ (new ≡ lru_cache (put_entries nat_eq old at payload) old.cap) → {key : ℕ} → Contains new.entries (key, found) → found ≡ payload
    by (inl stays) {key} inside = absurd (none-in-empty key old.entries none found (subst (λ (c : LruCache ℕ (List ℕ)). Contains c.entries (key, found)) stays inside))
    by (inr puts) {key} inside =
        elim (Contains-put_entries nat_eq old at payload (key, found) (subst (λ (c : LruCache ℕ (List ℕ)). Contains c.entries (key, found)) puts inside)) as (λ _. found ≡ payload) [
          | inl was ↦ absurd (none-in-empty key old.entries none found was)
          | inr p ↦ p.0
        ]
