-- What objects are whose records at hand stand in the place of their own.
use Rattle.std.proofs.Common.{◌≡◌, ℕ, ◌+◌, ◌*◌, ◌<◌, ◌≤◌, ◌⊎◌, inl, inr, Bool, true, false, cond, List, [], length, get_or, Option, Some, None, refl, ap, subst, sym, ◌∙◌, arith}
use Rattle.std.specs.Prelude.{◌==◌, ◌/◌, ◌%◌, is_some, nat_lt, option_map, unwrap_or, if◌then◌else◌}
use Rattle.std.specs.BTreeMap as tree
use Rattle.std.specs.BTreeMap.{BTreeMap, is_at}
use Rattle.std.specs.Ordering.{nat_cmp, is_eq}
use Rattle.std.specs.declared.cmp.Ordering.TheVariants.{Less, Equal, Greater}
use Rattle.std.specs.FinMap as finite
use Rattle.std.specs.FinMap.{FinMap, same_map, nat_cmp-IsAntisymmetric}
use Rattle.std.specs.Option.{option_map_or}
use Rattle.std.proofs.lemmas.Cmp.{nat_cmp_total}
use Rattle.std.proofs.lemmas.Bool.{cases_lt, eq-eqb, eqb-true, le-ltb, lt-ltb, ltb-true}
use Rattle.std.proofs.lemmas.List.{ext_get_or, get_or_past}
use Rattle.std.proofs.lemmas.List.FromFn.{fill_by_all, get_or-map-range_with_len, length-map-range_with_len}
use Rattle.base.specs.formats.Limits.{object_count, record_count}
use Rattle.base.proofs.tree.Strips.{record-count}
use Rattle.tree_blocks.specs.Sources.{object_bytes, object_length, object_record}
use Rattle.tree_blocks.proofs.Records.{get_or-record, length-record}
use Rattle.extents.proofs.LaidObjects.{get-objects_past, get-objects_up_to}
use Rattle.group_plans.specs.Prepared.{AreClearedPast, AreExact, IsClearedPast, PutsRecord, at_hand, byte_with, bytes_with, with_records}

-- numbers are compared by their order as by their equality
pub same_test : (x y : ℕ) → is_eq (nat_cmp x y) ≡ (x == y)
same_test x y = by (nat_lt x y) refl (x == y) refl
  where
    by : (l : Bool) → nat_lt x y ≡ l → (e : Bool) → (x == y) ≡ e → is_eq (cond l Less (cond e Equal Greater)) ≡ e
    by true less true same = let low : x < y = ltb-true x y less in let eq : x ≡ y = eqb-true x y same in absurd (omega arith)
    by true less false same = refl
    by false less true same = refl
    by false less false same = refl

pub at_own : (records : BTreeMap ℕ (List ℕ)) (n r : ℕ) → r < record_count → at_hand records n r ≡ tree.get nat_cmp records (record_count * n + r)
at_own records n r low = ap (λ (b : Bool). if b then tree.get nat_cmp records (record_count * n + r) else None) (lt-ltb r record_count low)

-- the bytes of a record at hand are those of the object
record_of : (own : ℕ → Option (List ℕ)) (r : ℕ) (payload : List ℕ) (o : Option (List ℕ)) → own r ≡ Some payload → IsClearedPast (unwrap_or o []) r payload
    → (k : ℕ) → k < 4032 → get_or payload k 0 ≡ get_or (unwrap_or (option_map (bytes_with own) o) []) (4032 * r + k) 0
record_of own r payload None there cut k inside = cut.1 k inside (omega arith)
record_of own r payload (Some b) there cut k inside = go (cases_lt (4032 * r + k) (length b))
  where
    go : (4032 * r + k < length b) ⊎ (length b ≤ 4032 * r + k) → get_or payload k 0 ≡ get_or (bytes_with own b) (4032 * r + k) 0
    go (inl before) =
        let number : (4032 * r + k) / 4032 ≡ r = omega (arith, inside) in
        let place : (4032 * r + k) % 4032 ≡ k = omega (arith, inside) in
        let at : byte_with own b (4032 * r + k) ≡ get_or payload k 0 =
        ap (λ (s : ℕ). option_map_or (λ (p : List ℕ). get_or p ((4032 * r + k) % 4032) 0) (own s) (get_or b (4032 * r + k) 0)) number
        ∙ ap (λ (o : Option (List ℕ)). option_map_or (λ (p : List ℕ). get_or p ((4032 * r + k) % 4032) 0) o (get_or b (4032 * r + k) 0)) there
        ∙ ap (λ (j : ℕ). get_or payload j 0) place in
        sym (get_or-map-range_with_len (byte_with own b) 0 (length b) (4032 * r + k) (4032 * r + k) 0 before (omega arith) ∙ at)
    go (inr past) =
        let long : length (bytes_with own b) ≡ length b = length-map-range_with_len (byte_with own b) 0 (length b) in
        cut.1 k inside past ∙ sym (get_or_past (bytes_with own b) (4032 * r + k) 0 (omega (arith, long, past)))

module _ (records : ℕ → ℕ → Option (List ℕ)) (objects : FinMap nat_cmp (List ℕ)) (past : (n : ℕ) → object_count ≤ n → finite.get objects n ≡ None) where
  object_with : (n : ℕ) → finite.get (with_records records objects) n ≡ option_map (bytes_with (records n)) (finite.get objects n)
  object_with n = go (cases_lt n object_count)
    where
      go : (n < object_count) ⊎ (object_count ≤ n) → finite.get (with_records records objects) n ≡ option_map (bytes_with (records n)) (finite.get objects n)
      go (inl low) = get-objects_up_to object_count _ n low
      go (inr high) = get-objects_past object_count _ n high ∙ ap (option_map (bytes_with (records n))) (sym (past n high))

  -- lengths stay
  pub same_length : (n : ℕ) → object_length objects n ≡ object_length (with_records records objects) n
  same_length n = by (finite.get objects n) ∙ ap (option_map length) (sym (object_with n))
    where
      by : (o : Option (List ℕ)) → option_map length o ≡ option_map length (option_map (bytes_with (records n)) o)
      by None = refl
      by (Some b) = ap Some (sym (length-map-range_with_len (byte_with (records n) b) 0 (length b)))

  -- a record at hand is that of the objects
  pub record_at_hand : (n r : ℕ) (payload : List ℕ) → records n r ≡ Some payload → IsClearedPast (object_bytes objects n) r payload → payload ≡ object_record (with_records records objects) n r
  record_at_hand n r payload there cut =
      ext_get_or 0 payload _ (cut.0 ∙ sym (length-record r (object_bytes (with_records records objects) n))) (λ k l.
      let inside : k < 4032 = rw cut.0 at l in
      record_of (records n) r payload (finite.get objects n) there cut k inside
      ∙ ap (λ (o : Option (List ℕ)). get_or (unwrap_or o []) (4032 * r + k) 0) (sym (object_with n))
      ∙ sym (get_or-record r (object_bytes (with_records records objects) n) k inside))

  -- records that the objects have anyway leave them as they are
  pub exact_objects : AreExact records objects → with_records records objects ≡ objects
  exact_objects exact = same_map nat_cmp_total nat_cmp-IsAntisymmetric _ _ (λ n. object_with n ∙ by n (finite.get objects n) refl)
    where
      byte_at : (n : ℕ) (b : List ℕ) → finite.get objects n ≡ Some b → (k : ℕ) (o : Option (List ℕ)) → records n (k / 4032) ≡ o → get_or b k 0 ≡ option_map_or (λ (p : List ℕ). get_or p (k % 4032) 0) o (get_or b k 0)
      byte_at n b is k None e = refl
      byte_at n b is k (Some p) e =
          let inside : k % 4032 < 4032 = omega arith in
          let sum : 4032 * (k / 4032) + k % 4032 ≡ k = omega arith in
          sym (ap (λ (l : List ℕ). get_or l (k % 4032) 0) (exact n (k / 4032) p e) ∙ get_or-record (k / 4032) (object_bytes objects n) (k % 4032) inside
          ∙ ap (λ (o : Option (List ℕ)). get_or (unwrap_or o []) (4032 * (k / 4032) + k % 4032) 0) is ∙ ap (λ (j : ℕ). get_or b j 0) sum)

      by : (n : ℕ) (o : Option (List ℕ)) → finite.get objects n ≡ o → option_map (bytes_with (records n)) o ≡ o
      by n None is = refl
      by n (Some b) is = ap Some (sym (fill_by_all (byte_with (records n) b) b (length b) 0 refl (λ k low. byte_at n b is k (records n (k / 4032)) refl)))

-- a record is put at hand
module _ (old new : BTreeMap ℕ (List ℕ)) (n r : ℕ) (payload : List ℕ) (low : r < record_count)
    (updates : (q : ℕ) → tree.get nat_cmp new q ≡ cond (is_at (nat_cmp (record_count * n + r)) q) (Some payload) (tree.get nat_cmp old q)) where
  get_new : (q : ℕ) → tree.get nat_cmp new q ≡ cond ((record_count * n + r) == q) (Some payload) (tree.get nat_cmp old q)
  get_new q = updates q ∙ ap (λ (b : Bool). cond b (Some payload) (tree.get nat_cmp old q)) (same_test (record_count * n + r) q)

  none_above : (records : BTreeMap ℕ (List ℕ)) (m s : ℕ) → record_count ≤ s → at_hand records m s ≡ None
  none_above records m s high = ap (λ (b : Bool). if b then tree.get nat_cmp records (record_count * m + s) else None) (le-ltb s record_count high)

  pub puts_record : PutsRecord n r payload (at_hand old) (at_hand new)
  puts_record = record {
    here = at_own new n r low ∙ get_new (record_count * n + r) ∙ ap (λ (b : Bool). cond b (Some payload) (tree.get nat_cmp old (record_count * n + r))) (eq-eqb (record_count * n + r) (record_count * n + r) refl);
    others = λ m s other e. others m s other e (cases_lt s record_count);
    kept = λ m s there. kept m s there (cases_lt s record_count);
  }
    where
      others : (m s : ℕ) (other : List ℕ) → at_hand new m s ≡ Some other → (s < record_count) ⊎ (record_count ≤ s) → ((m ≡ n) × (s ≡ r) × (other ≡ payload)) ⊎ (at_hand old m s ≡ Some other)
      others m s other e (inr high) = absurd (let no : None ≡ Some other = sym (none_above new m s high) ∙ e in cc)
      others m s other e (inl below) = by ((record_count * n + r) == (record_count * m + s)) refl (sym (get_new (record_count * m + s)) ∙ sym (at_own new m s below) ∙ e)
        where
          by : (b : Bool) → ((record_count * n + r) == (record_count * m + s)) ≡ b → cond b (Some payload) (tree.get nat_cmp old (record_count * m + s)) ≡ Some other → ((m ≡ n) × (s ≡ r) × (other ≡ payload)) ⊎ (at_hand old m s ≡ Some other)
          by true is here =
              let same : 7056 * n + r ≡ 7056 * m + s = subst (λ (c : ℕ). c * n + r ≡ c * m + s) record-count (eqb-true (record_count * n + r) (record_count * m + s) is) in
              let r_low : r < 7056 = rw record-count at low in
              let s_low : s < 7056 = rw record-count at below in
              inl (omega (arith, same, r_low, s_low), omega (arith, same, r_low, s_low), (let e : payload ≡ other = cc in sym e))
          by false is there = inr (at_own old m s below ∙ there)

      kept : (m s : ℕ) → is_some (at_hand old m s) ≡ true → (s < record_count) ⊎ (record_count ≤ s) → is_some (at_hand new m s) ≡ true
      kept m s there (inr high) = absurd (let no : false ≡ true = ap is_some (sym (none_above old m s high)) ∙ there in cc)
      kept m s there (inl below) = ap is_some (at_own new m s below ∙ get_new (record_count * m + s)) ∙ by ((record_count * n + r) == (record_count * m + s))
        where
          by : (b : Bool) → is_some (cond b (Some payload) (tree.get nat_cmp old (record_count * m + s))) ≡ true
          by true = refl
          by false = ap is_some (sym (at_own old m s below)) ∙ there

-- and if it is cut, all are
pub cut_more : (objects : FinMap nat_cmp (List ℕ)) (n r : ℕ) (put : List ℕ) (old new : ℕ → ℕ → Option (List ℕ)) → IsClearedPast (object_bytes objects n) r put → PutsRecord n r put old new → AreClearedPast old objects → AreClearedPast new objects
cut_more objects n r put old new is puts cut m s payload at = elim (puts.others m s payload at) [
  | inl here ↦ subst (λ (i : ℕ). IsClearedPast (object_bytes objects i) s payload) (sym here.0)
      (subst (λ (q : ℕ). IsClearedPast (object_bytes objects n) q payload) (sym here.1) (subst (λ (p : List ℕ). IsClearedPast (object_bytes objects n) r p) (sym here.2) is))
  | inr before ↦ cut m s payload before
]
