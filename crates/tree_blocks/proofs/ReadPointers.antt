-- The strips whose pointers were read are found in their map, and none past the last one is.
use Rattle.std.proofs.Common.{◌≡◌, ℕ, ◌<◌, Bool, true, false, List, [], ◌∷◌, btree_map_len, length, Option, Some, None, refl, sym, ◌∙◌, ap, arith}
use Rattle.std.specs.Prelude.{◌==◌, IsSome, is_some}
use Rattle.std.specs.BTreeMap as tree
use Rattle.std.specs.BTreeMap.{BTreeMap, IsUpperBound, is_at}
use Rattle.std.specs.Cmp.{unsigned_tied}
use Rattle.std.specs.Global.{Vec}
use Rattle.std.specs.Map.{lookup}
use Rattle.std.specs.Ordering.{is_eq, is_lt, nat_cmp}
use Rattle.std.specs.declared.cmp.Ordering.{Ordering}
use Rattle.std.proofs.lemmas.Bool.{lt-ltb, true≢false}
use Rattle.base.specs.declared.pointer.Pointer.{Pointer}
use Rattle.tree_blocks.specs.ReadPointers.{records_among}

lookup_same : {K X : Type 0} (f g : K → Bool) → ((k : K) → f k ≡ g k) → (es : List (K × X)) → lookup f es ≡ lookup g es
lookup_same f g same [] = refl
lookup_same f g same (e ∷ es) = rw (same e.0, lookup_same f g same es) refl

-- a strip is found among those that were read if the map has it
pub among-get : (R : ℕ → ℕ → Ordering) → ((a b : ℕ) → is_eq (R a b) ≡ (a == b)) → (m : BTreeMap ℕ (Vec Pointer)) (j : ℕ) → tree.get R m j ≡ records_among m.entries j
among-get R ties m j = lookup_same (is_at (R j)) (λ i. j == i) (ties j) m.entries

-- no strip past the last one that was read was read, and none if none was
pub none_read_past : (map : BTreeMap ℕ (Vec Pointer)) (last j : ℕ) → IsUpperBound nat_cmp map last → last < j → is_some (records_among map.entries j) ≡ false
none_read_past map last j bound above = ap is_some (sym (among-get nat_cmp (λ a b. unsigned_tied a b) map j)) ∙ absent (tree.get nat_cmp map j) (bound j)
  where
    less : is_lt (nat_cmp last j) ≡ true
    less = rw (lt-ltb last j above) refl

    absent : (o : Option (Vec Pointer)) → (IsSome o → is_lt (nat_cmp last j) ≡ false) → is_some o ≡ false
    absent None none = refl
    absent (Some v) some = absurd (true≢false (sym less ∙ some refl))

pub none_read : (map : BTreeMap ℕ (Vec Pointer)) (j : ℕ) → btree_map_len map ≡ 0 → is_some (records_among map.entries j) ≡ false
none_read map j none = absent map.entries none
  where
    absent : (es : List (ℕ × Vec Pointer)) → length es ≡ 0 → is_some (records_among es j) ≡ false
    absent [] _ = refl
    absent (e ∷ es) some = absurd (omega (arith, some))
