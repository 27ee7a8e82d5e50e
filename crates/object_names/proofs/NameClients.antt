-- What callers learn of tables of names.
use Rattle.std.proofs.Common.{◌≡◌, ◌≢◌, inl, inr, ℕ, List, [], Option, Some, None, IfSome, IfNone, IsNone, ap, arith, sym, subst, refl}
use Rattle.base.specs.declared.names.ObjectId.{ObjectId}
use Rattle.std.proofs.lemmas.Bool.{false≢true}
use Rattle.object_names.specs.NameTables.{IsNameTable, IsNamed}
use Rattle.object_names.specs.Laws.{IsRenamed, IsUnused, SlotsChangeOneName, with_slot}
use Rattle.object_names.specs.Names.{IsName}

name_some : (name : List ℕ) → IsName name → name ≢ []
name_some name is none = false≢true (subst IsName none is)

-- what is so of object 0 after the slot of 7 got a name
pub renamed_7 : SlotsChangeOneName → (before after name : List ℕ) → IsNameTable before → IsName name → IsUnused before 7 name → after ≡ with_slot 7 name before → IsRenamed before 7 name after
renamed_7 law before after name table is unused written =
    subst (λ (bytes : List ℕ). IsRenamed before 7 name bytes) (sym written) (law before 7 name table (omega arith) (omega arith) (inr is) unused)

pub named_7 : (before after name : List ℕ) → IsName name → IsRenamed before 7 name after → IsNamed after 7 name
named_7 before after name is renamed = record { number = omega arith; few = omega arith; name_is = renamed.name_is; some = name_some name is }

-- and after it was emptied
pub emptied_7 : SlotsChangeOneName → (before after : List ℕ) → IsNameTable before → after ≡ with_slot 7 [] before → IsRenamed before 7 [] after
emptied_7 law before after table written =
    subst (λ (bytes : List ℕ). IsRenamed before 7 [] bytes) (sym written) (law before 7 [] table (omega arith) (omega arith) (inl refl) (λ m is. absurd (is.some refl)))

-- the one object of a name
pub found_is : (bytes name : List ℕ) (n : ℕ) (found : Option ObjectId) → IfSome found (λ object. (m : ℕ) → IsNamed bytes m name → m ≡ object.0) → IsNamed bytes n name → IfSome found (λ object. object.0 ≡ n)
found_is bytes name n (Some object) only is = sym (only n is)
found_is bytes name n None only is = tt

pub found_some : (bytes name : List ℕ) (n : ℕ) (found : Option ObjectId) → IfSome found (λ object. (m : ℕ) → IsNamed bytes m name → m ≡ object.0)
    → IfNone found ((m : ℕ) → IsNamed bytes m name → ⊥) → IsNamed bytes n name → found ≡ Some (record { 0 = n })
found_some bytes name n (Some object) only none is = ap (λ (k : ℕ). Some (record { 0 = k })) (sym (only n is))
found_some bytes name n None only none is = absurd (none n is)

-- no object
pub found_none : (bytes name : List ℕ) (found : Option ObjectId) → IfSome found (λ object. IsNamed bytes object.0 name) → ((m : ℕ) → IsNamed bytes m name → ⊥) → IsNone found
found_none bytes name (Some object) some none = absurd (none object.0 some)
found_none bytes name None some none = refl
