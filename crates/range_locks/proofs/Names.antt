-- The table finds a lock by its name, and takes it out, as definitions do of the list of held locks.
use Rattle.std.proofs.Common.{◌≡◌, ℕ, ◌<◌, ◌==◌, ◌&&◌, Bool, true, false, not, cond, List, [], ◌∷◌, map, filter, refl, ap, sym, ◌∙◌, arith, Option, None, Some, inl, inr, zero, suc}
use Rattle.std.specs.Prelude.{IsSome, slice_get, nat_eq}
use Rattle.std.specs.List.{find}
use Rattle.std.specs.Map.{lookup, remove_entry}
use Rattle.std.proofs.lemmas.Bool.{ne_eqb, eq-eqb, cases_eq}
use Rattle.base.specs.declared.names.LockId.{LockId}
use Rattle.base.specs.steps.Locks.{Grant}
use Rattle.range_locks.specs.declared.held.HeldLock.{HeldLock}
use Rattle.range_locks.specs.Locks.{grant_of, is_named}

-- names rise along a list
abbrev pub NamesRise : List Grant → Type 0
NamesRise gs = (i j : ℕ) (g h : Grant) → i < j → slice_get gs i ≡ Some g → slice_get gs j ≡ Some h → g.id < h.id

-- a lock that was found by its name, where it is the owner's
abbrev pub owned : ℕ → ℕ → Option HeldLock → Option Grant
owned id owner None = None
owned id owner (Some h) = cond (h.owner.0 == owner) (Some (grant_of (record { 0 = id }, h))) None

pub behind : (g : Grant) (gs : List Grant) → NamesRise (g ∷ gs) → (i : ℕ) (h : Grant) → slice_get gs i ≡ Some h → g.id < h.id
behind g gs rise i h at = rise zero (suc i) g h (omega arith) refl at

pub rest_rises : (g : Grant) (gs : List Grant) → NamesRise (g ∷ gs) → NamesRise gs
rest_rises g gs rise i j x y below at_i at_j = rise (suc i) (suc j) x y (omega arith) at_i at_j

none_named : (id owner : ℕ) (gs : List Grant) → ((i : ℕ) (h : Grant) → slice_get gs i ≡ Some h → id < h.id) → find (is_named id owner) gs ≡ None
none_named id owner [] above = refl
none_named id owner (g ∷ gs) above =
    let apart : (g.id == id) ≡ false = ne_eqb g.id id (λ same. let low : id < g.id = above zero g refl in absurd (omega arith)) in
    ap (λ b. cond (b && (g.owner == owner)) (Some g) (find (is_named id owner) gs)) apart ∙ none_named id owner gs (λ i h at. above (suc i) h at)

pub all_others : (id : ℕ) (gs : List Grant) → ((i : ℕ) (h : Grant) → slice_get gs i ≡ Some h → id < h.id) → filter (λ (g : Grant). not (g.id == id)) gs ≡ gs
all_others id [] above = refl
all_others id (g ∷ gs) above =
    let apart : (g.id == id) ≡ false = ne_eqb g.id id (λ same. let low : id < g.id = above zero g refl in absurd (omega arith)) in
    ap (λ b. cond (not b) (g ∷ filter (λ (h : Grant). not (h.id == id)) gs) (filter (λ (h : Grant). not (h.id == id)) gs)) apart ∙ ap (λ l. g ∷ l) (all_others id gs (λ i h at. above (suc i) h at))

-- the owner's lock of a name is the one under that name, if it is the owner's
pub find-named : (id owner : ℕ) (es : List (LockId × HeldLock)) → NamesRise (map grant_of es)
    → find (is_named id owner) (map grant_of es) ≡ owned id owner (lookup (λ (k : LockId). nat_eq id k.0) es)
find-named id owner [] rise = refl
find-named id owner (e ∷ es) rise = elim (cases_eq id e.0.0) as (λ _. find (is_named id owner) (map grant_of (e ∷ es)) ≡ owned id owner (lookup (λ (k : LockId). nat_eq id k.0) (e ∷ es))) [
  | inl same ↦ here same (e.1.owner.0 == owner) refl
  | inr apart ↦
      ap (λ b. cond (b && (e.1.owner.0 == owner)) (Some (grant_of e)) (find (is_named id owner) (map grant_of es))) (ne_eqb e.0.0 id (λ same. apart (sym same)))
      ∙ find-named id owner es (rest_rises (grant_of e) (map grant_of es) rise)
      ∙ sym (ap (λ b. owned id owner (cond b (Some e.1) (lookup (λ (k : LockId). nat_eq id k.0) es))) (ne_eqb id e.0.0 apart))
]
  where
    here : id ≡ e.0.0 → (b : Bool) → (e.1.owner.0 == owner) ≡ b → find (is_named id owner) (map grant_of (e ∷ es)) ≡ owned id owner (lookup (λ (k : LockId). nat_eq id k.0) (e ∷ es))
    here same b is =
        ap (λ t. cond (t && (e.1.owner.0 == owner)) (Some (grant_of e)) (find (is_named id owner) (map grant_of es))) (eq-eqb e.0.0 id (sym same))
        ∙ ap (λ t. cond t (Some (grant_of e)) (find (is_named id owner) (map grant_of es))) is
        ∙ by b
        ∙ sym (ap (λ t. cond t (Some (grant_of (record { 0 = id }, e.1))) None) is)
        ∙ sym (ap (λ t. owned id owner (cond t (Some e.1) (lookup (λ (k : LockId). nat_eq id k.0) es))) (eq-eqb id e.0.0 same))
      where
        by : (t : Bool) → cond t (Some (grant_of e)) (find (is_named id owner) (map grant_of es)) ≡ cond t (Some (grant_of (record { 0 = id }, e.1))) None
        by true = ap (λ n. Some (grant_of (record { 0 = n }, e.1))) (sym same)
        by false = none_named id owner (map grant_of es) (λ i h at. let low : e.0.0 < h.id = behind (grant_of e) (map grant_of es) rise i h at in omega arith)

-- so a lock that is found so is there
pub held_named : (id owner : ℕ) (es : List (LockId × HeldLock)) → NamesRise (map grant_of es) → (g : Grant) → find (is_named id owner) (map grant_of es) ≡ Some g
    → IsSome (lookup (λ (k : LockId). nat_eq id k.0) es)
held_named id owner es rise g found = by (lookup (λ (k : LockId). nat_eq id k.0) es) (sym (find-named id owner es rise) ∙ found)
  where
    by : (o : Option HeldLock) → owned id owner o ≡ Some g → IsSome o
    by None is = absurd (let no_way : ◌≡◌ {A = Option Grant} None (Some g) = is in cc)
    by (Some h) is = refl

-- what is left without a name
pub map-remove_entry : (id : ℕ) (es : List (LockId × HeldLock)) → NamesRise (map grant_of es)
    → map grant_of (remove_entry (λ (k : LockId). nat_eq id k.0) es) ≡ filter (λ (g : Grant). not (g.id == id)) (map grant_of es)
map-remove_entry id [] rise = refl
map-remove_entry id (e ∷ es) rise = elim (cases_eq id e.0.0) as (λ _. map grant_of (remove_entry (λ (k : LockId). nat_eq id k.0) (e ∷ es)) ≡ filter (λ (g : Grant). not (g.id == id)) (map grant_of (e ∷ es))) [
  | inl same ↦
      ap (λ b. map grant_of (cond b es (e ∷ remove_entry (λ (k : LockId). nat_eq id k.0) es))) (eq-eqb id e.0.0 same)
      ∙ sym (all_others id (map grant_of es) (λ i h at. let low : e.0.0 < h.id = behind (grant_of e) (map grant_of es) rise i h at in omega arith))
      ∙ sym (ap (λ b. cond (not b) (grant_of e ∷ filter (λ (g : Grant). not (g.id == id)) (map grant_of es)) (filter (λ (g : Grant). not (g.id == id)) (map grant_of es))) (eq-eqb e.0.0 id (sym same)))
  | inr apart ↦
      ap (λ b. map grant_of (cond b es (e ∷ remove_entry (λ (k : LockId). nat_eq id k.0) es))) (ne_eqb id e.0.0 apart)
      ∙ ap (λ l. grant_of e ∷ l) (map-remove_entry id es (rest_rises (grant_of e) (map grant_of es) rise))
      ∙ sym (ap (λ b. cond (not b) (grant_of e ∷ filter (λ (g : Grant). not (g.id == id)) (map grant_of es)) (filter (λ (g : Grant). not (g.id == id)) (map grant_of es))) (ne_eqb e.0.0 id (λ same. apart (sym same))))
]
