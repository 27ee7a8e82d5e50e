-- Which entries a directory of a version may have, and which pointers the block of a strip.
use Rattle.std.proofs.Common.{◌≡◌, ℕ, ◌<◌, inl, inr, List, refl, sym, subst, arith, replicate}
use Rattle.std.proofs.lemmas.Bool.{cases_eq}
use Rattle.base.specs.formats.Blocks.{Frame}
use Rattle.base.specs.formats.Fields.{entry_in, entry_length, entry_pointer, entry_present, no_pointer, pointer_in}
use Rattle.base.specs.formats.Limits.{entry_count}
use Rattle.base.specs.tree.Damages.{IsEntryForm, IsRecordPointerForm}
use Rattle.base.specs.tree.Places.{record_start}
use Rattle.base.proofs.tree.Strips.{one_level-length}
use Rattle.tree_blocks.proofs.EntryForms.{present_fields, present_or_not}
use Rattle.tree_blocks.specs.Forms.{AreRecordForms}

-- two levels in the first version
pub no_two_levels : (frame : Frame) (entry : List ℕ) → frame.version ≡ 1 → entry_present entry ≡ 2 → IsEntryForm frame entry → ⊥
no_two_levels frame entry first two (inl one) = elim (present_or_not entry (entry_present entry) one refl) [
  | inl none ↦ omega (arith, two, none)
  | inr there ↦ omega (arith, two, there)
]
no_two_levels frame entry first two (inr (later, form)) = omega (arith, first, later)

-- one level for more than it holds
pub not_above_one_level : (frame : Frame) (entry : List ℕ) → entry_present entry ≡ 1 → entry_length entry ≡ 338689 → IsEntryForm frame entry → ⊥
not_above_one_level frame entry one size (inl form) =
    let most = (present_fields entry (entry_present entry) form refl one).0 in omega (arith, most, size, one_level-length)
not_above_one_level frame entry one size (inr (later, form)) = let two = form.0 in omega (arith, one, two)

-- a directory whose last entry has two levels, if it has no other
pub two_levels : (frame : Frame) (payload : List ℕ) → frame.version ≡ 2 → entry_present (entry_in payload 62) ≡ 2 → entry_length (entry_in payload 62) ≡ 338689
    → (entry_pointer (entry_in payload 62)).address ≡ 4202496 → ((k : ℕ) → k < 62 → entry_in payload k ≡ replicate 64 0)
    → (k : ℕ) → k < entry_count → IsEntryForm frame (entry_in payload k)
two_levels frame payload second two size named others k low = elim (cases_eq k 62) [
  | inl last ↦ subst (λ (i : ℕ). IsEntryForm frame (entry_in payload i)) (sym last)
      (inr (omega (arith, second), (two, omega (arith, size, one_level-length), omega (arith, size), inr (λ none. omega (arith, named, none)))))
  | inr other ↦ inl (inl (others k (omega (arith, low, other))))
]

-- the second strip of an object of 342,720 bytes, which has a pointer to its first record alone
pub first_record_alone : (payload : List ℕ) → (pointer_in payload 0).address ≡ 4202496 → ((k : ℕ) → 0 < k → k < 84 → pointer_in payload k ≡ no_pointer) → AreRecordForms 5299 342720 payload
first_record_alone payload named others k low = elim (cases_eq k 0) [
  | inl first ↦ subst (λ (i : ℕ). IsRecordPointerForm 342720 (record_start 5299 i) (pointer_in payload i)) (sym first)
      (λ before. inr (λ none. omega (arith, named, none)), λ past. absurd (omega (arith, past)))
  | inr other ↦ let none : pointer_in payload k ≡ no_pointer = others k (omega (arith, other)) low in (λ before. inl none, λ past. none)
]
