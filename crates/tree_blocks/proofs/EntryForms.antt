-- Entries of a directory's payload.
use Rattle.std.proofs.Common.{◌≡◌, ℕ, ◌+◌, ◌*◌, ◌<◌, ◌≤◌, List, ◌++◌, length, take, drop, replicate, get_or, refl, ap, sym, subst, ◌∙◌, arith, ◌≢◌, ◌⊎◌, inl, inr, true, false}
use Rattle.std.specs.List.{All}
use Rattle.std.specs.Int.{from_le_bytes, w64}
use Rattle.std.proofs.lemmas.List.{drop-drop}
use Rattle.std.proofs.lemmas.List.Elements.{All-from_get_or}
use Rattle.base.specs.declared.pointer.Pointer.{Pointer}
use Rattle.base.specs.formats.Fields.{part, number_at, number_bytes, pointer_at, entry_in, entry_present, entry_length, entry_pointer, no_pointer}
use Rattle.base.specs.formats.Limits.{max_length, one_level_length}
use Rattle.base.specs.formats.Blocks.{Frame}
use Rattle.base.specs.tree.Damages.{IsEntryForm, IsOneLevelForm, IsPointerForm}
use Rattle.base.proofs.disk.Put.{part-part}
use Rattle.checked_blocks.proofs.Placed.{number_bytes-number_at}
use Rattle.tree_blocks.specs.declared.forms.Entry.{Entry}
use Rattle.tree_blocks.specs.Forms.{IsEntryOf}
use Rattle.std.proofs.Math.Seq.{take-add}

-- a part and the one after it
part-split : (bytes : List ℕ) (at m n : ℕ) → part bytes at (m + n) ≡ part bytes at m ++ part bytes (at + m) n
part-split bytes at m n = take-add m n (drop at bytes) ∙ ap (λ (l : List ℕ). part bytes at m ++ take n l) (drop-drop m at bytes)

pub number-part : (bytes : List ℕ) (at size i : ℕ) → i + 8 ≤ size → number_at (part bytes at size) i ≡ number_at bytes (at + i)
unfolding number_at
number-part bytes at size i fits = ap (λ (l : List ℕ). from_le_bytes w64 l) (part-part bytes at size i 8 fits)

-- the fields of an entry as they lie in the payload
pub present-at : (payload : List ℕ) (k : ℕ) → number_at payload (64 * k) ≡ entry_present (entry_in payload k)
present-at payload k = let e : 64 * k ≡ 64 * k + 0 = omega arith in ap (number_at payload) e ∙ sym (number-part payload (64 * k) 64 0 (omega arith))

pub length-at : (payload : List ℕ) (k : ℕ) → number_at payload (64 * k + 8) ≡ entry_length (entry_in payload k)
length-at payload k = sym (number-part payload (64 * k) 64 8 (omega arith))

pub pointer-at : (payload : List ℕ) (k : ℕ) → pointer_at payload (64 * k + 16) ≡ entry_pointer (entry_in payload k)
pointer-at payload k =
    same (sym (number-part payload (64 * k) 64 16 (omega arith)))
    (ap (number_at payload) (let e : 64 * k + 16 + 8 ≡ 64 * k + 24 = omega arith in e) ∙ sym (number-part payload (64 * k) 64 24 (omega arith)))
    (ap (λ (i : ℕ). part payload i 32) (let e : 64 * k + 16 + 16 ≡ 64 * k + 32 = omega arith in e) ∙ sym (part-part payload (64 * k) 64 32 32 (omega arith)))
  where
    same : {a b c d : ℕ} {x y : List ℕ} → a ≡ b → c ≡ d → x ≡ y → ◌≡◌ {A = Pointer} (record { address = a; birth = c; check = x }) (record { address = b; birth = d; check = y })
    same e f g = rw (e, f, g) refl

-- a number that is zero has eight zero bytes
zero-bytes : (bytes : List ℕ) (at : ℕ) → at + 8 ≤ length bytes → All (λ b. b < 256) bytes → number_at bytes at ≡ 0 → part bytes at 8 ≡ replicate 8 0
unfolding number_bytes
zero-bytes bytes at fits each zero = sym (number_bytes-number_at bytes at fits each) ∙ ap number_bytes zero

-- an entry whose fields are all zero is all zeros
absent-zeros : (payload : List ℕ) (k : ℕ) → 64 * k + 64 ≤ length payload → All (λ b. b < 256) payload
    → number_at payload (64 * k) ≡ 0 → number_at payload (64 * k + 8) ≡ 0 → pointer_at payload (64 * k + 16) ≡ no_pointer → entry_in payload k ≡ replicate 64 0
absent-zeros payload k fits each present size pointer =
    let at : ℕ = 64 * k in
    let a : part payload at 8 ≡ replicate 8 0 = zero-bytes payload at (omega (arith, fits)) each present in
    let b : part payload (at + 8) 8 ≡ replicate 8 0 = zero-bytes payload (at + 8) (omega (arith, fits)) each size in
    let c : part payload (at + 8 + 8) 8 ≡ replicate 8 0 = ap (λ (i : ℕ). part payload i 8) (let e : at + 8 + 8 ≡ at + 16 = omega arith in e)
    ∙ zero-bytes payload (at + 16) (omega (arith, fits)) each (ap (λ (p : Pointer). p.address) pointer) in
    let d : part payload (at + 8 + 8 + 8) 8 ≡ replicate 8 0 = ap (λ (i : ℕ). part payload i 8) (let e : at + 8 + 8 + 8 ≡ at + 16 + 8 = omega arith in e)
    ∙ zero-bytes payload (at + 16 + 8) (omega (arith, fits)) each (ap (λ (p : Pointer). p.birth) pointer) in
    let f : part payload (at + 8 + 8 + 8 + 8) 32 ≡ replicate 32 0 = ap (λ (i : ℕ). part payload i 32) (let e : at + 8 + 8 + 8 + 8 ≡ at + 16 + 16 = omega arith in e)
    ∙ ap (λ (p : Pointer). p.check) pointer in
    part-split payload at 8 56 ∙ ap (λ (l : List ℕ). l ++ part payload (at + 8) 56) a
    ∙ ap (λ (l : List ℕ). replicate 8 0 ++ l) (part-split payload (at + 8) 8 48 ∙ ap (λ (l : List ℕ). l ++ part payload (at + 8 + 8) 48) b
    ∙ ap (λ (l : List ℕ). replicate 8 0 ++ l) (part-split payload (at + 8 + 8) 8 40 ∙ ap (λ (l : List ℕ). l ++ part payload (at + 8 + 8 + 8) 40) c
    ∙ ap (λ (l : List ℕ). replicate 8 0 ++ l) (part-split payload (at + 8 + 8 + 8) 8 32 ∙ ap (λ (l : List ℕ). l ++ part payload (at + 8 + 8 + 8 + 8) 32) d
    ∙ ap (λ (l : List ℕ). replicate 8 0 ++ l) f)))

-- the same, from the entry's own fields
pub absent-entry : (payload : List ℕ) (k present size : ℕ) (pointer : Pointer) → 64 * k + 64 ≤ length payload → ((i : ℕ) → get_or payload i 0 < 256)
    → present ≡ entry_present (entry_in payload k) → size ≡ entry_length (entry_in payload k) → pointer ≡ entry_pointer (entry_in payload k)
    → present ≡ 0 → size ≡ 0 → pointer ≡ no_pointer → entry_in payload k ≡ replicate 64 0
absent-entry payload k present size pointer fits each is_present is_size is_pointer zero none nothing =
    absent-zeros payload k fits (All-from_get_or (λ b. b < 256) payload 0 (λ i _. each i))
    (present-at payload k ∙ sym is_present ∙ zero) (length-at payload k ∙ sym is_size ∙ none) (pointer-at payload k ∙ sym is_pointer ∙ nothing)

no_entry : entry_present (replicate 64 0) ≡ 0
unfolding number_at
no_entry = refl

-- an entry in its form that is not present is all zeros
pub entry_absent : (frame : Frame) (entry : List ℕ) → IsEntryForm frame entry → entry_present entry ≡ 0 → entry ≡ replicate 64 0
entry_absent frame entry (inl (inl zeros)) none = zeros
entry_absent frame entry (inl (inr form)) none = let one = form.0 in absurd (omega (arith, one, none))
entry_absent frame entry (inr (later, form)) none = let two = form.0 in absurd (omega (arith, two, none))

-- and one that is present says its levels and its length
pub entry_there : (frame : Frame) (entry : List ℕ) (e : Entry) → IsEntryForm frame entry → e.present ≡ entry_present entry → e.length ≡ entry_length entry → (e.present ≡ 0 → ⊥) → IsEntryOf frame e
entry_there frame entry e (inl (inl zeros)) present size some = absurd (some (present ∙ ap entry_present zeros ∙ no_entry))
entry_there frame entry e (inl (inr form)) present size some = inl (present ∙ form.0, subst (λ (s : ℕ). s ≤ one_level_length) (sym size) form.1)
entry_there frame entry e (inr (later, form)) present size some =
    inr (later, present ∙ form.0, subst (λ (s : ℕ). one_level_length < s) (sym size) form.1, subst (λ (s : ℕ). s ≤ max_length) (sym size) form.2)

no_entry_pointer : entry_pointer (replicate 64 0) ≡ no_pointer
unfolding number_at
no_entry_pointer = refl

no_entry_length : entry_length (replicate 64 0) ≡ 0
unfolding number_at
no_entry_length = refl

-- an entry of one level that is not present has no length and no pointer
pub absent_fields : (entry : List ℕ) (present : ℕ) → IsOneLevelForm entry → present ≡ entry_present entry → present ≢ 1
    → (present ≡ 0) × ((entry_length entry ≡ 0) × (entry_pointer entry ≡ no_pointer))
absent_fields entry present (inl zeros) is not = (is ∙ ap entry_present zeros ∙ no_entry, (ap entry_length zeros ∙ no_entry_length, ap entry_pointer zeros ∙ no_entry_pointer))
absent_fields entry present (inr form) is not = absurd (not (is ∙ form.0))

-- and one that is present has a length and a pointer within their limits
pub present_fields : (entry : List ℕ) (present : ℕ) → IsOneLevelForm entry → present ≡ entry_present entry → present ≡ 1
    → (entry_length entry ≤ one_level_length) × IsPointerForm (entry_pointer entry)
present_fields entry present (inl zeros) is one = let e : entry_present entry ≡ 0 = ap entry_present zeros ∙ no_entry in absurd (omega (arith, e, is, one))
present_fields entry present (inr form) is one = (form.1, form.2)

pub not_true : false ≡ true → ⊥
not_true e = cc

-- an entry of one level is present or not
pub present_or_not : (entry : List ℕ) (present : ℕ) → IsOneLevelForm entry → present ≡ entry_present entry → (present ≡ 0) ⊎ (present ≡ 1)
present_or_not entry present (inl zeros) is = inl (is ∙ ap entry_present zeros ∙ no_entry)
present_or_not entry present (inr form) is = inr (is ∙ form.0)

-- the length of an object that is there, by its levels
pub long_entry : (frame : Frame) (e : Entry) → IsEntryOf frame e → e.present ≡ 2 → (one_level_length < e.length) × (e.length ≤ max_length)
long_entry frame e (inl (one, short)) two = absurd (omega (arith, one, two))
long_entry frame e (inr (later, two, long, most)) is = (long, most)

pub short_entry : (frame : Frame) (e : Entry) → IsEntryOf frame e → (e.present ≡ 2 → ⊥) → e.length ≤ one_level_length
short_entry frame e (inl (one, short)) other = short
short_entry frame e (inr (later, two, long, most)) other = absurd (other two)
