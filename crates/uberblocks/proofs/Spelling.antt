-- Each uberblock has one spelling.
use Rattle.std.proofs.Common.{ℕ, ◌≡◌, ◌+◌, ◌<◌, ◌≤◌, ◌⊎◌, inl, inr, List, [], ◌++◌, length, get_or, take, drop, replicate, sym, ap, ◌∙◌, arith, slice_index}
use Rattle.std.proofs.lemmas.Bool.{cases_lt}
use Rattle.std.proofs.lemmas.List.{take_at, take-append-drop, drop-drop, drop_all, get_or-take, get_or-drop, get_or_past, append-nil, append_assoc}
use Rattle.std.proofs.lemmas.Nat.{le_bytes_8}
use Rattle.sha2.specs.Sha256.{sha256}
use Rattle.base.specs.declared.pointer.Pointer.{Pointer}
use Rattle.base.specs.formats.Fields.{part, number_at, number_bytes, pointer_at, pointer_bytes}
use Rattle.base.proofs.disk.Put.{length-part}
use Rattle.uberblocks.specs.Slots.{field_bytes, checked_bytes, zeros}
use Rattle.uberblocks.specs.Laws.{SlotsSpelledOnce}
use Rattle.uberblocks.proofs.SlotWrites.{length-checked_bytes, field_bytes-nested}

-- every byte of a list is one
abbrev AreBytes : List ℕ → Type 0
AreBytes bytes = (i : ℕ) → slice_index bytes i < 256

part_bytes : (bytes : List ℕ) (at size : ℕ) → at + size ≤ length bytes → AreBytes bytes → (i : ℕ) → get_or (part bytes at size) i 0 < 256
part_bytes bytes at size fits small i = split (cases_lt i size)
  where
    split : (i < size) ⊎ (size ≤ i) → get_or (part bytes at size) i 0 < 256
    split (inl below) = rw (get_or-take size (drop at bytes) i 0 below, get_or-drop at bytes i 0) (small (at + i))
    split (inr past) = rw (get_or_past (part bytes at size) i 0 (omega (arith, length-part at size bytes fits))) (omega arith)

-- what is left from a place on is the part there and what is left after it
left_split : (bytes : List ℕ) (at size : ℕ) → drop at bytes ≡ part bytes at size ++ drop (at + size) bytes
left_split bytes at size = sym (take-append-drop size (drop at bytes)) ∙ ap (λ (l : List ℕ). part bytes at size ++ l) (drop-drop size at bytes)

-- a field in front of what is known of the rest
before : (field : List ℕ) {whole left rest : List ℕ} → whole ≡ field ++ left → left ≡ rest → whole ≡ field ++ rest
before field split known = split ∙ ap (λ (l : List ℕ). field ++ l) known

number_split : (bytes : List ℕ) (at n : ℕ) → at + 8 ≤ length bytes → AreBytes bytes → number_at bytes at ≡ n → drop at bytes ≡ number_bytes n ++ drop (at + 8) bytes
unfolding number_at number_bytes
number_split bytes at n fits small is =
    left_split bytes at 8
    ∙ ap (λ (l : List ℕ). l ++ drop (at + 8) bytes) (sym (le_bytes_8 (part bytes at 8) n (length-part at 8 bytes fits) (part_bytes bytes at 8 fits small) (sym is)))

pointer_split : (bytes : List ℕ) (at : ℕ) (p : Pointer) → at + 48 ≤ length bytes → AreBytes bytes → pointer_at bytes at ≡ p → drop at bytes ≡ pointer_bytes p ++ drop (at + 48) bytes
pointer_split bytes at p fits small is =
    let address = number_split bytes at p.address (omega (arith, fits)) small (ap (λ (q : Pointer). q.address) is) in
    let birth = number_split bytes (at + 8) p.birth (omega (arith, fits)) small (ap (λ (q : Pointer). q.birth) is) in
    let check = left_split bytes (at + 16) 32 ∙ ap (λ (l : List ℕ). l ++ drop (at + 16 + 32) bytes) (ap (λ (q : Pointer). q.check) is) in
    let third : drop (at + 8 + 8) bytes ≡ p.check ++ drop (at + 48) bytes =
    ap (λ (k : ℕ). drop k bytes) (omega arith) ∙ check ∙ ap (λ (k : ℕ). p.check ++ drop k bytes) (omega arith) in
    let all = before (number_bytes p.address) address (before (number_bytes p.birth) birth third) in
    all ∙ ap (λ (l : List ℕ). number_bytes p.address ++ l) (sym (append_assoc (number_bytes p.birth) p.check (drop (at + 48) bytes)))
    ∙ sym (append_assoc (number_bytes p.address) (number_bytes p.birth ++ p.check) (drop (at + 48) bytes))

zeros_from : {l : List ℕ} → l ≡ replicate 880 0 → l ≡ zeros 880
unfolding zeros
zeros_from e = e

pub slots_spelled_once : SlotsSpelledOnce
slots_spelled_once bytes u small is =
    let long = is.size in
    let check = sha256 (take 992 bytes) in
    let end : drop 1024 bytes ≡ [] = drop_all 1024 bytes (omega (arith, long)) in
    let d992 : drop 992 bytes ≡ check = left_split bytes 992 32 ∙ ap (λ (l : List ℕ). l ++ drop 1024 bytes) is.agrees ∙ ap (λ (l : List ℕ). check ++ l) end ∙ append-nil check in
    let d112 : drop 112 bytes ≡ zeros 880 ++ check = before (zeros 880) (left_split bytes 112 880 ∙ ap (λ (l : List ℕ). l ++ drop 992 bytes) (zeros_from is.zeros)) d992 in
    let d104 = before (number_bytes u.log_number) (number_split bytes 104 u.log_number (omega (arith, long)) small is.log_number) d112 in
    let d96 = before (number_bytes u.log_address) (number_split bytes 96 u.log_address (omega (arith, long)) small is.log_address) d104 in
    let d88 = before (number_bytes u.import_number) (number_split bytes 88 u.import_number (omega (arith, long)) small is.import_number) d96 in
    let d40 = before (pointer_bytes u.root) (pointer_split bytes 40 u.root (omega (arith, long)) small is.root) d88 in
    let d32 = before (number_bytes u.moment) (number_split bytes 32 u.moment (omega (arith, long)) small is.moment) d40 in
    let d24 = before (number_bytes u.guid) (number_split bytes 24 u.guid (omega (arith, long)) small is.guid) d32 in
    let d16 = before (number_bytes u.group) (number_split bytes 16 u.group (omega (arith, long)) small is.group) d24 in
    let d8 = before (number_bytes u.version) (number_split bytes 8 u.version (omega (arith, long)) small is.version) d16 in
    let d0 = before (number_bytes 0x00bab10c) (number_split bytes 0 0x00bab10c (omega (arith, long)) small is.magic) d8 in
    let whole : bytes ≡ checked_bytes u ++ check = d0 ∙ sym (field_bytes-nested u (zeros 880 ++ check)) ∙ sym (append_assoc (field_bytes u) (zeros 880) check) in
    let check_long : length u.root.check ≡ 32 = ap (λ (q : Pointer). length q.check) (sym is.root) ∙ length-part 56 32 bytes (omega (arith, long)) in
    let head : take 992 bytes ≡ checked_bytes u = ap (λ (l : List ℕ). take 992 l) whole ∙ take_at (checked_bytes u) check 992 (length-checked_bytes u check_long) in
    whole ∙ ap (λ (l : List ℕ). checked_bytes u ++ sha256 l) head
