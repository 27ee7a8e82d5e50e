-- A table of names after a write of one slot.
use Rattle.std.proofs.Common.{◌≡◌, ◌≢◌, ◌⊎◌, inl, inr, ℕ, ◌+◌, ◌*◌, ◌%◌, ◌<◌, ◌≤◌, List, [], ◌∷◌, length, replicate, refl, ap, sym, ◌∙◌, subst, arith}
use Rattle.std.proofs.lemmas.Bool.{cases_eq, cases_lt}
use Rattle.std.proofs.lemmas.List.{append-nil, take_all}
use Rattle.base.specs.history.Contents.{bytes_after_write}
use Rattle.object_names.specs.NameTables.{AreDistinct, AreSlots, HasHeader, IsNameTable, IsWhole, name_at, slot_at}
use Rattle.object_names.specs.Laws.{IsRenamed, IsUnused, SlotsChangeOneName, headed}
use Rattle.object_names.specs.Names.{IsName}
use Rattle.object_names.specs.Slots.{IsSlot, header_bytes, name_in, slot_bytes}
use Rattle.object_names.proofs.NameLengths.{IsName-length}
use Rattle.object_names.proofs.NamesFound.{name_at-past}
use Rattle.object_names.proofs.SlotBytes.{length-slot_bytes, name_in-slot_bytes}
use Rattle.object_names.proofs.WrittenSlots.{length-lengthened, length-written, slot_at-before, slot_at-behind, slot_at-between, slot_at-same}

-- a table that has its header, and what is written into it
record IsWritten (bytes : List ℕ) (n : ℕ) (name : List ℕ) : Type 0 where
  table : IsNameTable bytes
  there : 256 ≤ length bytes
  low : 0 < n
  high : n < 5292
  name_is : (name ≡ []) ⊎ IsName name
  short : length name ≤ 254
  unused : IsUnused bytes n name

abbrev slot_after : List ℕ → ℕ → List ℕ → List ℕ
slot_after bytes n name = bytes_after_write (256 * n) (slot_bytes name) bytes

-- a slot of zeros has no name
zeros-none : name_in (replicate 256 0) ≡ []
unfolding name_in
zeros-none = refl

zeros-slot : IsSlot (replicate 256 0)
unfolding name_in slot_bytes
zeros-slot = record { spelled = refl; name = inl refl }

-- whole slots: one that begins within the bytes ends within them
ends_within : (bytes : List ℕ) (m : ℕ) → IsWhole bytes → 256 * m < length bytes → 256 * m + 256 ≤ length bytes
ends_within bytes m whole there = omega (arith, whole.0)

others : (bytes : List ℕ) (n : ℕ) (name : List ℕ) → IsWritten bytes n name → (m : ℕ) → 0 < m → m ≢ n → name_at (slot_after bytes n name) m ≡ name_at bytes m
others bytes n name w m low other = elim (cases_lt m n) [
  | inl before ↦ elim (cases_lt (256 * m) (length bytes)) [
    | inl there ↦ ap name_in (slot_at-before m n (slot_bytes name) bytes before (ends_within bytes m w.table.whole there))
    | inr past ↦ ap name_in (slot_at-between m n (slot_bytes name) bytes before past) ∙ zeros-none ∙ sym (name_at-past bytes m past)
  ]
  | inr rest ↦ ap name_in (slot_at-behind m n (slot_bytes name) bytes (length-slot_bytes name w.short) (omega arith))
]

own : (bytes : List ℕ) (n : ℕ) (name : List ℕ) → IsWritten bytes n name → name_at (slot_after bytes n name) n ≡ name
own bytes n name w = ap name_in (slot_at-same n (slot_bytes name) bytes (length-slot_bytes name w.short)) ∙ name_in-slot_bytes name

-- how long it is then
data IsLong (before after n : ℕ) : Type 0 where
  written : 256 * n + 256 ≤ before → after ≡ before → IsLong before after n
  lengthened : before ≤ 256 * n → after ≡ 256 * n + 256 → IsLong before after n

long : (bytes : List ℕ) (n : ℕ) (name : List ℕ) → IsWritten bytes n name → IsLong (length bytes) (length (slot_after bytes n name)) n
long bytes n name w = elim (cases_lt (256 * n) (length bytes)) [
  | inl there ↦
      let within = ends_within bytes n w.table.whole there in
      written within (length-written n (slot_bytes name) bytes (length-slot_bytes name w.short) within)
  | inr past ↦ lengthened past (length-lengthened n (slot_bytes name) bytes (length-slot_bytes name w.short) past)
]

whole_by : (before after n : ℕ) → before % 256 ≡ 0 → before ≤ 256 * 5292 → n < 5292 → IsLong before after n → (after % 256 ≡ 0) × (after ≤ 256 * 5292)
whole_by before after n even few high (written within same) = (ap (λ (k : ℕ). k % 256) same ∙ even, omega arith)
whole_by before after n even few high (lengthened past same) = (omega arith, omega arith)

whole : (bytes : List ℕ) (n : ℕ) (name : List ℕ) → IsWritten bytes n name → IsWhole (slot_after bytes n name)
whole bytes n name w = whole_by (length bytes) (length (slot_after bytes n name)) n w.table.whole.0 w.table.whole.1 w.high (long bytes n name w)

header : (bytes : List ℕ) (n : ℕ) (name : List ℕ) → IsWritten bytes n name → HasHeader (slot_after bytes n name)
header bytes n name w = elim w.table.header [
  | inl none ↦ absurd (omega (arith, w.there, ap length none))
  | inr first ↦ inr (slot_at-before 0 n (slot_bytes name) bytes w.low w.there ∙ first)
]

slots : (bytes : List ℕ) (n : ℕ) (name : List ℕ) → IsWritten bytes n name → AreSlots (slot_after bytes n name)
slots bytes n name w = λ m low there. elim (cases_eq m n) [
  | inl same ↦ subst IsSlot (sym (ap (slot_at (slot_after bytes n name)) same ∙ slot_at-same n (slot_bytes name) bytes (length-slot_bytes name w.short))) this
  | inr other ↦ elim (cases_lt m n) [
    | inl before ↦ elim (cases_lt (256 * m) (length bytes)) [
      | inl in_bytes ↦ subst IsSlot (sym (slot_at-before m n (slot_bytes name) bytes before (ends_within bytes m w.table.whole in_bytes))) (w.table.slots m low in_bytes)
      | inr past ↦ subst IsSlot (sym (slot_at-between m n (slot_bytes name) bytes before past)) zeros-slot
    ]
    | inr rest ↦ subst IsSlot (sym (slot_at-behind m n (slot_bytes name) bytes (length-slot_bytes name w.short) (omega arith))) (w.table.slots m low (behind m (omega arith) there))
  ]
]
  where
    this : IsSlot (slot_bytes name)
    this = record { spelled = ap slot_bytes (sym (name_in-slot_bytes name)); name = subst (λ (l : List ℕ). (l ≡ []) ⊎ IsName l) (sym (name_in-slot_bytes name)) w.name_is }

    behind_by : (m after : ℕ) → n < m → 256 * m < after → IsLong (length bytes) after n → 256 * m < length bytes
    behind_by m after above there (written within same) = omega arith
    behind_by m after above there (lengthened past same) = absurd (omega arith)

    behind : (m : ℕ) → n < m → 256 * m < length (slot_after bytes n name) → 256 * m < length bytes
    behind m above there = behind_by m (length (slot_after bytes n name)) above there (long bytes n name w)

-- an object that has the name that is written is the one of the slot, or the name is none
taken : (bytes : List ℕ) (n : ℕ) (name : List ℕ) → IsWritten bytes n name → (m : ℕ) → 0 < m → m < 5292 → m ≢ n → name_at bytes m ≡ name → name ≡ []
taken bytes n [] w m low high other same = refl
taken bytes n (x ∷ xs) w m low high other same = absurd (other (w.unused m (record { number = low; few = high; name_is = same; some = λ e. cc })))

distinct : (bytes : List ℕ) (n : ℕ) (name : List ℕ) → IsWritten bytes n name → AreDistinct (slot_after bytes n name)
distinct bytes n name w = λ p q low below there same. elim (cases_eq q n) [
  | inl q_is ↦
      let other : p ≢ n = omega arith in
      let here : name_at (slot_after bytes n name) q ≡ name = ap (name_at (slot_after bytes n name)) q_is ∙ own bytes n name w in
      here ∙ taken bytes n name w p low (omega (arith, w.high)) other (sym (others bytes n name w p low other) ∙ same ∙ here)
  | inr q_other ↦
      let there_q = others bytes n name w q (omega arith) q_other in
      elim (cases_eq p n) [
        | inl p_is ↦
            let here : name_at (slot_after bytes n name) p ≡ name = ap (name_at (slot_after bytes n name)) p_is ∙ own bytes n name w in
            let few : q < 5292 = omega (arith, there, (whole bytes n name w).1) in
            sym same ∙ here ∙ taken bytes n name w q (omega arith) few q_other (sym there_q ∙ sym same ∙ here)
        | inr p_other ↦
            there_q ∙ kept p q low below (sym (others bytes n name w p low p_other) ∙ same ∙ there_q)
      ]
]
  where
    kept : (p q : ℕ) → 0 < p → p < q → name_at bytes p ≡ name_at bytes q → name_at bytes q ≡ []
    kept p q low below same = elim (cases_lt (256 * q) (length bytes)) [
      | inl in_bytes ↦ w.table.distinct p q low below in_bytes same
      | inr past ↦ name_at-past bytes q past
    ]

renamed : (bytes : List ℕ) (n : ℕ) (name : List ℕ) → IsWritten bytes n name → IsRenamed bytes n name (slot_after bytes n name)
renamed bytes n name w = record {
  table = record { whole = whole bytes n name w; header = header bytes n name w; slots = slots bytes n name w; distinct = distinct bytes n name w };
  name_is = own bytes n name w;
  others = others bytes n name w;
}

-- the header alone
header-length : length header_bytes ≡ 256
unfolding header_bytes
header-length = refl

header-alone : headed [] ≡ header_bytes
unfolding header_bytes
header-alone = append-nil header_bytes

header-table : IsNameTable header_bytes
header-table = record {
  whole = (ap (λ (k : ℕ). k % 256) header-length, omega (arith, header-length));
  header = inr (take_all 256 header_bytes (omega (arith, header-length)));
  slots = λ n low there. absurd (omega (arith, low, there, header-length));
  distinct = λ m n low below there same. absurd (omega (arith, below, there, header-length));
}

headed-table : (bytes : List ℕ) → IsNameTable bytes → IsNameTable (headed bytes)
headed-table [] is = subst IsNameTable (sym header-alone) header-table
headed-table (x ∷ xs) is = is

headed-there : (bytes : List ℕ) → IsNameTable bytes → 256 ≤ length (headed bytes)
headed-there [] is = omega (arith, ap length header-alone, header-length)
headed-there (x ∷ xs) is =
    let some : 0 < length (x ∷ xs) = grind arith in
    omega (arith, is.whole.0, some)

headed-names : (bytes : List ℕ) (m : ℕ) → 0 < m → name_at (headed bytes) m ≡ name_at bytes m
headed-names [] m low =
    name_at-past (headed []) m (omega (arith, low, ap length header-alone, header-length)) ∙ sym (name_at-past [] m (omega arith))
headed-names (x ∷ xs) m low = refl

headed-unused : (bytes : List ℕ) (n : ℕ) (name : List ℕ) → IsUnused bytes n name → IsUnused (headed bytes) n name
headed-unused bytes n name unused = λ m is. unused m (record { number = is.number; few = is.few; name_is = sym (headed-names bytes m is.number) ∙ is.name_is; some = is.some })

short_name : (name : List ℕ) → (name ≡ []) ⊎ IsName name → length name ≤ 254
short_name name (inl none) = omega (arith, ap length none)
short_name name (inr is) = IsName-length name is

pub slots-change_one_name : SlotsChangeOneName
slots-change_one_name bytes n name is low high name_is unused =
    let after = renamed (headed bytes) n name (record {
      table = headed-table bytes is;
      there = headed-there bytes is;
      low = low;
      high = high;
      name_is = name_is;
      short = short_name name name_is;
      unused = headed-unused bytes n name unused;
    }) in
    record {
      table = after.table;
      name_is = after.name_is;
      others = λ m from other. after.others m from other ∙ headed-names bytes m from;
    }
