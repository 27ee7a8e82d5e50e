-- The bytes of an uberblock, as they are written, are one.
use Rattle.std.proofs.Common.{ℕ, ◌≡◌, ◌+◌, ◌-◌, ◌≤◌, List, [], ◌++◌, length, take, drop, replicate, sym, ap, ◌∙◌, arith}
use Rattle.std.proofs.lemmas.List.{take_at, drop_at, drop_all, append-nil, append_assoc, length-append, length-replicate, take-replicate, drop-replicate}
use Rattle.std.proofs.Math.Seq.{take-append-add}
use Rattle.sha2.specs.Sha256.{sha256}
use Rattle.sha2.proofs.Facts256.{length-sha256}
use Rattle.base.specs.disk.Disk.{put}
use Rattle.base.specs.formats.Fields.{part, number_bytes, pointer_bytes}
use Rattle.base.specs.formats.Uberblocks.{Uberblock as Fields, IsUberblock}
use Rattle.base.proofs.formats.FieldsRead.{length-number_bytes, put-put_behind, length-pointer_bytes}
use Rattle.uberblocks.specs.Slots.{field_bytes, checked_bytes, slot_bytes, zeros, FieldsFit, IsWithinLimits}
use Rattle.uberblocks.proofs.SlotParts.{part_first, number_first, number_behind, pointer_first, pointer_behind}

pub length-zeros : (n : ℕ) → length (zeros n) ≡ n
unfolding zeros
length-zeros n = length-replicate n 0

pub take-zeros : (m n : ℕ) → m ≤ n → take m (zeros n) ≡ zeros m
unfolding zeros
take-zeros m n fits = take-replicate m n 0 fits

pub drop-zeros : (m n : ℕ) → drop m (zeros n) ≡ zeros (n - m)
unfolding zeros
drop-zeros m n = drop-replicate m n 0

-- a field is put after those that were put at the front
pub put_next : (at : ℕ) (done field bytes before after : List ℕ) → length done ≡ at → at + length field ≤ length bytes
    → before ≡ put 0 done bytes → after ≡ put at field before → after ≡ put 0 (done ++ field) bytes
put_next at done field bytes before after long fits was now =
    let behind : 0 + length done ≡ at = omega (arith, long) in
    now ∙ ap (λ (l : List ℕ). put at field l) was ∙ ap (λ (k : ℕ). put k field (put 0 done bytes)) (sym behind)
    ∙ put-put_behind 0 done field bytes (omega (arith, long, fits))

-- what is put at the front of zeros
pub put_front : (fields : List ℕ) (n m : ℕ) → length fields ≡ n → put 0 fields (zeros (n + m)) ≡ fields ++ zeros m
put_front fields n m long =
    let rest : 0 + n + m - n ≡ m = omega arith in
    ap (λ (l : List ℕ). fields ++ l) (ap (λ (k : ℕ). drop k (zeros (n + m))) (omega (arith, long)) ∙ drop-zeros n (n + m) ∙ ap zeros (omega arith))

-- the bytes that the check covers, and the slot with its check
pub take_head : (fields : List ℕ) (n m k : ℕ) → length fields ≡ n → m ≤ k → take (n + m) (fields ++ zeros k) ≡ fields ++ zeros m
take_head fields n m k long fits =
    ap (λ (i : ℕ). take (i + m) (fields ++ zeros k)) (sym long) ∙ take-append-add fields (zeros k) m ∙ ap (λ (l : List ℕ). fields ++ l) (take-zeros m k fits)

pub put_check : (place size : ℕ) (check bytes : List ℕ) → length check ≡ size → length bytes ≡ place + size → put place check bytes ≡ take place bytes ++ check
put_check place size check bytes small long =
    let past : drop (place + length check) bytes ≡ [] = drop_all (place + length check) bytes (omega (arith, small, long)) in
    ap (λ (l : List ℕ). take place bytes ++ (check ++ l)) past ∙ ap (λ (l : List ℕ). take place bytes ++ l) (append-nil check)

pub length-two : (a b : List ℕ) (m n : ℕ) → length a ≡ m → length b ≡ n → length (a ++ b) ≡ m + n
length-two a b m n la lb = length-append a b ∙ ap (λ (k : ℕ). k + length b) la ∙ ap (λ (k : ℕ). m + k) lb

pub length-field_bytes : (u : Fields) → length u.root.check ≡ 32 → length (field_bytes u) ≡ 112
unfolding field_bytes
length-field_bytes u long =
    length-two _ _ 104 8 (length-two _ _ 96 8 (length-two _ _ 88 8 (length-two _ _ 40 48 (length-two _ _ 32 8 (length-two _ _ 24 8 (length-two _ _ 16 8 (length-two _ _ 8 8
    (length-number_bytes 0x00bab10c) (length-number_bytes u.version)) (length-number_bytes u.group)) (length-number_bytes u.guid)) (length-number_bytes u.moment))
    (length-pointer_bytes u.root long)) (length-number_bytes u.import_number)) (length-number_bytes u.log_address)) (length-number_bytes u.log_number)

pub length-checked_bytes : (u : Fields) → length u.root.check ≡ 32 → length (checked_bytes u) ≡ 992
length-checked_bytes u long = length-two (field_bytes u) (zeros 880) 112 880 (length-field_bytes u long) (length-zeros 880)

-- the fields one after the other, from the front on
nest : (a b c d e f g h i rest : List ℕ) → a ++ b ++ c ++ d ++ e ++ f ++ g ++ h ++ i ++ rest ≡ a ++ (b ++ (c ++ (d ++ (e ++ (f ++ (g ++ (h ++ (i ++ rest))))))))
nest a b c d e f g h i rest = simp append_assoc

-- all that a slot begins with, field by field
pub field_bytes-nested : (u : Fields) (rest : List ℕ) → field_bytes u ++ rest
    ≡ number_bytes 0x00bab10c ++ (number_bytes u.version ++ (number_bytes u.group ++ (number_bytes u.guid ++ (number_bytes u.moment ++ (pointer_bytes u.root ++ (number_bytes u.import_number ++ (number_bytes u.log_address ++ (number_bytes u.log_number ++ rest))))))))
unfolding field_bytes
field_bytes-nested u rest = nest (number_bytes 0x00bab10c) (number_bytes u.version) (number_bytes u.group) (number_bytes u.guid) (number_bytes u.moment) (pointer_bytes u.root) (number_bytes u.import_number) (number_bytes u.log_address) (number_bytes u.log_number) rest

zeros_is : {l : List ℕ} → l ≡ zeros 880 → l ≡ replicate 880 0
unfolding zeros
zeros_is e = e

pub IsUberblock-slot_bytes : (u : Fields) → FieldsFit u → IsWithinLimits u → IsUberblock (slot_bytes u) u
IsUberblock-slot_bytes u fits limits =
    let check = sha256 (checked_bytes u) in
    let bytes = slot_bytes u in
    let all = field_bytes u in
    let head_long : length (checked_bytes u) ≡ 992 = length-checked_bytes u fits.check in
    let check_long : length check ≡ 32 = length-sha256 (checked_bytes u) in
    let whole : bytes ≡ all ++ (zeros 880 ++ check) = append_assoc all (zeros 880) check in
    let left = field_bytes-nested u (zeros 880 ++ check) in
    let d0 = whole ∙ left in
    let d8 = number_behind bytes _ 0 0x00bab10c d0 in
    let d16 = number_behind bytes _ 8 u.version d8 in
    let d24 = number_behind bytes _ 16 u.group d16 in
    let d32 = number_behind bytes _ 24 u.guid d24 in
    let d40 = number_behind bytes _ 32 u.moment d32 in
    let d88 = pointer_behind bytes _ 40 u.root d40 fits.check in
    let d96 = number_behind bytes _ 88 u.import_number d88 in
    let d104 = number_behind bytes _ 96 u.log_address d96 in
    let d112 = number_behind bytes _ 104 u.log_number d104 in
    let taken : take 992 bytes ≡ checked_bytes u = take_at (checked_bytes u) check 992 head_long in
    let checked : part bytes 992 32 ≡ check = part_first bytes check [] 992 32 (drop_at (checked_bytes u) check 992 head_long ∙ sym (append-nil check)) check_long in
    record {
      size = length-two (checked_bytes u) check 992 32 head_long check_long;
      magic = number_first bytes _ 0 0x00bab10c d0 (omega arith);
      version = number_first bytes _ 8 u.version d8 fits.version;
      group = number_first bytes _ 16 u.group d16 fits.group;
      guid = number_first bytes _ 24 u.guid d24 fits.guid;
      moment = number_first bytes _ 32 u.moment d32 fits.moment;
      root = pointer_first bytes _ 40 u.root d40 fits.address fits.birth fits.check;
      import_number = number_first bytes _ 88 u.import_number d88 fits.import_number;
      log_address = number_first bytes _ 96 u.log_address d96 fits.log_address;
      log_number = number_first bytes _ 104 u.log_number d104 fits.log_number;
      zeros = zeros_is (part_first bytes (zeros 880) check 112 880 d112 (length-zeros 880));
      agrees = checked ∙ ap sha256 (sym taken);
      version_known = limits.version_known;
      no_lower_group = limits.no_lower_group;
      no_higher_group = limits.no_higher_group;
      no_higher_import = limits.no_higher_import;
      no_higher_log = limits.no_higher_log;
    }

-- the bytes of a slot as they are made: the fields over zeros, then the check of what is there
pub slot_bytes_made : (u : Fields) (empty written check made : List ℕ) → length u.root.check ≡ 32 → empty ≡ zeros 1024 → written ≡ put 0 (field_bytes u) empty
    → check ≡ sha256 (take 992 written) → made ≡ put 992 check written → made ≡ slot_bytes u
slot_bytes_made u empty written check made long clear fields digest sealed =
    let all = field_bytes u in
    let all_long = length-field_bytes u long in
    let front : written ≡ all ++ zeros 912 = fields ∙ ap (λ (l : List ℕ). put 0 all l) clear ∙ put_front all 112 912 all_long in
    let head : take 992 written ≡ checked_bytes u = ap (λ (l : List ℕ). take 992 l) front ∙ take_head all 112 880 912 all_long (omega arith) in
    let check_is : check ≡ sha256 (checked_bytes u) = digest ∙ ap sha256 head in
    let check_long : length check ≡ 32 = ap (λ (l : List ℕ). length l) check_is ∙ length-sha256 (checked_bytes u) in
    let written_long : length written ≡ 992 + 32 = ap (λ (l : List ℕ). length l) front ∙ length-two all (zeros 912) 112 912 all_long (length-zeros 912) in
    sealed ∙ put_check 992 32 check written check_long written_long
    ∙ ap (λ (l : List ℕ). l ++ check) head ∙ ap (λ (l : List ℕ). checked_bytes u ++ l) check_is
