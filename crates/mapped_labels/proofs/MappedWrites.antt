-- The bytes of an uberblock of a pool with a map, as they are written, are one.
use Rattle.std.proofs.Common.{ℕ, ◌≡◌, ◌+◌, ◌^◌, ◌<◌, List, [], ◌++◌, length, take, drop, replicate, sym, ap, ◌∙◌, arith}
use Rattle.std.proofs.lemmas.List.{take_at, drop_at, append-nil, append_assoc}
use Rattle.sha2.specs.Sha256.{sha256}
use Rattle.sha2.proofs.Facts256.{length-sha256}
use Rattle.base.specs.disk.Disk.{put}
use Rattle.base.specs.formats.Fields.{part, number_bytes, pointer_bytes, number_at, pointer_at}
use Rattle.base.specs.formats.Versions.{written_version}
use Rattle.uberblocks.specs.Slots.{field_bytes, zeros}
use Rattle.uberblocks.proofs.SlotParts.{part_first, drop_first, number_first, number_behind, pointer_first, pointer_behind}
use Rattle.uberblocks.proofs.SlotWrites.{length-zeros, put_next, put_front, take_head, put_check, length-two, length-field_bytes, field_bytes-nested}
use Rattle.mapped_labels.specs.declared.map_entry.MapEntry.{MapEntry}
use Rattle.mapped_labels.specs.Entries.{map_entry_at, map_entry_bytes}
use Rattle.mapped_labels.specs.MappedUberblocks.{MappedState, IsMappedUberblock}
use Rattle.mapped_labels.specs.MappedSlots.{AreWithinLimits, MappedFit, stored, mapped_field_bytes, mapped_checked_bytes, mapped_slot_bytes}
use Rattle.mapped_labels.proofs.EntriesRead.{length-map_entry_bytes}

-- an entry of a map that what is left begins with
entry_first : (bytes rest : List ℕ) (at : ℕ) (e : MapEntry) → drop at bytes ≡ map_entry_bytes e ++ rest → e.pointer.address < 2 ^ 64 → e.pointer.birth < 2 ^ 64 → length e.pointer.check ≡ 32 → e.count < 2 ^ 64
    → map_entry_at bytes at ≡ e
entry_first bytes rest at e left small low long fits =
    let parts : drop at bytes ≡ pointer_bytes e.pointer ++ (number_bytes e.count ++ rest) = left ∙ append_assoc (pointer_bytes e.pointer) (number_bytes e.count) rest in
    let pointer : pointer_at bytes at ≡ e.pointer = pointer_first bytes _ at e.pointer parts small low long in
    let count : number_at bytes (at + 48) ≡ e.count = number_first bytes rest (at + 48) e.count (pointer_behind bytes _ at e.pointer parts long) fits in
    λ i. record { pointer = pointer i; count = count i }

length-mapped_fields : (u : MappedState) → length u.state.root.check ≡ 32 → length u.map.pointer.check ≡ 32 → length (mapped_field_bytes u) ≡ 168
length-mapped_fields u long map_long =
    length-two (field_bytes (stored u.state)) (map_entry_bytes u.map) 112 56 (length-field_bytes (stored u.state) long) (length-map_entry_bytes u.map map_long)

length-mapped_checked : (u : MappedState) → length u.state.root.check ≡ 32 → length u.map.pointer.check ≡ 32 → length (mapped_checked_bytes u) ≡ 4064
length-mapped_checked u long map_long = length-two (mapped_field_bytes u) (zeros 3896) 168 3896 (length-mapped_fields u long map_long) (length-zeros 3896)

zeros_is : {l : List ℕ} → l ≡ zeros 3896 → l ≡ replicate 3896 0
unfolding zeros
zeros_is e = e

pub IsMappedUberblock-slot_bytes : (u : MappedState) → MappedFit u → u.state.version ≡ written_version → AreWithinLimits u.state → IsMappedUberblock (mapped_slot_bytes u) u
IsMappedUberblock-slot_bytes u fit rules limits =
    let fits = fit.state in
    let check = sha256 (mapped_checked_bytes u) in
    let bytes = mapped_slot_bytes u in
    let all = field_bytes (stored u.state) in
    let head_long : length (mapped_checked_bytes u) ≡ 4064 = length-mapped_checked u fits.check fit.map.check in
    let check_long : length check ≡ 32 = length-sha256 (mapped_checked_bytes u) in
    let whole : bytes ≡ all ++ (map_entry_bytes u.map ++ (zeros 3896 ++ check)) =
    append_assoc (mapped_field_bytes u) (zeros 3896) check ∙ append_assoc all (map_entry_bytes u.map) (zeros 3896 ++ check) in
    let left = field_bytes-nested (stored u.state) (map_entry_bytes u.map ++ (zeros 3896 ++ check)) in
    let d0 = whole ∙ left in
    let d8 = number_behind bytes _ 0 0x00bab10c d0 in
    let d16 = number_behind bytes _ 8 3 d8 in
    let d24 = number_behind bytes _ 16 u.state.group d16 in
    let d32 = number_behind bytes _ 24 u.state.guid d24 in
    let d40 = number_behind bytes _ 32 u.state.moment d32 in
    let d88 = pointer_behind bytes _ 40 u.state.root d40 fits.check in
    let d96 = number_behind bytes _ 88 u.state.import_number d88 in
    let d104 = number_behind bytes _ 96 u.state.log_address d96 in
    let d112 = number_behind bytes _ 104 u.state.log_number d104 in
    let d168 : drop 168 bytes ≡ zeros 3896 ++ check = drop_first bytes (map_entry_bytes u.map) (zeros 3896 ++ check) 112 56 d112 (length-map_entry_bytes u.map fit.map.check) in
    let taken : take 4064 bytes ≡ mapped_checked_bytes u = take_at (mapped_checked_bytes u) check 4064 head_long in
    let checked : part bytes 4064 32 ≡ check = part_first bytes check [] 4064 32 (drop_at (mapped_checked_bytes u) check 4064 head_long ∙ sym (append-nil check)) check_long in
    record {
      size = length-two (mapped_checked_bytes u) check 4064 32 head_long check_long;
      magic = number_first bytes _ 0 0x00bab10c d0 (omega arith);
      version = number_first bytes _ 8 3 d8 (omega arith);
      group = number_first bytes _ 16 u.state.group d16 fits.group;
      guid = number_first bytes _ 24 u.state.guid d24 fits.guid;
      moment = number_first bytes _ 32 u.state.moment d32 fits.moment;
      root = pointer_first bytes _ 40 u.state.root d40 fits.address fits.birth fits.check;
      import_number = number_first bytes _ 88 u.state.import_number d88 fits.import_number;
      log_address = number_first bytes _ 96 u.state.log_address d96 fits.log_address;
      log_number = number_first bytes _ 104 u.state.log_number d104 fits.log_number;
      map = entry_first bytes (zeros 3896 ++ check) 112 u.map d112 fit.map.address fit.map.birth fit.map.check fit.map.count;
      zeros = zeros_is (part_first bytes (zeros 3896) check 168 3896 d168 (length-zeros 3896));
      agrees = checked ∙ ap sha256 (sym taken);
      rules = rules;
      no_lower_group = limits.no_lower_group;
      no_higher_group = limits.no_higher_group;
      no_higher_import = limits.no_higher_import;
      no_higher_log = limits.no_higher_log;
    }

-- the bytes of a slot as they are made: the fields over zeros, the entry of the map after them, then the check of what
-- is there
pub slot_bytes_made : (u : MappedState) (empty written mapped check made : List ℕ) → MappedFit u → empty ≡ zeros 4096 → written ≡ put 0 (field_bytes (stored u.state)) empty
    → mapped ≡ put 112 (map_entry_bytes u.map) written → check ≡ sha256 (take 4064 mapped) → made ≡ put 4064 check mapped → made ≡ mapped_slot_bytes u
slot_bytes_made u empty written mapped check made fit clear fields map digest sealed =
    let long = fit.state.check in
    let map_long = length-map_entry_bytes u.map fit.map.check in
    let all = mapped_field_bytes u in
    let all_long = length-mapped_fields u long fit.map.check in
    let empty_long : length empty ≡ 4096 = ap (λ (l : List ℕ). length l) clear ∙ length-zeros 4096 in
    let both : mapped ≡ put 0 all empty = put_next 112 (field_bytes (stored u.state)) (map_entry_bytes u.map) empty written mapped (length-field_bytes (stored u.state) long) (omega (arith, map_long, empty_long)) fields map in
    let front : mapped ≡ all ++ zeros 3928 = both ∙ ap (λ (l : List ℕ). put 0 all l) clear ∙ put_front all 168 3928 all_long in
    let head : take 4064 mapped ≡ mapped_checked_bytes u = ap (λ (l : List ℕ). take 4064 l) front ∙ take_head all 168 3896 3928 all_long (omega arith) in
    let check_is : check ≡ sha256 (mapped_checked_bytes u) = digest ∙ ap sha256 head in
    let check_long : length check ≡ 32 = ap (λ (l : List ℕ). length l) check_is ∙ length-sha256 (mapped_checked_bytes u) in
    let mapped_long : length mapped ≡ 4064 + 32 = ap (λ (l : List ℕ). length l) front ∙ length-two all (zeros 3928) 168 3928 all_long (length-zeros 3928) in
    sealed ∙ put_check 4064 32 check mapped check_long mapped_long
    ∙ ap (λ (l : List ℕ). l ++ check) head ∙ ap (λ (l : List ℕ). mapped_checked_bytes u ++ l) check_is
