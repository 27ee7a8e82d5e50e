-- Bytes are those of one list of records at most.
use Rattle.std.proofs.Common.{◌≡◌, ℕ, ◌<◌, List, [], ◌∷◌, ◌++◌, length, refl, sym, ap, subst, ◌∙◌, append_assoc, length-append, arith}
use Rattle.std.specs.Prelude.{All}
use Rattle.std.proofs.lemmas.List.{append-nil}
use Rattle.std.proofs.lemmas.List.Concat.{flat_map-append}
use Rattle.std.proofs.lemmas.List.Elements.{All-head, All-tail}
use Rattle.base.specs.formats.Records.{Record, IsAllowed, IsDecoded, HasNoRecord, bytes_of_record, bytes_of_records}
use Rattle.base.proofs.formats.RecordSizes.{length-bytes_of_record}
use Rattle.records.proofs.RecordsRead.{readings_agree}
use Rattle.intent_log.specs.Chains.{HasNoRecords}

-- a record has some bytes
pub some_bytes : (r : Record) → 0 < length (bytes_of_record r)
some_bytes r = rw (length-bytes_of_record r) (omega arith)

-- after records that were read from the front stand the others
pub record RestOf (read rs : List Record) (rest : List ℕ) : Type 0 where
  pub more : List Record
  pub whole : rs ≡ read ++ more
  pub rest_is : rest ≡ bytes_of_records more
  pub allowed : All IsAllowed more

pub rest_of : (read rs : List Record) (rest : List ℕ) → All IsAllowed read → All IsAllowed rs → bytes_of_records rs ≡ bytes_of_records read ++ rest → RestOf read rs rest
rest_of [] rs rest h k e = record { more = rs; whole = refl; rest_is = sym e; allowed = k }
rest_of (r ∷ read) [] rest h k e =
    let long : 0 ≡ length (bytes_of_records (r ∷ read) ++ rest) = ap (λ (l : List ℕ). length l) e in
    let some = some_bytes r in
    absurd (omega (arith, long, some, length-append (bytes_of_records (r ∷ read)) rest, length-append (bytes_of_record r) (bytes_of_records read)))
rest_of (r ∷ read) (s ∷ rs) rest h k e =
    let whole : bytes_of_records (s ∷ rs) ≡ bytes_of_record r ++ (bytes_of_records read ++ rest) = e ∙ append_assoc (bytes_of_record r) (bytes_of_records read) rest in
    let same = readings_agree (bytes_of_records (s ∷ rs)) s r (bytes_of_records rs) (bytes_of_records read ++ rest)
    (record { allowed = All-head IsAllowed s rs k; spelled = refl }) (record { allowed = All-head IsAllowed r read h; spelled = whole }) in
    let behind = rest_of read rs rest (All-tail IsAllowed r read h) (All-tail IsAllowed s rs k) same.1 in
    record {
      more = behind.more;
      whole = (λ i. same.0 i ∷ behind.whole i);
      rest_is = behind.rest_is;
      allowed = behind.allowed;
    }

-- bytes without a record at their front are those of no records
pub none_left : (more : List Record) (rest : List ℕ) → rest ≡ bytes_of_records more → All IsAllowed more → HasNoRecord rest → more ≡ []
none_left [] rest e h none = refl
none_left (r ∷ more) rest e h none = absurd (none r (bytes_of_records more) (record { allowed = All-head IsAllowed r more h; spelled = e }))

-- so if no record stands after those that were read, and bytes are left if any was read, the bytes are of no records
pub no_records : (bytes rest : List ℕ) (read : List Record) → bytes ≡ bytes_of_records read ++ rest → All IsAllowed read → (0 < length read → 0 < length rest)
    → HasNoRecord rest → HasNoRecords bytes
no_records bytes rest read e h left none rs are =
    let behind = rest_of read rs rest h are.allowed (sym are.spelled ∙ e) in
    let nothing : behind.more ≡ [] = none_left behind.more rest behind.rest_is behind.allowed none in
    let same : rs ≡ read = behind.whole ∙ ap (λ (l : List Record). read ++ l) nothing ∙ append-nil read in
    let empty : rest ≡ [] = behind.rest_is ∙ ap (λ (l : List Record). bytes_of_records l) nothing in
    let some : 0 < length read = subst (λ (l : List Record). 0 < length l) same are.some in
    let some_left : 0 < length rest = left some in
    let zero : length rest ≡ 0 = ap (λ (l : List ℕ). length l) empty in
    omega (arith, some_left, zero)

-- no record stands at the front of no bytes
pub nothing_has_none : (rest : List ℕ) → length rest ≡ 0 → HasNoRecord rest
nothing_has_none rest e r more decoded =
    let long : length rest ≡ length (bytes_of_record r ++ more) = ap (λ (l : List ℕ). length l) decoded.spelled in
    let some = some_bytes r in
    omega (arith, e, long, some, length-append (bytes_of_record r) more)

-- one record more is read
pub record_more : (bytes rest after : List ℕ) (read : List Record) (r : Record) → bytes ≡ bytes_of_records read ++ rest → IsDecoded rest r after
    → bytes ≡ bytes_of_records (read ++ r ∷ []) ++ after
record_more bytes rest after read r e decoded =
    let last : bytes_of_records (r ∷ []) ≡ bytes_of_record r = append-nil (bytes_of_record r) in
    let whole : bytes_of_records (read ++ r ∷ []) ≡ bytes_of_records read ++ bytes_of_record r =
    flat_map-append bytes_of_record read (r ∷ []) ∙ ap (λ (l : List ℕ). bytes_of_records read ++ l) last in
    e ∙ ap (λ (l : List ℕ). bytes_of_records read ++ l) decoded.spelled
    ∙ sym (append_assoc (bytes_of_records read) (bytes_of_record r) after) ∙ ap (λ (l : List ℕ). l ++ after) (sym whole)

-- it takes some bytes
pub record_takes_bytes : (rest after : List ℕ) (r : Record) → IsDecoded rest r after → length after < length rest
record_takes_bytes rest after r decoded =
    let long : length rest ≡ length (bytes_of_record r ++ after) = ap (λ (l : List ℕ). length l) decoded.spelled in
    let some = some_bytes r in
    omega (arith, long, some, length-append (bytes_of_record r) after)
